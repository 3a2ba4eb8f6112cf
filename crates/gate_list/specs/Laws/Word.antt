-- The word of a Clifford as a gate list: it multiplies to the Clifford times its sign, and has the fewest letters Z.
use Rattle.std.specs.Prelude.{◌≡◌, refl, Bool, true, false, cond, List, ◌++◌, ℕ, ◌+◌, ◌%◌, ◌≤◌}
use Rattle.std.proofs.Common.{sym, ap, subst, ◌∙◌}
use Rattle.matrix.specs.Matrix.{Same, scaled}
use Rattle.matrix.specs.Operator.{Operator, operator, times_operator, SameOperator}
use Rattle.matrix.specs.Laws.Operator.{same_operator_sym, same_operator_trans, same_operator_of, times_same, same_proper}
use Rattle.clifford.specs.Columns.{columns_matrix, sign_of, times_sign, signed}
use Rattle.clifford.specs.Laws.Columns.{permutation_sound}
use Rattle.clifford.specs.Laws.Signed.{signed_permutation, signed_matrix_lem}
use Rattle.clifford.specs.Laws.Sign.{sign_same, times_signs}
use Rattle.sign.specs.Laws.Sign.{proper_even, signed_even}
use Rattle.letter.specs.Gate.{is_cz, word_matrix, number}
use Rattle.letter.specs.Composition.{composed}
use Rattle.letter.specs.Laws.Signed.{Perm, perm, bytes, from_bytes}
use Rattle.letter.specs.Laws.Bytes.{row_byte, bytes_from}
use Rattle.letter.specs.Laws.Matrix.{composed_matrix, composed_permutation}
use Rattle.word.specs.Word.{halves_even, clifford_word, word_sign, crossings}
use Rattle.word.specs.Laws.Word.{word_cs, word_z, word_matrix_lem}
use Rattle.gate.specs.Product.{product_of}
use Rattle.gate.specs.Laws.Product.{product_append, product_proper}
use Rattle.crossing.specs.Crossing.{crossing_number, FewestZ}
use Rattle.crossing.specs.Laws.Crossing.{crossings_of, crossing_of, stretch_product, fewest_z}
use Rattle.gate_list.specs.List.{IsClifford}

abbrev pub clifford : List ℕ → Operator
clifford bs = operator 0 (columns_matrix bs)

-- ---- the product

one_sign : (bs : List ℕ) → word_sign bs % 2 ≡ word_sign bs
one_sign bs = go (halves_even bs)
  where
    go : (t : Bool) → cond t 0 1 % 2 ≡ cond t 0 1
    go true = refl
    go false = refl

pub clifford_word_lem : (bs : List ℕ) → IsClifford bs → SameOperator (product_of (clifford_word bs)) (times_sign (word_sign bs % 2) (clifford bs))
clifford_word_lem bs c =
    rw (stretch_product (clifford_word bs) (word_cs bs), one_sign bs)
    (same_operator_of (operator 0 (word_matrix (clifford_word bs))) (times_sign (word_sign bs) (clifford bs)) refl (word_matrix_lem bs c.permutation c.even))

-- ---- two Cliffords

pub times_clifford : (bs cs : List ℕ) → IsClifford bs → IsClifford cs → SameOperator (times_operator (clifford bs) (clifford cs)) (clifford (composed bs cs))
times_clifford bs cs b c = same_operator_of (times_operator (clifford bs) (clifford cs)) (clifford (composed bs cs)) refl (composed_matrix bs cs b.permutation c.permutation)

pub composed_clifford : (bs cs : List ℕ) → IsClifford bs → IsClifford cs → IsClifford (composed bs cs)
composed_clifford bs cs b c =
    let x = composed bs cs in
    let s = (word_sign bs + word_sign cs) % 2 in
    let t = composed_permutation bs cs b.permutation c.permutation in
    let p = permutation_sound x t in
    record {
      permutation = t;
      even = sym (signed_even s x p)
          ∙ proper_even (signed s x) (signed_permutation s x p)
          (same_proper
          (same_operator_trans (product_append (clifford_word bs) (clifford_word cs))
          (same_operator_trans (times_same (clifford_word_lem bs b) (clifford_word_lem cs c))
          (same_operator_trans (times_signs (word_sign bs) (word_sign cs) (clifford bs) (clifford cs))
          (same_operator_trans (sign_same s (times_clifford bs cs b c))
          (same_operator_sym (same_operator_of (clifford (signed s x)) (times_sign s (clifford x)) refl (signed_matrix_lem s x p)))))))
          (product_proper (clifford_word bs ++ clifford_word cs)));
    }

-- ---- the letters Z

crossings_bytes : (g : Perm) → crossings (bytes g) ≡ crossings_of g
crossings_bytes (perm a b c d e f) = rw (row_byte a, row_byte b, row_byte c)

word_crossing : (bs : List ℕ) → IsClifford bs → number is_cz (clifford_word bs) ≡ crossing_number (product_of (clifford_word bs)).matrix
word_crossing bs c =
    let b = bytes_from bs c.permutation in
    word_z bs ∙ ap crossings (sym b) ∙ crossings_bytes (from_bytes bs)
    ∙ sym
    (crossing_of (word_sign bs) (word_matrix (clifford_word bs)) (from_bytes bs)
    (subst (λ x. Same 6 (word_matrix (clifford_word bs)) (scaled (sign_of (word_sign bs)) (columns_matrix x))) (sym b) (word_matrix_lem bs c.permutation c.even)))
    ∙ ap (λ (A : Operator). crossing_number A.matrix) (sym (stretch_product (clifford_word bs) (word_cs bs)))

pub clifford_fewest : (bs : List ℕ) → IsClifford bs → FewestZ (clifford_word bs)
clifford_fewest bs c =
    let e = word_crossing bs c in
    record {
      no_cs = word_cs bs;
      exact = e;
      fewest = λ v n u. subst (λ k. k ≤ number is_cz v) (sym e) (fewest_z v (clifford_word bs) n (word_cs bs) u);
    }
