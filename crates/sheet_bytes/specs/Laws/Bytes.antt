-- The parts of a sheet are found in its bytes, and with its sign taken into the Clifford a sheet's operator is a normal form.
use Rattle.std.specs.Prelude.{◌≡◌, Bool, true, false, not, cond, List, [], ◌∷◌, ◌++◌, ℕ, ◌+◌, ◌-◌, ◌≤◌, length, get_or, take}
use Rattle.std.proofs.Math.Path.{refl, ap}
use Rattle.std.proofs.Common.{sym, ◌∙◌, append_assoc, drop_at, length-take-le}
use native.Mathlib.Omega.{arith}
use Rattle.std.proofs.Math.ListN.{length-append}
use Rattle.std.proofs.lemmas.List.{length-map, get_or_at}
use Rattle.std.proofs.Math.Seq.{take_at}
use Rattle.matrix.specs.Matrix.{Same, scaled}
use Rattle.matrix.specs.Operator.{SameOperator}
use Rattle.matrix.specs.Laws.Operator.{same_operator_of}
use Rattle.clifford.specs.Columns.{columns_matrix, is_minus, sign_of, times_sign, signed_byte, signed}
use Rattle.clifford.specs.Laws.Columns.{Permutation}
use Rattle.clifford.specs.Laws.Signed.{negated_minus, signed_at, signed_permutation, signed_matrix_lem, signed_twice}
use Rattle.reduction.specs.Reduction.{normal_form}
use Rattle.reduction.specs.Laws.NormalForm.{normal_exponent, normal_cong, normal_scaled}
use Rattle.sheet_bytes.specs.Bytes.{shortest, count_byte, sign_byte, written_columns, sheet_bytes, sheet_numbers, sheet_columns, sheet_sign, sheet_operator, before_sign}

-- ---- the parts

-- a byte behind others: the last one, and those before it
before_last : (xs : List ℕ) (x : ℕ) → before_sign (xs ++ x ∷ []) ≡ xs
before_last xs x = let l = length-append xs (x ∷ []) in take_at xs (x ∷ []) (length (xs ++ x ∷ []) - 1) (omega arith)

last_byte : (xs : List ℕ) (x : ℕ) → sheet_sign (xs ++ x ∷ []) ≡ x
last_byte xs x = let l = length-append xs (x ∷ []) in get_or_at xs x [] 0 (length (xs ++ x ∷ []) - 1) (omega arith)

-- the bytes before the sign
abbrev pub unsigned_bytes : List ℕ → List ℕ → List ℕ
unsigned_bytes gs bs = count_byte (length gs) ∷ (gs ++ written_columns bs)

module _ (gs bs : List ℕ) where
  pub count_first : get_or (sheet_bytes gs bs) 0 0 ≡ count_byte (length gs)
  unfolding sheet_bytes
  count_first = refl

  -- the sign is behind the rest
  sign_last : sheet_bytes gs bs ≡ unsigned_bytes gs bs ++ sign_byte bs ∷ []
  unfolding sheet_bytes
  sign_last = ap (λ x. count_byte (length gs) ∷ x) (sym (append_assoc gs (written_columns bs) (sign_byte bs ∷ [])))

  pub sign_back : sheet_sign (sheet_bytes gs bs) ≡ sign_byte bs
  sign_back = ap sheet_sign sign_last ∙ last_byte (unsigned_bytes gs bs) (sign_byte bs)

  pub before_sign_lem : before_sign (sheet_bytes gs bs) ≡ unsigned_bytes gs bs
  before_sign_lem = ap before_sign sign_last ∙ before_last (unsigned_bytes gs bs) (sign_byte bs)

  pub before_and_sign : sheet_bytes gs bs ≡ before_sign (sheet_bytes gs bs) ++ sign_byte bs ∷ []
  before_and_sign = sign_last ∙ ap (λ x. x ++ sign_byte bs ∷ []) (sym before_sign_lem)

pub written_long : (bs : List ℕ) → length bs ≡ 6 → length (written_columns bs) ≡ 6
written_long bs l = length-map bs (signed_byte (sign_byte bs)) ∙ l

module _ (gs bs : List ℕ) (l : length bs ≡ 6) where
  pub length_bytes : length (sheet_bytes gs bs) ≡ length gs + shortest
  unfolding sheet_bytes
  length_bytes =
      let a = length-append gs (written_columns bs ++ sign_byte bs ∷ []) in
      let b = length-append (written_columns bs) (sign_byte bs ∷ []) in
      let c = written_long bs l in
      omega arith

  pub numbers_back : sheet_numbers (sheet_bytes gs bs) ≡ gs
  unfolding sheet_bytes
  numbers_back = take_at gs (written_columns bs ++ sign_byte bs ∷ []) (length (sheet_bytes gs bs) - shortest) (let e = length_bytes in omega arith)

  pub columns_back : sheet_columns (sheet_bytes gs bs) ≡ written_columns bs
  unfolding sheet_bytes
  columns_back =
      ap (take 6) (drop_at (count_byte (length gs) ∷ gs) (written_columns bs ++ sign_byte bs ∷ []) (length (sheet_bytes gs bs) - 7) (let e = length_bytes in omega arith))
      ∙ take_at (written_columns bs) (sign_byte bs ∷ []) 6 (written_long bs l)

-- the same of the first `count` numbers of an array
pub length_held : (count : ℕ) (numbers bs : List ℕ) → count ≤ length numbers → length bs ≡ 6 → length (sheet_bytes (take count numbers) bs) ≡ count + shortest
length_held count numbers bs h l = length_bytes (take count numbers) bs l ∙ ap (λ n. n + shortest) (length-take-le count numbers h)

-- "written with column 1 positive"
pub positive_first : (bs : List ℕ) → Permutation bs → is_minus (get_or (written_columns bs) 0 0) ≡ false
positive_first bs p =
    let l = p.long in
    ap is_minus (signed_at (sign_byte bs) bs 0 (omega arith)) ∙ go (is_minus b) refl
  where
    b : ℕ
    b = get_or bs 0 0

    go : (t : Bool) → is_minus b ≡ t → is_minus (signed_byte (cond t 1 0) b) ≡ false
    go true e = negated_minus b (p.bytes 0 (omega arith)) ∙ ap not e
    go false e = e

-- ---- the operator

module _ (s : ℕ) (gs bs : List ℕ) (p : Permutation bs) where
  -- times a sign: the sign is taken into the Clifford
  pub sign_taken_in : Same 6 (times_sign s (normal_form gs (columns_matrix bs))).matrix (normal_form gs (columns_matrix (signed s bs))).matrix
  sign_taken_in i j hi hj =
      ap (λ A. A.matrix i j) (sym (normal_scaled gs (sign_of s) (columns_matrix bs)))
      ∙ sym (normal_cong gs (columns_matrix (signed s bs)) (scaled (sign_of s) (columns_matrix bs)) (signed_matrix_lem s bs p) i j hi hj)

  pub times_sign_lem : SameOperator (times_sign s (normal_form gs (columns_matrix bs))) (normal_form gs (columns_matrix (signed s bs)))
  times_sign_lem =
      same_operator_of (times_sign s (normal_form gs (columns_matrix bs))) (normal_form gs (columns_matrix (signed s bs)))
      (normal_exponent gs (columns_matrix bs) ∙ sym (normal_exponent gs (columns_matrix (signed s bs)))) sign_taken_in

-- what is written stands for the generators times what remained after them
pub bytes_operator : (gs bs : List ℕ) → Permutation bs → SameOperator (sheet_operator (sheet_bytes gs bs)) (normal_form gs (columns_matrix bs))
bytes_operator gs bs p =
    rw (sign_back gs bs, numbers_back gs bs p.long, columns_back gs bs p.long)
    (rw (signed_twice (sign_byte bs) bs p) at (times_sign_lem (sign_byte bs) gs (written_columns bs) (signed_permutation (sign_byte bs) bs p)))
