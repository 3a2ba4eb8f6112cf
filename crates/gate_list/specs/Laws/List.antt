-- The gate list of a normal form multiplies to it times its sign, has a letter C for each of its generators, and in each stretch the fewest letters Z.
use Rattle.std.specs.Prelude.{◌≡◌, Bool, true, ◌&&◌, List, [], ◌∷◌, ◌++◌, ℕ, zero, suc, ◌+◌, ◌*◌, ◌%◌, ◌≤◌, ℤ, negsuc, ◌*ℤ◌, length}
use Rattle.std.proofs.Math.Path.{refl}
use Rattle.std.proofs.Common.{sym, ◌∙◌, subst, inl, arith, length-append}
use Rattle.matrix.specs.Range.{sum, every_from, every}
use Rattle.matrix.specs.Integer.{equals}
use Rattle.matrix.specs.Matrix.{Matrix, Same, δ, product, entry, listed}
use Rattle.matrix.specs.Operator.{Operator, operator, times_operator, identity, SameOperator, SameUpToSign, Orthogonal, Proper, LeastExponent}
use Rattle.matrix.specs.Array.{everywhere}
use Rattle.matrix.specs.Laws.Test.{left, right, T_true}
use Rattle.matrix.specs.Laws.Integer.{equals_eq}
use Rattle.matrix.specs.Laws.Matrix.{product_id_l, product_cong, same_refl}
use Rattle.matrix.specs.Laws.Operator.{same_operator_refl, same_operator_sym, same_operator_trans, same_operator_of, times_same, times_assoc, same_orthogonal, same_proper, least_same}
use Rattle.matrix.specs.Laws.Array.{everywhere_sound, listed_same}
use Rattle.matrix.specs.Laws.Inverse.{times_identity}
use Rattle.clifford.specs.Columns.{columns_matrix, column_bytes, times_sign, are_permutation, is_even}
use Rattle.clifford.specs.Laws.Columns.{permutation_complete, matrix_permutation, matrix_columns}
use Rattle.clifford.specs.Laws.Sign.{sign_same, sign_none, times_sign_r, times_signs, sign_least, sign_of_both, sign_follows, up_trans}
use Rattle.sign.specs.Laws.Sign.{proper_even}
use Rattle.residue.specs.Generator.{table, place, generator}
use Rattle.residue.specs.Laws.Table.{numbered}
use Rattle.reduction.specs.Reduction.{count, taken, remaining, normal_form}
use Rattle.reduction.specs.Laws.NormalForm.{Numbers, cutting, normal_form_same}
use Rattle.letter.specs.declared.Gate.{Gate}
use Rattle.letter.specs.declared.Gate.TheVariants.{Cz, Cs}
use Rattle.letter.specs.Gate.{is_cs}
use Rattle.letter.specs.Composition.{composed, identity_columns}
use Rattle.word.specs.Word.{clifford_word, word_sign}
use Rattle.letter.specs.Laws.Matrix.{unit_matrix}
use Rattle.word.specs.Laws.Word.{number_append, word_length, word_cs}
use Rattle.gate.specs.Product.{image, product_of, MultipliesTo, cs_gates}
use Rattle.gate.specs.Laws.Product.{product_append, fewest}
use Rattle.crossing.specs.Crossing.{EachStretch}
use Rattle.crossing.specs.Laws.Stretch.{each_one, each_more}
use Rattle.gate_list.specs.List.{IsClifford, lefts, rights, left_of, right_of, stretch_sign, stretches, signs, list_of, sign_of_list}
use Rattle.gate_list.specs.Promise.{ListFor}
use Rattle.gate_list.specs.Laws.Word.{clifford, clifford_word_lem, times_clifford, composed_clifford, clifford_fewest}

-- ---- the table

-- the Clifford on the left, generator 3 and the Clifford on the right, multiplied
abbrev between : ℕ → Matrix
between g = product 6 (columns_matrix (left_of g)) (product 6 (generator 3) (columns_matrix (right_of g)))

is_split : ℕ → Bool
is_split g = everywhere (λ r c. equals (generator g r c) (between g r c))

cliffords : ℕ → Bool
cliffords g = (are_permutation (left_of g) && is_even (left_of g)) && (are_permutation (right_of g) && is_even (right_of g))

all_split : every 15 (λ a. is_split (suc a)) ≡ true
unfolding every_from is_split generator place table sum δ left_of right_of lefts rights
all_split = refl

all_cliffords : every 15 (λ a. cliffords (suc a)) ≡ true
unfolding every_from cliffords are_permutation is_even left_of right_of lefts rights
all_cliffords = refl

module _ (g : ℕ) (l : 1 ≤ g) (u : g ≤ 15) where
  -- "Each is one CS between Cliffords"
  pub generator_split : SameOperator (operator 1 (generator g)) (times_operator (clifford (left_of g)) (times_operator (operator 1 (generator 3)) (clifford (right_of g))))
  unfolding is_split
  generator_split =
      same_operator_of (operator 1 (generator g)) (times_operator (clifford (left_of g)) (times_operator (operator 1 (generator 3)) (clifford (right_of g)))) refl
      (λ r c hr hc. equals_eq _ _ (everywhere_sound (λ r c. equals (generator g r c) (between g r c)) (T_true _ (numbered is_split 15 all_split g l u)) r c hr hc))

  pub both_cliffords : IsClifford (left_of g) × IsClifford (right_of g)
  unfolding cliffords
  both_cliffords =
      let t = numbered cliffords 15 all_cliffords g l u in
      let a = left (are_permutation (left_of g) && is_even (left_of g)) _ t in
      let b = right (are_permutation (left_of g) && is_even (left_of g)) _ t in (
        record { permutation = T_true _ (left (are_permutation (left_of g)) _ a); even = T_true _ (right (are_permutation (left_of g)) _ a) },
        record { permutation = T_true _ (left (are_permutation (right_of g)) _ b); even = T_true _ (right (are_permutation (right_of g)) _ b) },
      )

-- ---- the list

-- the word of a Clifford, C, and a list
then_cs : (bs : List ℕ) → IsClifford bs → (v : List Gate) (B : Operator) (t : ℕ) → SameOperator (product_of v) (times_sign (t % 2) B)
    → SameOperator (product_of (clifford_word bs ++ Cs ∷ v)) (times_sign ((word_sign bs + t) % 2) (times_operator (clifford bs) (times_operator (operator 1 (generator 3)) B)))
unfolding product_of image
then_cs bs b v B t m =
    let C = operator 1 (generator 3) in
    same_operator_trans (product_append (clifford_word bs) (Cs ∷ v))
    (same_operator_trans (times_same (clifford_word_lem bs b) (same_operator_trans (times_same (same_operator_refl C) m) (times_sign_r (t % 2) C B)))
    (times_signs (word_sign bs) t (clifford bs) (times_operator C B)))

-- (K L) (G (R N)) is K ((L (G R)) N)
regrouped : (K L R N G : Operator) → SameOperator (times_operator (times_operator K L) (times_operator G (times_operator R N))) (times_operator K (times_operator (times_operator L (times_operator G R)) N))
regrouped K L R N G =
    same_operator_trans (times_assoc K L (times_operator G (times_operator R N)))
    (times_same (same_operator_refl K)
    (same_operator_sym (same_operator_trans (times_assoc L (times_operator G R) N) (times_same (same_operator_refl L) (times_assoc G R N)))))

pub numbers_head : (g : ℕ) (gs : List ℕ) → Numbers (g ∷ gs) → (1 ≤ g) × (g ≤ 15)
numbers_head g gs n = n 0 (omega arith)

pub numbers_tail : (g : ℕ) (gs : List ℕ) → Numbers (g ∷ gs) → Numbers gs
numbers_tail g gs n i h = n (suc i) (omega arith)

stretches_product : (bs gs cs : List ℕ) → IsClifford bs → Numbers gs → IsClifford cs
    → SameOperator (product_of (stretches bs gs cs)) (times_sign (signs bs gs cs % 2) (times_operator (clifford bs) (normal_form gs (columns_matrix cs))))
unfolding stretches signs normal_form
stretches_product bs [] cs b n c =
    same_operator_trans (clifford_word_lem (composed bs cs) (composed_clifford bs cs b c)) (sign_same (word_sign (composed bs cs) % 2) (same_operator_sym (times_clifford bs cs b c)))
stretches_product bs (g ∷ gs) cs b n c =
    let (l, u) = numbers_head g gs n in
    let (a, d) = both_cliffords g l u in
    let N = normal_form gs (columns_matrix cs) in
    let C = operator 1 (generator 3) in
    let t = signs (right_of g) gs cs in
    same_operator_trans
    (then_cs (composed bs (left_of g)) (composed_clifford bs (left_of g) b a) (stretches (right_of g) gs cs) (times_operator (clifford (right_of g)) N) t
    (stretches_product (right_of g) gs cs d (numbers_tail g gs n) c))
    (sign_same ((stretch_sign bs g + t) % 2)
    (same_operator_trans (times_same (same_operator_sym (times_clifford bs (left_of g) b a)) (same_operator_refl (times_operator C (times_operator (clifford (right_of g)) N))))
    (same_operator_trans (regrouped (clifford bs) (clifford (left_of g)) (clifford (right_of g)) N C)
    (times_same (same_operator_refl (clifford bs)) (times_same (same_operator_sym (generator_split g l u)) (same_operator_refl N))))))

stretches_fewest : (bs gs cs : List ℕ) → IsClifford bs → Numbers gs → IsClifford cs → EachStretch (stretches bs gs cs)
unfolding stretches
stretches_fewest bs [] cs b n c = each_one (clifford_word (composed bs cs)) (clifford_fewest (composed bs cs) (composed_clifford bs cs b c))
stretches_fewest bs (g ∷ gs) cs b n c =
    let (l, u) = numbers_head g gs n in
    let (a, d) = both_cliffords g l u in
    each_more (clifford_word (composed bs (left_of g))) (stretches (right_of g) gs cs)
    (clifford_fewest (composed bs (left_of g)) (composed_clifford bs (left_of g) b a))
    (stretches_fewest (right_of g) gs cs d (numbers_tail g gs n) c)

stretches_cs : (bs gs cs : List ℕ) → cs_gates (stretches bs gs cs) ≡ length gs
unfolding stretches
stretches_cs bs [] cs = word_cs (composed bs cs)
stretches_cs bs (g ∷ gs) cs =
    number_append is_cs (clifford_word (composed bs (left_of g))) (Cs ∷ stretches (right_of g) gs cs)
    ∙ rw (word_cs (composed bs (left_of g)), stretches_cs (right_of g) gs cs) (omega arith)

-- at most 21 letters between two letters C
stretches_length : (bs gs cs : List ℕ) → length (stretches bs gs cs) ≤ 21 + 22 * length gs
unfolding stretches
stretches_length bs [] cs = word_length (composed bs cs)
stretches_length bs (g ∷ gs) cs =
    let a = word_length (composed bs (left_of g)) in
    let b = stretches_length (right_of g) gs cs in
    let e = length-append (clifford_word (composed bs (left_of g))) (Cs ∷ stretches (right_of g) gs cs) in
    omega arith

-- ---- the theorem: every proper orthogonal operator or its negative is the product of a list with exactly its least exponent many letters C

pub identity_clifford : IsClifford identity_columns
unfolding are_permutation is_even
identity_clifford = record { permutation = refl; even = refl }

-- the product with the identity on the left
identity_times : (A : Operator) → SameOperator (times_operator (clifford identity_columns) A) A
identity_times A =
    same_operator_of (times_operator (clifford identity_columns) A) A (omega arith)
    (λ r c hr hc. product_cong (λ r c hr hc. sym (unit_matrix r c hr hc)) (same_refl 6 A.matrix) r c hr hc ∙ product_id_l 6 A.matrix r c hr hc)

-- no list that multiplies to an operator or to its negative has fewer letters C than its least exponent
fewest_both : {A : Operator} {l : ℕ} → LeastExponent A l → (v : List Gate) → SameUpToSign (product_of v) A → l ≤ cs_gates v
fewest_both e v u = let (s, h) = sign_of_both u in fewest (sign_least s e) (record { same = h })

-- what remains is a Clifford
pub left_clifford : (k : ℕ) (m : List ℤ) → Orthogonal (operator k (entry m)) → Proper (operator k (entry m)) → IsClifford (column_bytes (entry (remaining k m)))
left_clifford k m o p =
    let c = cutting k m o in
    let R = entry (remaining k m) in
    let perm = matrix_permutation R c.orthogonal in
    record {
      permutation = permutation_complete (column_bytes R) perm;
      even = proper_even (column_bytes R) perm
          (same_proper (same_operator_sym (same_operator_of (clifford (column_bytes R)) (operator 0 R) refl (matrix_columns R c.orthogonal))) (c.clifford p).proper);
    }

pub list_of_lem : (k : ℕ) (m : List ℤ) → Orthogonal (operator k (entry m)) → Proper (operator k (entry m))
    → ListFor (operator k (entry m)) (count k m) (list_of k m) (sign_of_list k m)
list_of_lem k m o p =
    let c = cutting k m o in
    let cs = column_bytes (entry (remaining k m)) in
    let clifford-cs = left_clifford k m o p in
    let same : Same 6 (columns_matrix cs) (entry (remaining k m)) = matrix_columns (entry (remaining k m)) c.orthogonal in
    let e : cs_gates (list_of k m) ≡ count k m = stretches_cs identity_columns (taken k m) cs ∙ c.exact in
    let s : SameOperator (product_of (list_of k m)) (times_sign (sign_of_list k m) (operator k (entry m))) =
    same_operator_trans (stretches_product identity_columns (taken k m) cs identity_clifford c.numbers clifford-cs)
    (sign_same (sign_of_list k m)
    (same_operator_trans (identity_times (normal_form (taken k m) (columns_matrix cs)))
    (same_operator_trans (normal_form_same (taken k m) (columns_matrix cs) (entry (remaining k m)) same) (same_operator_sym c.same)))) in
    record {
      multiplies = record { same = s };
      small = omega arith;
      follows = λ r l h. sign_follows r (sign_of_list k m) l (omega arith) o h.same s;
      exact = e;
      least = c.least;
      fewest = λ v u. rw e (fewest_both c.least v u);
      short = let a = stretches_length identity_columns (taken k m) cs in let b = c.exact in omega arith;
      stretches = stretches_fewest identity_columns (taken k m) cs identity_clifford c.numbers clifford-cs;
    }

-- a list for an operator is one for every operator that is the same
pub same_list_for : {A B : Operator} {t : ℕ} {w : List Gate} {s : ℕ} → SameOperator A B → ListFor A t w s → ListFor B t w s
same_list_for {s = s} h l = record {
  multiplies = record { same = same_operator_trans l.multiplies.same (sign_same s h) };
  small = l.small;
  follows = λ r b m. l.follows r b (record { same = same_operator_trans m.same (sign_same r (same_operator_sym h)) });
  exact = l.exact;
  least = least_same h l.least;
  fewest = λ v u. l.fewest v (up_trans u (inl (same_operator_sym h)));
  short = l.short;
  stretches = l.stretches;
}

-- ---- a list for the operator itself

-- ZZ is −1
double_z : everywhere (λ r c. equals ((product_of (Cz ∷ Cz ∷ [])).matrix r c) (negsuc 0 *ℤ δ r c)) ≡ true
unfolding every_from product_of image sum δ
double_z = refl

minus_one_lem : SameOperator (product_of (Cz ∷ Cz ∷ [])) (times_sign 1 identity)
unfolding product_of image
minus_one_lem =
    same_operator_of (product_of (Cz ∷ Cz ∷ [])) (times_sign 1 identity) refl
    (λ r c hr hc. equals_eq _ _ (everywhere_sound (λ r c. equals ((product_of (Cz ∷ Cz ∷ [])).matrix r c) (negsuc 0 *ℤ δ r c)) double_z r c hr hc))

-- a list for the negative, with ZZ behind it
pub turned_list : {A : Operator} {w : List Gate} → MultipliesTo w (times_sign 1 A) → MultipliesTo (w ++ Cz ∷ Cz ∷ []) A
turned_list {A} {w} h = record {
  same = same_operator_trans (product_append w (Cz ∷ Cz ∷ []))
      (same_operator_trans (times_same h.same minus_one_lem)
      (same_operator_trans (times_signs 1 1 A identity)
      (same_operator_trans (sign_none (times_operator A identity)) (times_identity A))));
}

-- with as many letters C as the least exponent says
pub some_list : {A : Operator} → Orthogonal A → Proper A → (w : List Gate) × MultipliesTo w A × LeastExponent A (cs_gates w)
some_list {A} o p =
    let s = listed_same A in
    let k = A.exponent in
    let m = listed A.matrix in
    go (list_of k m) (sign_of_list k m) (same_list_for (same_operator_sym s) (list_of_lem k m (same_orthogonal s o) (same_proper s p)))
  where
    go : {t : ℕ} (w : List Gate) (s : ℕ) → ListFor A t w s → (w : List Gate) × MultipliesTo w A × LeastExponent A (cs_gates w)
    go w zero l = (w, record { same = same_operator_trans l.multiplies.same (sign_none A) }, subst (LeastExponent A) (sym l.exact) l.least)
    go w (suc zero) l =
        let e : cs_gates (w ++ Cz ∷ Cz ∷ []) ≡ cs_gates w = number_append is_cs w (Cz ∷ Cz ∷ []) ∙ omega arith in
        (w ++ Cz ∷ Cz ∷ [], turned_list l.multiplies, subst (LeastExponent A) (sym (e ∙ l.exact)) l.least)
    go w (suc (suc s)) l = let h = l.small in absurd (omega arith)
