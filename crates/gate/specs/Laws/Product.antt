-- The product of a gate list, of whatever length: orthogonal, proper, and of exponent the number of its letters C.
use Rattle.std.specs.Prelude.{◌≡◌, refl, ◌≢◌, Bool, true, not, cond, ◌&&◌, List, [], ◌∷◌, ◌++◌, ℕ, ◌<◌, ◌≤◌, T, eqb, ltb, ℤ, pos, negsuc, ◌*ℤ◌, ◌-ℤ◌, ◌<ℤ◌}
use Rattle.std.proofs.Common.{sym, subst, ap, ◌∙◌, arith, ltb→lt, T_not}
use Rattle.std.proofs.Math.Dec.{eqb_refl}
use Rattle.matrix.specs.Range.{every_from}
use Rattle.matrix.specs.Integer.{equals}
use Rattle.matrix.specs.Matrix.{Matrix, Same, δ, product, combined, replaced}
use Rattle.matrix.specs.Array.{everywhere}
use Rattle.matrix.specs.Determinant.{det}
use Rattle.matrix.specs.Operator.{Operator, operator, times_operator, SameOperator, Orthogonal, Proper, LeastExponent}
use Rattle.matrix.specs.Laws.Test.{left, right, T_true, true_T}
use Rattle.matrix.specs.Laws.Integer.{times_positive, equals_eq, *ℤ-unit-l}
use Rattle.matrix.specs.Laws.Matrix.{product_cong, product_id_l, same_refl}
use Rattle.matrix.specs.Laws.Determinant.{det_cong, det_combined, combined_cong, combined_product}
use Rattle.matrix.specs.Laws.Operator.{same_operator_refl, same_operator_sym, same_operator_trans, times_same, times_assoc, times_orthogonal, same_orthogonal, same_proper}
use Rattle.matrix.specs.Laws.Array.{everywhere_sound}
use Rattle.matrix.specs.Laws.Inverse.{identity_orthogonal, identity_proper, identity_times}
use Rattle.clifford.specs.Columns.{columns_matrix, are_permutation}
use Rattle.clifford.specs.Laws.Columns.{permutation_sound, columns_orthogonal}
use Rattle.residue.specs.Laws.Generator.{generator_orthogonal, generator_product, turned_det}
use Rattle.letter.specs.declared.Gate.{Gate}
use Rattle.letter.specs.declared.Gate.TheVariants.{H1, H2, S1, S2, Cz, Cs}
use Rattle.letter.specs.Gate.{columns, is_cs}
use Rattle.gate.specs.Product.{image, product_of, MultipliesTo, cs_gates}

-- ---- the exponent

image_exponent : (g : Gate) → (image g).exponent ≡ cond (is_cs g) 1 0
unfolding image
image_exponent H1 = refl
image_exponent H2 = refl
image_exponent S1 = refl
image_exponent S2 = refl
image_exponent Cz = refl
image_exponent Cs = refl

pub product_exponent : (w : List Gate) → (product_of w).exponent ≡ cs_gates w
unfolding product_of
product_exponent [] = refl
product_exponent (g ∷ w) = rw (image_exponent g, product_exponent w)

-- no list that multiplies to an operator has fewer letters C than its least exponent
pub fewest : {A : Operator} {l : ℕ} {w : List Gate} → LeastExponent A l → MultipliesTo w A → l ≤ cs_gates w
fewest {A} {l} {w} e m = subst (λ n. l ≤ n) (product_exponent w) (e.smallest (product_of w) (same_operator_sym m.same))

-- ---- orthogonal

clifford_orthogonal : (bs : List ℕ) → are_permutation bs ≡ true → Orthogonal (operator 0 (columns_matrix bs))
clifford_orthogonal bs p = columns_orthogonal bs (permutation_sound bs p)

pub image_orthogonal : (g : Gate) → Orthogonal (image g)
unfolding image are_permutation
image_orthogonal H1 = clifford_orthogonal (columns H1) refl
image_orthogonal H2 = clifford_orthogonal (columns H2) refl
image_orthogonal S1 = clifford_orthogonal (columns S1) refl
image_orthogonal S2 = clifford_orthogonal (columns S2) refl
image_orthogonal Cz = clifford_orthogonal (columns Cz) refl
image_orthogonal Cs = generator_orthogonal 3 (omega arith) (omega arith)

pub product_orthogonal : (w : List Gate) → Orthogonal (product_of w)
unfolding product_of
product_orthogonal [] = identity_orthogonal
product_orthogonal (g ∷ w) = times_orthogonal (image_orthogonal g) (product_orthogonal w)

-- ---- proper: an image is a list of row operations, each of determinant 1, or generator 3, of determinant 8

data Operation : Type 0 where
  op : (i j : ℕ) (a b c d : ℤ) → Operation

is_operation : Operation → Bool
is_operation (op i j a b c d) = ltb i 6 && (ltb j 6 && (not (eqb i j) && equals (a *ℤ d -ℤ b *ℤ c) (pos 1)))

-- of a list the last comes first
operated : List Operation → Matrix → Matrix
operated [] M = M
operated (op i j a b c d ∷ os) M = combined i j a b c d (operated os M)

are_operations : List Operation → Bool
are_operations [] = true
are_operations (o ∷ os) = is_operation o && are_operations os

record IsOperation (i j : ℕ) (a b c d : ℤ) : Type 0 where
  low : i < 6
  high : j < 6
  apart : i ≢ j
  one : a *ℤ d -ℤ b *ℤ c ≡ pos 1

operation_sound : (i j : ℕ) (a b c d : ℤ) → T (is_operation (op i j a b c d)) → IsOperation i j a b c d
unfolding is_operation
operation_sound i j a b c d t =
    let t1 = right (ltb i 6) _ t in
    let t2 = right (ltb j 6) _ t1 in
    record {
      low = ltb→lt i 6 (left (ltb i 6) _ t);
      high = ltb→lt j 6 (left (ltb j 6) _ t1);
      apart = λ e. T_not (eqb i j) (left (not (eqb i j)) _ t2) (subst (λ x. T (eqb i x)) e (eqb_refl i));
      one = equals_eq _ _ (T_true _ (right (not (eqb i j)) _ t2));
    }

operated_product : (os : List Operation) → T (are_operations os) → (M : Matrix) → Same 6 (product 6 (operated os δ) M) (operated os M)
unfolding operated are_operations
operated_product [] t M r s hr hs = product_id_l 6 M r s hr hs
operated_product (op i j a b c d ∷ os) t M r s hr hs =
    let o = operation_sound i j a b c d (left (is_operation (op i j a b c d)) _ t) in
    combined_product 6 i j o.low o.high o.apart a b c d (operated os δ) M r s hr hs
    ∙ combined_cong 6 i j o.low o.high o.apart a b c d _ _ (operated_product os (right (is_operation (op i j a b c d)) _ t) M) r s hr hs

operated_det : (os : List Operation) → T (are_operations os) → (M : Matrix) → det 6 (operated os M) ≡ det 6 M
unfolding operated are_operations
operated_det [] t M = refl
operated_det (op i j a b c d ∷ os) t M =
    let o = operation_sound i j a b c d (left (is_operation (op i j a b c d)) _ t) in
    det_combined 6 i j o.low o.high o.apart a b c d (operated os M)
    ∙ ap (λ x. x *ℤ det 6 (operated os M)) o.one
    ∙ *ℤ-unit-l (det 6 (operated os M))
    ∙ operated_det os (right (is_operation (op i j a b c d)) _ t) M

-- two rows exchanged, the first with a minus sign
abbrev turn : ℕ → ℕ → Operation
turn i j = op i j (pos 0) (negsuc 0) (pos 1) (pos 0)

-- two rows negated
abbrev negate : ℕ → ℕ → Operation
negate i j = op i j (negsuc 0) (pos 0) (pos 0) (negsuc 0)

operations : Gate → List Operation
operations H1 = negate 0 1 ∷ turn 0 2 ∷ []
operations H2 = negate 3 4 ∷ turn 3 5 ∷ []
operations S1 = turn 0 1 ∷ []
operations S2 = turn 3 4 ∷ []
operations Cz = turn 0 1 ∷ turn 2 5 ∷ turn 3 4 ∷ []
operations Cs = []

is_operated : Gate → Bool
is_operated g = are_operations (operations g) && everywhere (λ r c. equals (columns_matrix (columns g) r c) (operated (operations g) δ r c))

operated_image_det : (g : Gate) → is_operated g ≡ true → (M : Matrix) → det 6 (product 6 (columns_matrix (columns g)) M) ≡ det 6 M
unfolding is_operated
operated_image_det g t M =
    let v = true_T t in
    let a = left (are_operations (operations g)) _ v in
    let is : Same 6 (columns_matrix (columns g)) (operated (operations g) δ) = λ r c hr hc.
    equals_eq _ _ (everywhere_sound (λ r c. equals (columns_matrix (columns g) r c) (operated (operations g) δ r c)) (T_true _ (right (are_operations (operations g)) _ v)) r c hr hc) in
    det_cong 6 _ _ (λ r c hr hc. product_cong is (same_refl 6 M) r c hr hc ∙ operated_product (operations g) a M r c hr hc) ∙ operated_det (operations g) a M

-- what an image multiplies a determinant by
factor : Gate → ℕ
factor g = cond (is_cs g) 8 1

image_det : (g : Gate) (M : Matrix) → det 6 (product 6 (image g).matrix M) ≡ pos (factor g) *ℤ det 6 M
unfolding image is_operated operations are_operations is_operation operated every_from δ replaced factor
image_det H1 M = operated_image_det H1 refl M ∙ sym (*ℤ-unit-l (det 6 M))
image_det H2 M = operated_image_det H2 refl M ∙ sym (*ℤ-unit-l (det 6 M))
image_det S1 M = operated_image_det S1 refl M ∙ sym (*ℤ-unit-l (det 6 M))
image_det S2 M = operated_image_det S2 refl M ∙ sym (*ℤ-unit-l (det 6 M))
image_det Cz M = operated_image_det Cz refl M ∙ sym (*ℤ-unit-l (det 6 M))
image_det Cs M = det_cong 6 _ _ (generator_product 3 (omega arith) (omega arith) M) ∙ turned_det 3 (omega arith) (omega arith) M

factor_positive : (g : Gate) → 0 < factor g
unfolding factor
factor_positive H1 = omega arith
factor_positive H2 = omega arith
factor_positive S1 = omega arith
factor_positive S2 = omega arith
factor_positive Cz = omega arith
factor_positive Cs = omega arith

pub product_proper : (w : List Gate) → Proper (product_of w)
unfolding product_of
product_proper [] = identity_proper
product_proper (g ∷ w) = record {
  positive = subst (λ z. pos 0 <ℤ z) (sym (image_det g (product_of w).matrix)) (times_positive (factor g) _ (factor_positive g) (product_proper w).positive);
}

-- an operator to which some list multiplies is orthogonal and proper
pub multiplied_orthogonal : {A : Operator} {w : List Gate} → MultipliesTo w A → Orthogonal A
multiplied_orthogonal {A} {w} m = same_orthogonal m.same (product_orthogonal w)

pub multiplied_proper : {A : Operator} {w : List Gate} → MultipliesTo w A → Proper A
multiplied_proper {A} {w} m = same_proper m.same (product_proper w)

-- ---- lists one after the other

pub product_append : (u v : List Gate) → SameOperator (product_of (u ++ v)) (times_operator (product_of u) (product_of v))
unfolding product_of
product_append [] v = same_operator_sym (identity_times (product_of v))
product_append (g ∷ u) v =
    same_operator_trans (times_same (same_operator_refl (image g)) (product_append u v)) (same_operator_sym (times_assoc (image g) (product_of u) (product_of v)))
