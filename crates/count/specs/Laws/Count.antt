-- The laws of the count. It is the least exponent, of which the laws of inverses and of products are known; the others follow from these: what
-- has count 0 adds nothing to a product, and can be taken off again.
use Rattle.std.specs.Prelude.{◌≡◌, refl, List, ℕ, ◌+◌, ◌≤◌}
use Rattle.std.proofs.Common.{sym, ◌∙◌, subst, arith}
use Rattle.matrix.specs.Matrix.{listed}
use Rattle.matrix.specs.Operator.{Operator, operator, times_operator, inverse, negative, SameOperator, Orthogonal, ProperOrthogonal, LeastExponent}
use Rattle.matrix.specs.Laws.Operator.{same_operator_sym, same_operator_of, times_orthogonal, inverse_orthogonal, negative_orthogonal, same_orthogonal, same_proper, even_difference, least_unique, least_same, least_product}
use Rattle.matrix.specs.Laws.Array.{listed_same}
use Rattle.matrix.specs.Laws.Inverse.{inverse_product, cancelled_right, least_inverse}
use Rattle.clifford.specs.Columns.{Clifford}
use Rattle.clifford.specs.Laws.Columns.{orthogonal_clifford}
use Rattle.clifford.specs.Laws.Sign.{sign_least}
use Rattle.reduction.specs.Laws.NormalForm.{cutting}
use Rattle.letter.specs.declared.Gate.{Gate}
use Rattle.gate.specs.Product.{product_of, MultipliesTo, cs_gates}
use Rattle.gate.specs.Laws.Product.{product_exponent, product_orthogonal, multiplied_orthogonal}
use Rattle.gate_list.specs.Laws.List.{some_list}
use Rattle.count.specs.Count.{StandsForClifford, count_of, CountLaws}
use Rattle.count.specs.Laws.Group.{group_laws}

-- ---- of every orthogonal operator

count_least : {A : Operator} → Orthogonal A → LeastExponent A (count_of A)
count_least {A} o =
    let s = listed_same A in
    let c = cutting A.exponent (listed A.matrix) (same_orthogonal s o) in
    subst (LeastExponent A) (sym c.exact) (least_same (same_operator_sym s) c.least)

count_only : {A : Operator} {l : ℕ} → Orthogonal A → LeastExponent A l → count_of A ≡ l
count_only o h = least_unique (count_least o) h

count_same : {A B : Operator} → Orthogonal A → SameOperator A B → count_of A ≡ count_of B
count_same o s = count_only o (least_same (same_operator_sym s) (count_least (same_orthogonal s o)))

count_inverse : {A : Operator} → Orthogonal A → count_of (inverse A) ≡ count_of A
count_inverse o = count_only (inverse_orthogonal o) (least_inverse (count_least o))

count_product : {A B : Operator} → Orthogonal A → Orthogonal B → (d : ℕ) × (count_of A + count_of B ≡ count_of (times_operator A B) + (d + d))
count_product o p = least_product o p (count_least o) (count_least p) (count_least (times_orthogonal o p))

-- A C has at most the count of A, and (A C) C⁻¹, which is A, at most that of A C
zero_right : {A C : Operator} → Orthogonal A → Orthogonal C → count_of C ≡ 0 → count_of (times_operator A C) ≡ count_of A
zero_right {A} o p z =
    let q = times_orthogonal o p in
    let (d, e) = count_product o p in
    let (f, g) = count_product q (inverse_orthogonal p) in
    let i = count_inverse p in
    let s = count_same (times_orthogonal q (inverse_orthogonal p)) (cancelled_right p A) in
    omega arith

-- the inverse of C A is A⁻¹ C⁻¹
zero_left : {A C : Operator} → Orthogonal A → Orthogonal C → count_of C ≡ 0 → count_of (times_operator C A) ≡ count_of A
zero_left {A} {C} o p z =
    let q = times_orthogonal p o in
    sym (count_inverse q) ∙ count_same (inverse_orthogonal q) (inverse_product C A) ∙ zero_right (inverse_orthogonal o) (inverse_orthogonal p) (count_inverse p ∙ z) ∙ count_inverse o

-- ---- of Cliffords

clifford_zero : {C : Operator} → Clifford C → count_of C ≡ 0
clifford_zero {C} c =
    count_only (group_laws.clifford_proper c).orthogonal
    (record { attained = (C.matrix, same_operator_of C (operator 0 C.matrix) c.exponent_zero (λ i j hi hj. refl)); smallest = λ B s. omega arith })

zero_clifford : {A : Operator} → ProperOrthogonal A → count_of A ≡ 0 → StandsForClifford A
zero_clifford {A} a z =
    let (M, s) = (subst (LeastExponent A) z (count_least a.orthogonal)).attained in
    (operator 0 M, orthogonal_clifford M (same_orthogonal s a.orthogonal) (same_proper s a.proper), s)

-- ---- of gate lists

count_attained : {A : Operator} → ProperOrthogonal A → (w : List Gate) × MultipliesTo w A × (cs_gates w ≡ count_of A)
count_attained a = let (w, m, h) = some_list a.orthogonal a.proper in (w, m, sym (count_only a.orthogonal h))

count_gates : {A : Operator} {w : List Gate} → MultipliesTo w A → (d : ℕ) × (cs_gates w ≡ count_of A + (d + d))
count_gates {A} {w} m =
    let h = count_least (multiplied_orthogonal m) in
    let (N, s) = (least_same (same_operator_sym m.same) h).attained in
    let l : count_of A ≤ (product_of w).exponent = h.smallest (product_of w) (same_operator_sym m.same) in
    let (d, e) = even_difference (product_orthogonal w) s l in
    (d, sym (product_exponent w) ∙ e)

pub count_laws : CountLaws
count_laws = record {
  least = λ a. count_least a.orthogonal;
  only = λ a. count_only a.orthogonal;
  same = λ a. count_same a.orthogonal;
  attained = count_attained;
  gates = count_gates;
  inverse = λ a. count_inverse a.orthogonal;
  product = λ a b. count_product a.orthogonal b.orthogonal;
  clifford_right = λ a c. zero_right a.orthogonal (group_laws.clifford_proper c).orthogonal (clifford_zero c);
  clifford_left = λ a c. zero_left a.orthogonal (group_laws.clifford_proper c).orthogonal (clifford_zero c);
  zero = λ a. (zero_clifford a, λ (C, c, s). count_same a.orthogonal s ∙ clifford_zero c);
  negative = λ a. count_only (negative_orthogonal a.orthogonal) (sign_least 1 (count_least a.orthogonal));
}
