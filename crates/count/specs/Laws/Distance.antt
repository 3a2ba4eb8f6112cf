-- The count of A⁻¹ B is a distance between operators, up to a Clifford on the right, and the count that from the Cliffords.
use Rattle.std.specs.Prelude.{◌≡◌, ℕ, ◌+◌, ◌≤◌}
use Rattle.std.proofs.Common.{sym, ap, ◌∙◌, arith}
use Rattle.matrix.specs.Operator.{Operator, times_operator, inverse, SameOperator, ProperOrthogonal}
use Rattle.matrix.specs.Laws.Operator.{same_operator_refl, same_operator_sym, same_operator_trans, times_same, times_assoc}
use Rattle.matrix.specs.Laws.Inverse.{inverse_product, cancelled_left}
use Rattle.count.specs.Count.{count_of, distance, DistanceLaws}
use Rattle.count.specs.Laws.Group.{group_laws}
use Rattle.count.specs.Laws.Count.{count_laws}

-- A⁻¹ B
between : {A B : Operator} → ProperOrthogonal A → ProperOrthogonal B → ProperOrthogonal (times_operator (inverse A) B)
between a b = group_laws.product_closed (group_laws.inverse_closed a) b

-- A A⁻¹ B is B
restored : {A : Operator} → ProperOrthogonal A → (B : Operator) → SameOperator (times_operator A (times_operator (inverse A) B)) B
restored a B = cancelled_left (group_laws.inverse_closed a).orthogonal B

symmetric : {A B : Operator} → ProperOrthogonal A → ProperOrthogonal B → distance A B ≡ distance B A
symmetric {A} {B} a b = sym (count_laws.inverse (between a b)) ∙ count_laws.same (group_laws.inverse_closed (between a b)) (inverse_product (inverse A) B)

-- so B has at most the count of A and that of A⁻¹ B
further : {A B : Operator} → ProperOrthogonal A → ProperOrthogonal B → count_of B ≤ count_of A + distance A B
further {A} {B} a b =
    let (d, e) = count_laws.product a (between a b) in
    let s = count_laws.same (group_laws.product_closed a (between a b)) (restored a B) in
    omega arith

triangle : {A B C : Operator} → ProperOrthogonal A → ProperOrthogonal B → ProperOrthogonal C → (d : ℕ) × (distance A B + distance B C ≡ distance A C + (d + d))
triangle {A} {B} {C} a b c =
    let Y = times_operator (inverse B) C in
    let (d, e) = count_laws.product (between a b) (between b c) in
    let s = count_laws.same (group_laws.product_closed (between a b) (between b c))
    (same_operator_trans (times_assoc (inverse A) B Y) (times_same (same_operator_refl (inverse A)) (restored b C))) in
    (d, e ∙ ap (λ n. n + (d + d)) s)

pub distance_laws : DistanceLaws
distance_laws = record {
  from_clifford = λ a c. count_laws.clifford_left a (group_laws.clifford_inverse c);
  difference = λ a b. (let e = symmetric a b in let l = further b a in omega arith, further a b);
  zero = λ {A} {B} a b. (
    λ z. let (C, c, s) = (count_laws.zero (between a b)).0 z in (C, c, same_operator_trans (same_operator_sym (restored a B)) (times_same (same_operator_refl A) s)),
    λ (C, c, s). (count_laws.zero (between a b)).1 (C, c, same_operator_trans (times_same (same_operator_refl (inverse A)) s) (cancelled_left a.orthogonal C)),
  );
  symmetric = symmetric;
  triangle = triangle;
}
