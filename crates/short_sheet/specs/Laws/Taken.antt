-- What cutting takes from an operator: it depends on the matrix that the operator stands for, no signed permutation on the right changes it, and
-- the product of the generators taken is cut into them again, with the identity left.
use Rattle.std.specs.Prelude.{◌≡◌, refl, List, [], ◌∷◌, ℕ}
use Rattle.std.proofs.Common.{sym, ◌∙◌, subst, arith}
use Rattle.std.proofs.Math.Path.{ap}
use Rattle.matrix.specs.Matrix.{Matrix, Same, δ, product, entry, listed}
use Rattle.matrix.specs.Operator.{raised, Operator, operator, times_operator, identity, SameOperator, Orthogonal, Proper, ProperOrthogonal}
use Rattle.matrix.specs.Laws.Matrix.{product_cong, same_refl}
use Rattle.matrix.specs.Laws.Operator.{same_operator_refl, same_operator_sym, same_operator_trans, same_operator_of, times_same, times_assoc, times_orthogonal, same_orthogonal, same_proper}
use Rattle.matrix.specs.Laws.Inverse.{identity_orthogonal, identity_proper, identity_times, times_identity, cancel_left}
use Rattle.matrix.specs.Laws.Array.{entry_listed, length_listed, listed_is, listed_same, same_least_form}
use Rattle.clifford.specs.Columns.{Clifford}
use Rattle.residue.specs.Generator.{generator}
use Rattle.reduction.specs.Reduction.{generators, taken, remaining, normal_form}
use Rattle.reduction.specs.Laws.NormalForm.{Numbers, normal_orthogonal, Cutting, cutting}
use Rattle.reduction.specs.Laws.Right.{times_right, taken_right}

-- ---- the generators taken, and the matrix that remains

abbrev pub taken_of : Operator → List ℕ
taken_of A = taken A.exponent (listed A.matrix)

abbrev pub remaining_of : Operator → Matrix
remaining_of A = entry (remaining A.exponent (listed A.matrix))

pub taken_same : {A B : Operator} → Orthogonal A → SameOperator A B → taken_of A ≡ taken_of B
taken_same {A} {B} o s =
    ap (λ l. generators l.exponent l.matrix)
    (same_least_form A.exponent B.exponent (listed A.matrix) (listed B.matrix) (length_listed A.matrix) (length_listed B.matrix)
    (same_orthogonal (listed_same A) o) (same_orthogonal (listed_same B) (same_orthogonal s o))
    (same_operator_trans (same_operator_sym (listed_same A)) (same_operator_trans s (listed_same B))))

-- a signed permutation on the right
pub taken_times : {A : Operator} → Orthogonal A → (C : Matrix) → Orthogonal (operator 0 C) → taken_of (times_operator A (operator 0 C)) ≡ taken_of A
taken_times {A} o C c =
    let k = A.exponent in
    let m = listed A.matrix in
    let n = times_right m C in
    taken_same (times_orthogonal o c)
    (same_operator_of (times_operator A (operator 0 C)) (operator k (entry n)) (omega arith)
    (λ i j hi hj. sym (entry_listed (product 6 (entry m) C) i j hi hj ∙ product_cong (entry_listed A.matrix) (same_refl 6 C) i j hi hj)))
    ∙ ap (taken k) (sym (listed_is n (entry n) (length_listed (product 6 (entry m) C)) (λ i j hi hj. refl)))
    ∙ taken_right C c k m (same_orthogonal (listed_same A) o)

-- ---- the product of generators

abbrev pub plain_product : List ℕ → Operator
plain_product gs = normal_form gs δ

pub plain_orthogonal : (gs : List ℕ) → Numbers gs → Orthogonal (plain_product gs)
plain_orthogonal gs n = normal_orthogonal gs δ n identity_orthogonal

plain_times : (gs : List ℕ) (C : Matrix) → SameOperator (normal_form gs C) (times_operator (plain_product gs) (operator 0 C))
unfolding normal_form
plain_times [] C = same_operator_sym (identity_times (operator 0 C))
plain_times (g ∷ gs) C =
    same_operator_trans (times_same (same_operator_refl (operator 1 (generator g))) (plain_times gs C))
    (same_operator_sym (times_assoc (operator 1 (generator g)) (plain_product gs) (operator 0 C)))

module _ {A : Operator} (o : Orthogonal A) where
  cut_of : Cutting A.exponent (listed A.matrix)
  cut_of = cutting A.exponent (listed A.matrix) (same_orthogonal (listed_same A) o)

  pub taken_numbers : Numbers (taken_of A)
  taken_numbers = cut_of.numbers

  -- "one listed product times one Clifford"
  pub taken_product : SameOperator A (times_operator (plain_product (taken_of A)) (operator 0 (remaining_of A)))
  taken_product = same_operator_trans (listed_same A) (same_operator_trans cut_of.same (plain_times (taken_of A) (remaining_of A)))

  pub taken_clifford : Proper A → Clifford (operator 0 (remaining_of A))
  taken_clifford p = cut_of.clifford (same_proper (listed_same A) p)

  pub taken_again : taken_of (plain_product (taken_of A)) ≡ taken_of A
  taken_again = sym (taken_same o taken_product ∙ taken_times (plain_orthogonal (taken_of A) taken_numbers) (remaining_of A) cut_of.orthogonal)

-- numbers that are taken from their product leave the identity
module _ (gs : List ℕ) (n : Numbers gs) (e : taken_of (plain_product gs) ≡ gs) where
  left_identity : SameOperator (operator 0 (remaining_of (plain_product gs))) identity
  left_identity =
      let P = plain_product gs in
      let o = plain_orthogonal gs n in
      cancel_left o
      (same_operator_trans (subst (λ x. SameOperator (times_operator (plain_product x) (operator 0 (remaining_of P))) P) e (same_operator_sym (taken_product o))) (same_operator_sym (times_identity P)))

  pub left_same : Same 6 (remaining_of (plain_product gs)) δ
  unfolding raised
  left_same i j hi hj = ap (λ z. z.0) (left_identity.entries i j hi hj)

  pub plain_proper : ProperOrthogonal (plain_product gs)
  plain_proper =
      let o = plain_orthogonal gs n in
      record {
        orthogonal = o;
        proper = same_proper (same_operator_sym (listed_same (plain_product gs))) ((cut_of o).proper (same_proper (same_operator_sym left_identity) identity_proper));
      }
