-- Proper orthogonal operators form a group, and so do Cliffords. A product is proper because the gate lists of its factors, one after the other,
-- multiply to it; an inverse is, because the inverse of each letter's image is.
use Rattle.std.specs.Prelude.{◌≡◌, refl, List, [], ◌∷◌, ◌++◌, ◌<ℤ◌}
use Rattle.std.proofs.Common.{sym, ◌∙◌, subst, arith}
use lib.IntN.{pos, negsuc, pow}
use Rattle.matrix.specs.Range.{sum}
use Rattle.matrix.specs.Matrix.{δ}
use Rattle.matrix.specs.Determinant.{skip, det}
use Rattle.matrix.specs.Operator.{Operator, operator, times_operator, identity, inverse, negative, Orthogonal, Proper, ProperOrthogonal}
use Rattle.matrix.specs.Laws.Integer.{*ℤ-unit-l}
use Rattle.matrix.specs.Laws.Sum.{δ_sym}
use Rattle.matrix.specs.Laws.Determinant.{det_scaled}
use Rattle.matrix.specs.Laws.Operator.{same_operator_sym, same_operator_trans, same_operator_of, times_same, times_orthogonal, inverse_orthogonal, negative_orthogonal, same_proper}
use Rattle.matrix.specs.Laws.Inverse.{inverse_same, inverse_product, times_inverse, inverse_times}
use Rattle.clifford.specs.Columns.{Clifford}
use Rattle.clifford.specs.Laws.Columns.{orthogonal_clifford, clifford_orthogonal}
use Rattle.residue.specs.Generator.{table, place, generator}
use Rattle.letter.specs.declared.Gate.{Gate}
use Rattle.letter.specs.declared.Gate.TheVariants.{H1, H2, S1, S2, Cz, Cs}
use Rattle.gate.specs.Product.{image, product_of}
use Rattle.gate.specs.Laws.Product.{image_orthogonal, product_orthogonal, product_proper, product_append, multiplied_proper}
use Rattle.gate_list.specs.Laws.List.{some_list}
use Rattle.count.specs.Count.{GroupLaws}

-- ---- proper operators

times_proper : {A B : Operator} → ProperOrthogonal A → ProperOrthogonal B → Proper (times_operator A B)
times_proper {A} {B} a b =
    let (u, s, n) = some_list a.orthogonal a.proper in
    let (v, t, m) = some_list b.orthogonal b.proper in
    multiplied_proper {A = times_operator A B} {w = u ++ v} (record { same = same_operator_trans (product_append u v) (times_same s.same t.same) })

times_closed : {A B : Operator} → ProperOrthogonal A → ProperOrthogonal B → ProperOrthogonal (times_operator A B)
times_closed a b = record { orthogonal = times_orthogonal a.orthogonal b.orthogonal; proper = times_proper a b }

letter_inverse : (g : Gate) → Proper (inverse (image g))
unfolding image det sum skip pow lib.IntN.one δ generator place table
letter_inverse H1 = record { positive = record { lt = tt } }
letter_inverse H2 = record { positive = record { lt = tt } }
letter_inverse S1 = record { positive = record { lt = tt } }
letter_inverse S2 = record { positive = record { lt = tt } }
letter_inverse Cz = record { positive = record { lt = tt } }
letter_inverse Cs = record { positive = record { lt = tt } }

list_inverse : (w : List Gate) → Proper (inverse (product_of w))
unfolding product_of
list_inverse [] = same_proper (same_operator_of identity (inverse identity) refl (λ i j hi hj. δ_sym i j)) (product_proper [])
list_inverse (g ∷ w) =
    same_proper (same_operator_sym (inverse_product (image g) (product_of w)))
    (times_proper (record { orthogonal = inverse_orthogonal (product_orthogonal w); proper = list_inverse w })
    (record { orthogonal = inverse_orthogonal (image_orthogonal g); proper = letter_inverse g }))

inverse_closed : {A : Operator} → ProperOrthogonal A → ProperOrthogonal (inverse A)
inverse_closed a =
    let (w, m, n) = some_list a.orthogonal a.proper in
    record { orthogonal = inverse_orthogonal a.orthogonal; proper = same_proper (inverse_same m.same) (list_inverse w) }

-- (−1) to the power 6 is 1
negative_closed : {A : Operator} → ProperOrthogonal A → ProperOrthogonal (negative A)
unfolding pow lib.IntN.one
negative_closed {A} a = record {
  orthogonal = negative_orthogonal a.orthogonal;
  proper = record { positive = subst (λ z. pos 0 <ℤ z) (sym (det_scaled 6 (negsuc 0) A.matrix ∙ *ℤ-unit-l (det 6 A.matrix))) a.proper.positive };
}

-- ---- Cliffords

clifford_proper : {C : Operator} → Clifford C → ProperOrthogonal C
clifford_proper {C} c =
    let e = c.exponent_zero in
    record {
      orthogonal = subst (λ k. Orthogonal (operator k C.matrix)) (sym e) (clifford_orthogonal C.matrix (subst (λ k. Clifford (operator k C.matrix)) e c));
      proper = c.proper;
    }

-- a proper orthogonal operator of exponent 0
proper_clifford : {C : Operator} → C.exponent ≡ 0 → ProperOrthogonal C → Clifford C
proper_clifford {C} e p =
    subst (λ k. Clifford (operator k C.matrix)) (sym e)
    (orthogonal_clifford C.matrix (subst (λ k. Orthogonal (operator k C.matrix)) e p.orthogonal) (record { positive = p.proper.positive }))

pub group_laws : GroupLaws
group_laws = record {
  inverse_right = λ a. times_inverse a.orthogonal;
  inverse_left = λ a. inverse_times a.orthogonal;
  inverse_closed = inverse_closed;
  product_closed = times_closed;
  negative_closed = negative_closed;
  clifford_proper = clifford_proper;
  clifford_inverse = λ c. proper_clifford c.exponent_zero (inverse_closed (clifford_proper c));
  clifford_product = λ c d. let e = c.exponent_zero in let f = d.exponent_zero in proper_clifford (omega arith) (times_closed (clifford_proper c) (clifford_proper d));
}
