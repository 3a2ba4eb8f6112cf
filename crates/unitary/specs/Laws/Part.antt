-- The form by the real or the imaginary parts alone, over root two to the power 2 k + 2 or 2 k + 1: so its exponent is at most 2 k + 2.
use Rattle.std.specs.Prelude.{refl, [], ◌∷◌, ℕ, ◌+◌, ◌*◌, ◌*ℤ◌}
use Rattle.std.proofs.Common.{arith}
use Rattle.std.proofs.Math.IntN.{pos, negsuc}
use Rattle.matrix.specs.Operator.{Operator, operator, SameOperator, negative}
use Rattle.matrix.specs.Laws.Operator.{same_operator_trans, same_operator_of}
use Rattle.matrix.specs.Laws.Ring.{var, num, ◌:+◌, ◌:-◌, ◌:*◌, ◌:=◌, ◌of◌, ring, ring_by}
use Rattle.gaussian.specs.Gaussian.{power, ◌⊗◌}
use Rattle.unitary.specs.Unitary.{Quotient}
use Rattle.unitary.specs.Form.{six_form, form_at, Real}
use Rattle.unitary.specs.Laws.Product.{scaled_same}

module _ (U : Quotient) where
  abbrev k : ℕ
  k = U.exponent

  -- the real and the imaginary parts, as operators of exponent e
  abbrev pub real_part : ℕ → Operator
  real_part e = operator e (λ r c. (six_form U.matrix r c).re)

  abbrev pub imaginary_part : ℕ → Operator
  imaginary_part e = operator e (λ r c. (six_form U.matrix r c).im)

  pub turn_0 : SameOperator (form_at 0 U) (real_part (2 * k + 2))
  unfolding power ◌⊗◌
  turn_0 =
      same_operator_of (form_at 0 U) (real_part (2 * k + 2)) (omega arith)
      (λ r c hr hc. let v = six_form U.matrix r c in ring (v.re ∷ v.im ∷ []) (num (pos 1) :* var 0 :- num (pos 0) :* var 1) (var 0) refl)

  -- all entries are multiples of 1 − i
  pub turn_1 : Real 1 U → SameOperator (form_at 1 U) (real_part (2 * k + 1))
  unfolding power ◌⊗◌
  turn_1 h =
      same_operator_trans
      (same_operator_of (form_at 1 U) (operator (2 * k + 1 + (1 + 1)) (λ r c. pos 2 *ℤ (six_form U.matrix r c).re)) (omega arith)
      (λ r c hr hc.
      let v = six_form U.matrix r c in
      ring_by (v.re ∷ v.im ∷ []) (num (pos 1) :* var 0 :- num (pos 1) :* var 1) (num (pos 2) :* var 0)
      ((num (negsuc 0) of (num (pos 1) :* var 1 :+ num (pos 1) :* var 0 := num (pos 0))) ∷ []) (h r c hr hc, tt) refl))
      (scaled_same 1 (2 * k + 1) (λ r c. (six_form U.matrix r c).re))

  -- all entries are imaginary
  pub turn_2 : SameOperator (form_at 2 U) (negative (imaginary_part (2 * k + 2)))
  unfolding power ◌⊗◌
  turn_2 =
      same_operator_trans
      (same_operator_of (form_at 2 U) (operator (2 * k + 2 + (1 + 1)) (λ r c. pos 2 *ℤ (negsuc 0 *ℤ (six_form U.matrix r c).im))) (omega arith)
      (λ r c hr hc. let v = six_form U.matrix r c in ring (v.re ∷ v.im ∷ []) (num (pos 0) :* var 0 :- num (pos 2) :* var 1) (num (pos 2) :* (num (negsuc 0) :* var 1)) refl))
      (scaled_same 1 (2 * k + 2) (λ r c. negsuc 0 *ℤ (six_form U.matrix r c).im))

  -- all entries are multiples of 1 + i
  pub turn_3 : Real 3 U → SameOperator (form_at 3 U) (negative (real_part (2 * k + 1)))
  unfolding power ◌⊗◌
  turn_3 h =
      same_operator_trans
      (same_operator_of (form_at 3 U) (operator (2 * k + 1 + (2 + 2)) (λ r c. pos 4 *ℤ (negsuc 0 *ℤ (six_form U.matrix r c).re))) (omega arith)
      (λ r c hr hc.
      let v = six_form U.matrix r c in
      ring_by (v.re ∷ v.im ∷ []) (num (negsuc 1) :* var 0 :- num (pos 2) :* var 1) (num (pos 4) :* (num (negsuc 0) :* var 0))
      ((num (pos 1) of (num (negsuc 1) :* var 1 :+ num (pos 2) :* var 0 := num (pos 0))) ∷ []) (h r c hr hc, tt) refl))
      (scaled_same 2 (2 * k + 1) (λ r c. negsuc 0 *ℤ (six_form U.matrix r c).re))
