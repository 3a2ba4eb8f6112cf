-- The forms of products, and the form of a list of plain gates: the product of the letters' images.
use Rattle.std.specs.Prelude.{◌≡◌, refl, List, [], ◌∷◌, ℕ, suc, ◌+◌, ◌*◌, ◌^◌, ◌<◌, ℤ, pos, ◌*ℤ◌}
use Rattle.std.proofs.Common.{sym, ◌∙◌, ap₂, arith}
use Rattle.std.proofs.Math.Path.{ap}
use Rattle.matrix.specs.Matrix.{δ}
use Rattle.matrix.specs.Operator.{operator, times_operator, SameOperator, raised, whole}
use Rattle.matrix.specs.Laws.Integer.{double_cancel}
use Rattle.matrix.specs.Laws.Ring.{var, num, ◌:+◌, ◌:*◌}
use Rattle.matrix.specs.Laws.Operator.{same_operator_sym, same_operator_trans, same_operator_of, times_same, halved_same, raised_sum, raised_twice}
use Rattle.letter.specs.declared.Gate.{Gate}
use Rattle.letter.specs.declared.Gate.TheVariants.{H1, H2, S1, S2, Cz, Cs}
use Rattle.gate.specs.Product.{image, product_of}
use Rattle.gaussian.specs.Gaussian.{gaussian, real, one+i, ◌⊕◌, ◌⊗◌, power, sum, identity, product, scaled}
use Rattle.unitary.specs.Unitary.{Quotient, quotient, times_quotient, turned, plain, plain_of}
use Rattle.unitary.specs.Form.{six_form, form_entry, form_at, Real}
use Rattle.gaussian.specs.Laws.Gaussian.{ringᴳ, ⊗-unit-l, power_sum, real-⊗}
use Rattle.gaussian.specs.Laws.Matrix.{real_sum, sum_cong, product_scaled_l, product_scaled_r}
use Rattle.unitary.specs.Laws.Finite.{gate_turn, plain_form}
use Rattle.unitary.specs.Laws.Form.{six_product, six_identity, six_scaled}

-- 2^d times the matrix, over root two to the power of 2 d more
pub scaled_same : (d e : ℕ) (M : ℕ → ℕ → ℤ) → SameOperator (operator (e + (d + d)) (λ r c. pos (2 ^ d) *ℤ M r c)) (operator e M)
scaled_same d e M = record { entries = λ i j hi hj. sym (raised_sum e (d + d) (whole (M i j)) ∙ ap (raised e) (raised_twice d (M i j))) }

-- ---- products

module _ (U W : Quotient) (s t : ℕ) (h : Real s U) (l : Real t W) where
  twofold : (i k : ℕ) → i < 6 → k < 6
      → real (Rattle.matrix.specs.Range.sum 6 (λ j. (form_entry s U i j).re *ℤ (form_entry t W j k).re)) ≡ form_entry (s + t) (times_quotient U W) i k ⊕ form_entry (s + t) (times_quotient U W) i k
  twofold i k hi hk =
      let X = six_form U.matrix in
      let X' = six_form W.matrix in
      let v = six_form (product 4 U.matrix W.matrix) i k in
      let a = power one+i s in
      let b = power one+i t in
      sym (real_sum 6 (λ j. (form_entry s U i j).re *ℤ (form_entry t W j k).re))
      ∙ sum_cong (λ j hj. sym (real-⊗ (form_entry s U i j).re (form_entry t W j k).re) ∙ ap₂ (λ x y. x ⊗ y) (sym (ap₂ gaussian refl (h i j hi hj))) (sym (ap₂ gaussian refl (l j k hj hk))))
      ∙ ap (λ Y. Y i k) (product_scaled_l 6 a X (scaled b X'))
      ∙ ap (λ Y. a ⊗ Y i k) (product_scaled_r 6 b X X')
      ∙ ap (λ x. a ⊗ (b ⊗ x)) (six_product U.matrix W.matrix i k hi hk)
      ∙ ringᴳ (a ∷ b ∷ v ∷ []) (var 0 :* (var 1 :* (num (pos 2) :* var 2))) (var 0 :* var 1 :* var 2 :+ var 0 :* var 1 :* var 2) refl refl
      ∙ ap (λ x. x ⊗ v ⊕ x ⊗ v) (sym (power_sum one+i s t))

  pub product_real : Real (s + t) (times_quotient U W)
  unfolding ◌⊕◌
  product_real i k hi hk = double_cancel (form_entry (s + t) (times_quotient U W) i k).im (pos 0) (sym (ap (λ z. z.im) (twofold i k hi hk)))

  pub product_form : SameOperator (times_operator (form_at s U) (form_at t W)) (form_at (s + t) (times_quotient U W))
  unfolding ◌⊕◌
  product_form =
      same_operator_trans
      (same_operator_of (times_operator (form_at s U) (form_at t W)) (operator (suc (suc (s + t + (2 * (U.exponent + W.exponent) + 2)))) (times_operator (form_at s U) (form_at t W)).matrix) (omega arith) (λ i k hi hk. refl))
      (halved_same (s + t + (2 * (U.exponent + W.exponent) + 2)) (times_operator (form_at s U) (form_at t W)).matrix (form_at (s + t) (times_quotient U W)).matrix
      (λ i k hi hk. ap (λ z. z.re) (twofold i k hi hk)))

-- ---- powers of ω

module _ (t a : ℕ) (U : Quotient) where
  pub turned_entry : (r c : ℕ) → form_entry t (turned a U) r c ≡ form_entry (t + (a + a)) U r c
  turned_entry r c =
      let g = power one+i t in
      let b = power one+i a in
      let v = six_form U.matrix r c in
      ap (λ X. g ⊗ X r c) (six_scaled b U.matrix) ∙ ringᴳ (g ∷ b ∷ v ∷ []) (var 0 :* (var 1 :* var 1 :* var 2)) (var 0 :* (var 1 :* var 1) :* var 2) refl refl
      ∙ ap (λ x. x ⊗ v) (sym (power_sum one+i t (a + a) ∙ ap (λ x. g ⊗ x) (power_sum one+i a a)))

  pub turned_form : SameOperator (form_at t (turned a U)) (form_at (t + (a + a)) U)
  turned_form = same_operator_of (form_at t (turned a U)) (form_at (t + (a + a)) U) (omega arith) (λ r c hr hc. ap (λ z. z.re) (turned_entry r c))

-- ---- lists

pub list_turn : List Gate → ℕ
list_turn [] = 0
list_turn (g ∷ w) = gate_turn g + list_turn w

pub gate_real : (g : Gate) → Real (gate_turn g) (plain g)
gate_real g r c hr hc = ap (λ z. z.im) (plain_form g r c hr hc)

exponents : (g : Gate) → gate_turn g + (2 * (plain g).exponent + 2) ≡ (image g).exponent + 8
unfolding plain image
exponents H1 = refl
exponents H2 = refl
exponents S1 = refl
exponents S2 = refl
exponents Cz = refl
exponents Cs = refl

pub gate_form : (g : Gate) → SameOperator (form_at (gate_turn g) (plain g)) (image g)
gate_form g =
    same_operator_trans
    (same_operator_of (form_at (gate_turn g) (plain g)) (operator ((image g).exponent + 8) (λ r c. pos 16 *ℤ (image g).matrix r c)) (exponents g) (λ r c hr hc. ap (λ z. z.re) (plain_form g r c hr hc)))
    (scaled_same 4 (image g).exponent (image g).matrix)

none_entry : (r c : ℕ) → r < 6 → c < 6 → form_entry 0 (quotient 0 identity) r c ≡ real (pos 2 *ℤ δ r c)
unfolding power
none_entry r c hr hc = ⊗-unit-l (six_form identity r c) ∙ six_identity r c hr hc ∙ real-⊗ (pos 2) (δ r c)

pub record ListForm (w : List Gate) : Type 0 where
  pub is_real : Real (list_turn w) (plain_of w)
  pub same : SameOperator (form_at (list_turn w) (plain_of w)) (product_of w)

pub list_form : (w : List Gate) → ListForm w
unfolding list_turn plain_of product_of
list_form [] = record {
  is_real = λ r c hr hc. ap (λ z. z.im) (none_entry r c hr hc);
  same = same_operator_trans
      (same_operator_of (form_at 0 (quotient 0 identity)) (operator 2 (λ r c. pos 2 *ℤ δ r c)) refl (λ r c hr hc. ap (λ z. z.re) (none_entry r c hr hc)))
      (scaled_same 1 0 δ);
}
list_form (g ∷ w) =
    let rest = list_form w in
    record {
      is_real = product_real (plain g) (plain_of w) (gate_turn g) (list_turn w) (gate_real g) rest.is_real;
      same = same_operator_trans (same_operator_sym (product_form (plain g) (plain_of w) (gate_turn g) (list_turn w) (gate_real g) rest.is_real)) (times_same (gate_form g) rest.same);
    }
