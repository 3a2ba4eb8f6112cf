-- The six-by-six form of a unitary is one operator up to sign, and it is, up to sign, the product of the images of every list that gives the
-- unitary up to a power of ω.
use Rattle.std.specs.Prelude.{◌≡◌, refl, ◌≢◌, List, [], ◌∷◌, negsuc, ◌*ℤ◌}
use Rattle.std.proofs.Common.{sym, ◌∙◌, inl, inr, zero-add, pow-add, pow_pos}
use Rattle.std.proofs.Math.Path.{ap, subst}
use Rattle.std.proofs.Math.Logic.{⊎_elim}
use Prim.Native.Nat.{ℕ, zero, suc, ◌+◌, ◌*◌, ◌-◌, ◌^◌, ◌<◌}
use native.Mathlib.Omega.{arith}
use Rattle.std.proofs.Math.Decide.{dec_le}
use Rattle.std.proofs.Math.IntN.{pos, zero-*ℤ, *ℤ-zero}
use Rattle.matrix.specs.Operator.{Operator, operator, SameOperator, SameUpToSign, negative}
use Rattle.matrix.specs.Laws.Integer.{no_zero_divisors, pos_nz, *ℤ-unit-r, *ℤ-cancel-l}
use Rattle.matrix.specs.Laws.Ring.{var, num, ◌:+◌, ◌:*◌, ring}
use Rattle.matrix.specs.Laws.Sum.{sum_cong, sum_zero, δ_same}
use Rattle.matrix.specs.Laws.Operator.{same_operator_refl, same_operator_sym, same_operator_trans, same_operator_of}
use Rattle.clifford.specs.Laws.Sign.{up_sym, up_trans}
use Rattle.letter.specs.declared.Gate.{Gate}
use Rattle.gate.specs.Product.{product_of}
use Rattle.gaussian.specs.Gaussian.{gaussian, real, one+i, ◌⊗◌, power}
use Rattle.unitary.specs.Unitary.{Quotient, Unitary, SameQuotient, turned, plain_of, Gives}
use Rattle.unitary.specs.Form.{six_form, form_entry, form_at, Real, IsForm}
use Rattle.gaussian.specs.Laws.Gaussian.{ringᴳ, real-⊗, real_times}
use Rattle.unitary.specs.Laws.Form.{six_cong, six_scaled}
use Rattle.unitary.specs.Laws.Shape.{more_entry, real_entry, form_orthogonal}
use Rattle.unitary.specs.Laws.Product.{scaled_same, turned_entry, turned_form, list_turn, list_form}
use Rattle.unitary.specs.Laws.Plain.{list_unitary}
use Rattle.unitary.specs.Laws.Quotient.{Multiple, same_multiple, unitary_nz}

-- ---- two powers of ω that make the form real

module _ (U : Quotient) (o : Unitary U) where
  more : (n s : ℕ) → Real s U → (r c : ℕ) → r < 6 → c < 6 → form_entry (n + s) U r c ≡ power one+i n ⊗ real (form_entry s U r c).re
  more n s h r c hr hc = more_entry n s U r c ∙ ap (λ x. power one+i n ⊗ x) (real_entry s U h r c hr hc)

  four : (s : ℕ) → Real s U → (r c : ℕ) → r < 6 → c < 6 → form_entry (4 + s) U r c ≡ real (pos 4 *ℤ (negsuc 0 *ℤ (form_entry s U r c).re))
  unfolding power ◌⊗◌
  four s h r c hr hc =
      more 4 s h r c hr hc ∙ real-⊗ (negsuc 3) (form_entry s U r c).re
      ∙ ap real (ring ((form_entry s U r c).re ∷ []) (num (negsuc 3) :* var 0) (num (pos 4) :* (num (negsuc 0) :* var 0)) refl)

  pub four_real : (s : ℕ) → Real s U → Real (4 + s) U
  four_real s h r c hr hc = ap (λ z. z.im) (four s h r c hr hc)

  pub four_form : (s : ℕ) → Real s U → SameOperator (form_at (4 + s) U) (negative (form_at s U))
  four_form s h =
      same_operator_trans
      (same_operator_of (form_at (4 + s) U) (operator (s + (2 * U.exponent + 2) + (2 + 2)) (λ r c. pos 4 *ℤ (negsuc 0 *ℤ (form_entry s U r c).re))) (omega arith) (λ r c hr hc. ap (λ z. z.re) (four s h r c hr hc)))
      (scaled_same 2 (s + (2 * U.exponent + 2)) (λ r c. (negsuc 0 *ℤ (form_entry s U r c).re)))

  apart : (n s : ℕ) → (power one+i n).im ≢ pos 0 → Real s U → Real (n + s) U → ⊥
  unfolding ◌⊗◌
  apart n s w h l =
      pos_nz (2 ^ (s + (2 * U.exponent + 2))) (pow_pos (s + (2 * U.exponent + 2)))
      (sym ((form_orthogonal U o s h).rows 0 0 (omega arith) (omega arith) ∙ ap (λ x. pos (2 ^ (s + (2 * U.exponent + 2))) *ℤ x) (δ_same 0) ∙ *ℤ-unit-r (pos (2 ^ (s + (2 * U.exponent + 2)))))
      ∙ sum_cong (λ c hc. ap (λ x. x *ℤ (form_entry s U 0 c).re) (zero c hc) ∙ zero-*ℤ (form_entry s U 0 c).re) ∙ sum_zero 6)
    where
      zero : (c : ℕ) → c < 6 → (form_entry s U 0 c).re ≡ pos 0
      zero c hc =
          let g = power one+i n in
          let x = (form_entry s U 0 c).re in
          ⊎_elim (λ e. absurd (w e)) (λ e. e)
          (no_zero_divisors g.im x
          (sym (ap (λ z. z.im) (more n s h 0 c (omega arith) hc) ∙ ring (g.re ∷ g.im ∷ x ∷ []) (var 0 :* num (pos 0) :+ var 1 :* var 2) (var 1 :* var 2) refl) ∙ l 0 c (omega arith) hc))

  sign : (n s : ℕ) → Real s U → Real (n + s) U → SameUpToSign (form_at (n + s) U) (form_at s U)
  unfolding power ◌⊗◌
  sign zero s h l = subst (λ m. SameUpToSign (form_at m U) (form_at s U)) (sym (zero-add s)) (inl (same_operator_refl (form_at s U)))
  sign (suc zero) s h l = absurd (apart 1 s (pos_nz 1 (omega arith)) h l)
  sign (suc (suc zero)) s h l = absurd (apart 2 s (pos_nz 2 (omega arith)) h l)
  sign (suc (suc (suc zero))) s h l = absurd (apart 3 s (pos_nz 2 (omega arith)) h l)
  sign (suc (suc (suc (suc n)))) s h l =
      let e : suc (suc (suc (suc n))) + s ≡ n + (4 + s) = omega arith in
      subst (λ m. SameUpToSign (form_at m U) (form_at s U)) (sym e)
      (up_trans (sign n (4 + s) (four_real s h) (subst (λ m. Real m U) e l)) (inr (four_form s h)))

  pub two_turns : (s t : ℕ) → Real s U → Real t U → SameUpToSign (form_at s U) (form_at t U)
  two_turns s t h l = elim (dec_le s t) [
    | yes d ↦ let e : t ≡ (t - s) + s = omega arith in
        up_sym (subst (λ m. SameUpToSign (form_at m U) (form_at s U)) (sym e) (sign (t - s) s h (subst (λ m. Real m U) e l)))
    | no d ↦ let e : s ≡ (s - t) + t = omega arith in
        subst (λ m. SameUpToSign (form_at m U) (form_at t U)) (sym e) (sign (s - t) t l (subst (λ m. Real m U) e h))
  ]

-- ---- quotients that stand for one matrix

module _ (t : ℕ) (W U : Quotient) (m : Multiple W U) where
  abbrev d : ℕ
  d = m.twos

  multiple_entry : (r c : ℕ) → r < 6 → c < 6
      → form_entry t W r c ≡ gaussian (pos (2 ^ (d + d)) *ℤ (form_entry t U r c).re) (pos (2 ^ (d + d)) *ℤ (form_entry t U r c).im)
  multiple_entry r c hr hc =
      let g = power one+i t in
      let a = real (pos (2 ^ d)) in
      let v = six_form U.matrix r c in
      ap (λ x. g ⊗ x) (six_cong m.entries r c hr hc ∙ ap (λ X. X r c) (six_scaled a U.matrix))
      ∙ ringᴳ (g ∷ a ∷ v ∷ []) (var 0 :* (var 1 :* var 1 :* var 2)) (var 1 :* var 1 :* (var 0 :* var 2)) refl refl
      ∙ ap (λ x. x ⊗ (g ⊗ v)) (real-⊗ (pos (2 ^ d)) (pos (2 ^ d)) ∙ ap (λ x. real (pos x)) (sym (pow-add 2 d d)))
      ∙ real_times (pos (2 ^ (d + d))) (g ⊗ v)

  multiple_form : SameOperator (form_at t W) (form_at t U)
  multiple_form =
      let e : W.exponent ≡ U.exponent + (d + d) = m.exponents in
      same_operator_trans
      (same_operator_of (form_at t W) (operator (t + (2 * U.exponent + 2) + (d + d + (d + d))) (λ r c. pos (2 ^ (d + d)) *ℤ (form_entry t U r c).re)) (omega arith) (λ r c hr hc. ap (λ z. z.re) (multiple_entry r c hr hc)))
      (scaled_same (d + d) (t + (2 * U.exponent + 2)) (λ r c. (form_entry t U r c).re))

  multiple_up : Real t U → Real t W
  multiple_up l r c hr hc = ap (λ z. z.im) (multiple_entry r c hr hc) ∙ ap (λ x. pos (2 ^ (d + d)) *ℤ x) (l r c hr hc) ∙ *ℤ-zero (pos (2 ^ (d + d)))

  multiple_down : Real t W → Real t U
  multiple_down l r c hr hc =
      *ℤ-cancel-l (form_entry t U r c).im (pos 0) (pos (2 ^ (d + d))) (pos_nz (2 ^ (d + d)) (pow_pos (d + d)))
      (sym (ap (λ z. z.im) (multiple_entry r c hr hc)) ∙ l r c hr hc ∙ sym (*ℤ-zero (pos (2 ^ (d + d)))))

same_forms : (U W : Quotient) → Unitary U → SameQuotient W U → (t : ℕ) → Real t U → Real t W × SameOperator (form_at t W) (form_at t U)
same_forms U W o s t h =
    ⊎_elim (λ m. (multiple_up t W U m h, multiple_form t W U m)) (λ m. (multiple_down t U W m h, same_operator_sym (multiple_form t U W m)))
    (same_multiple W U s (unitary_nz U o))

-- ---- the images

pub images : (U : Quotient) → Unitary U → (A : Operator) → IsForm U A → (w : List Gate) (a : ℕ) → Gives w a U → SameUpToSign (product_of w) A
images U o A f w a s =
    let t = f.turn in
    let P = plain_of w in
    let (h, same) = same_forms U (turned a P) o s t f.is_real in
    let l : Real (t + (a + a)) P = λ r c hr hc. sym (ap (λ z. z.im) (turned_entry t a P r c)) ∙ h r c hr hc in
    let lf = list_form w in
    up_trans (inl (same_operator_sym lf.same))
    (up_trans (two_turns P (list_unitary w) (list_turn w) (t + (a + a)) lf.is_real l)
    (inl (same_operator_trans (same_operator_sym (turned_form t a P)) (same_operator_trans same f.same))))
