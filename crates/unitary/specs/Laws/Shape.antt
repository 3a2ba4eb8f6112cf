-- Of every unitary some power of ω makes the six-by-six form real, and then it is an orthogonal operator.
use Rattle.std.specs.Prelude.{◌≡◌, refl, ◌≢◌, [], ◌∷◌, ℕ, zero, suc, ◌+◌, ◌*◌, ◌/◌, ◌%◌, ◌^◌, ◌<◌, ℤ, pos, negsuc, ◌*ℤ◌}
use Rattle.std.proofs.Math.Path.{sym, ap, ap₂}
use Rattle.std.proofs.Common.{◌∙◌, subst, arith, zero-add, pow-add, pow_pos}
use Rattle.std.proofs.Math.IntN.{neg_ℤ}
use Rattle.matrix.specs.Matrix.{δ}
use Rattle.matrix.specs.Operator.{Orthogonal}
use Rattle.matrix.specs.Laws.Integer.{self_neg, pos_nz, *ℤ-assoc, *ℤ-cancel-l}
use Rattle.matrix.specs.Laws.Ring.{var, num, :neg, ◌:+◌, ◌:*◌, ring}
use Rattle.gaussian.specs.declared.Gaussian.{Gaussian}
use Rattle.gaussian.specs.Gaussian.{gaussian, real, unit, one+i, ◌⊗◌, conj, power, identity, product, adjoint, norm_of}
use Rattle.unitary.specs.Unitary.{Quotient, Unitary}
use Rattle.unitary.specs.Form.{six_form, form_entry, form_at, Real}
use Rattle.gaussian.specs.Laws.Gaussian.{⊗-assoc, ⊗-comm, ⊗-unit-l, ⊗-cancel-l, prodᴳ, ⊗-swap, power_sum, conj-⊗, conj_real, conj_power, norm-⊗, times_conj, real-⊗, real_times}
use Rattle.gaussian.specs.Laws.Matrix.{real_sum, sum_cong, mul_sum, scaled_rows}
use Rattle.gaussian.specs.Laws.Power.{power_conj, power_is, unit_four, real_nz, one+i_nz, conj_nz, ⊗-nz}
use Rattle.gaussian.specs.Laws.Descent.{descent}
use Rattle.unitary.specs.Laws.Compound.{pairing}
use Rattle.unitary.specs.Laws.Form.{six_rows, six_conjugate}

-- ---- square norms

norm_conj : (a : Gaussian) → norm_of (conj a) ≡ norm_of a
unfolding norm_of conj
norm_conj a = ring (a.re ∷ a.im ∷ []) (var 0 :* var 0 :+ :neg (var 1) :* :neg (var 1)) (var 0 :* var 0 :+ var 1 :* var 1) refl

norm_real : (m : ℕ) → norm_of (real (pos m)) ≡ pos (m * m)
unfolding norm_of
norm_real m = ring (pos m ∷ []) (var 0 :* var 0 :+ num (pos 0) :* num (pos 0)) (var 0 :* var 0) refl

-- ---- entries of the form

-- n more powers of ω
pub more_entry : (n s : ℕ) (U : Quotient) (r c : ℕ) → form_entry (n + s) U r c ≡ power one+i n ⊗ form_entry s U r c
more_entry n s U r c = ap (λ x. x ⊗ six_form U.matrix r c) (power_sum one+i n s) ∙ ⊗-assoc (power one+i n) (power one+i s) (six_form U.matrix r c)

pub real_entry : (t : ℕ) (U : Quotient) → Real t U → (r c : ℕ) → r < 6 → c < 6 → form_entry t U r c ≡ real (form_entry t U r c).re
real_entry t U h r c hr hc = ap₂ gaussian refl (h r c hr hc)

-- ---- the phase
-- With d the determinant of N, q = 2^k and v an entry of the form, d times the conjugate of v is q² v. So the square norm of d is that of q², and d is
-- a power of i times (1 + i)^4k; then v is a power of i times its conjugate, and a power of 1 + i makes it real.

module _ (U : Quotient) (o : Unitary U) where
  abbrev q : Gaussian
  q = real (pos (2 ^ U.exponent))

  abbrev d : Gaussian
  d = pairing U.matrix 0 5

  abbrev entry : ℕ → ℕ → Gaussian
  entry r c = six_form U.matrix r c

  q_square : q ⊗ q ≡ real (pos (2 ^ (U.exponent + U.exponent)))
  q_square = real-⊗ (pos (2 ^ U.exponent)) (pos (2 ^ U.exponent)) ∙ ap (λ x. real (pos x)) (sym (pow-add 2 U.exponent U.exponent))

  norms : (c : ℕ) → c < 6 → real (norm_of d) ⊗ (entry 0 c ⊗ conj (entry 0 c)) ≡ real (norm_of (q ⊗ q)) ⊗ (entry 0 c ⊗ conj (entry 0 c))
  norms c hc =
      let v = entry 0 c in
      ap (λ x. real (norm_of d) ⊗ x) (times_conj v) ∙ real-⊗ (norm_of d) (norm_of v)
      ∙ ap real (ap (λ x. norm_of d *ℤ x) (sym (norm_conj v)) ∙ sym (norm-⊗ d (conj v)) ∙ ap norm_of (six_conjugate U.matrix q o.rows 0 c (omega arith) hc) ∙ norm-⊗ (q ⊗ q) v)
      ∙ sym (ap (λ x. real (norm_of (q ⊗ q)) ⊗ x) (times_conj v) ∙ real-⊗ (norm_of (q ⊗ q)) (norm_of v))

  row_nz : product 6 (six_form U.matrix) (adjoint (six_form U.matrix)) 0 0 ≢ real (pos 0)
  unfolding δ
  row_nz e =
      ⊗-nz (real (pos 4) ⊗ (q ⊗ q)) (identity 0 0)
      (⊗-nz (real (pos 4)) (q ⊗ q) (real_nz 4 (omega arith)) (⊗-nz q q (real_nz (2 ^ U.exponent) (pow_pos U.exponent)) (real_nz (2 ^ U.exponent) (pow_pos U.exponent))))
      (real_nz 1 (omega arith))
      (sym (six_rows U.matrix q o.rows 0 0 (omega arith) (omega arith)) ∙ e)

  determinant_norm : norm_of d ≡ pos (2 ^ (U.exponent + U.exponent + (U.exponent + U.exponent)))
  determinant_norm =
      let w = product 6 (six_form U.matrix) (adjoint (six_form U.matrix)) 0 0 in
      let f : ℕ → Gaussian = λ c. entry 0 c ⊗ conj (entry 0 c) in
      ap (λ z. z.re)
      (⊗-cancel-l (real (norm_of d)) (real (norm_of (q ⊗ q))) w row_nz
      (⊗-comm w (real (norm_of d)) ∙ mul_sum 6 (real (norm_of d)) f ∙ sum_cong norms ∙ sym (mul_sum 6 (real (norm_of (q ⊗ q))) f) ∙ ⊗-comm (real (norm_of (q ⊗ q))) w))
      ∙ ap norm_of q_square ∙ norm_real (2 ^ (U.exponent + U.exponent)) ∙ ap pos (sym (pow-add 2 (U.exponent + U.exponent) (U.exponent + U.exponent)))

  module _ (a : ℕ) (e : d ≡ power unit a ⊗ power one+i (U.exponent + U.exponent + (U.exponent + U.exponent))) where
    abbrev m : ℕ
    m = U.exponent + U.exponent

    phase : (r c : ℕ) → r < 6 → c < 6 → power unit (a + m) ⊗ conj (entry r c) ≡ entry r c
    phase r c hr hc =
        let v = entry r c in
        let g = power one+i m in
        let h = power (conj one+i) m in
        let i = power unit a in
        let j = power unit m in
        let first : i ⊗ g ⊗ conj v ≡ h ⊗ v =
        ⊗-cancel-l (i ⊗ g ⊗ conj v) (h ⊗ v) g (one+i_nz m)
        (out i g (conj v) ∙ ap (λ x. i ⊗ x ⊗ conj v) (sym (power_sum one+i m m)) ∙ ap (λ x. x ⊗ conj v) (sym e)
        ∙ six_conjugate U.matrix q o.rows r c hr hc ∙ ap (λ x. x ⊗ v) (q_square ∙ sym (power_conj m)) ∙ ⊗-assoc g h v) in
        ⊗-cancel-l (power unit (a + m) ⊗ conj v) v h (conj_nz m)
        (ap (λ x. h ⊗ (x ⊗ conj v)) (power_sum unit a m) ∙ again i j h (conj v) ∙ ap (λ x. i ⊗ x ⊗ conj v) (sym (power_is m)) ∙ first)
      where
        out : (i g c : Gaussian) → g ⊗ (i ⊗ g ⊗ c) ≡ i ⊗ (g ⊗ g) ⊗ c
        out i g c = simp prodᴳ

        again : (i j h c : Gaussian) → h ⊗ (i ⊗ j ⊗ c) ≡ i ⊗ (j ⊗ h) ⊗ c
        again i j h c = simp prodᴳ

    real_form_lem : Real (a + m + (a + m + (a + m))) U
    unfolding conj
    real_form_lem r c hr hc =
        let v = entry r c in
        let b = a + m in
        let t = b + (b + b) in
        let x = power one+i t ⊗ v in
        let is : x ≡ conj x =
        ap₂ (λ x y. x ⊗ y) (power_is t) (sym (phase r c hr hc)) ∙ ⊗-swap (power unit t) (power (conj one+i) t) (power unit b) (conj v)
        ∙ ap (λ x. x ⊗ (power (conj one+i) t ⊗ conj v)) (unit_four b) ∙ ⊗-unit-l (power (conj one+i) t ⊗ conj v)
        ∙ ap (λ x. x ⊗ conj v) (sym (conj_power one+i t)) ∙ sym (conj-⊗ (power one+i t) v) in
        self_neg x.im (ap (λ z. z.im) is)

  -- four powers of ω less are −1
  four_less : (s : ℕ) → Real (4 + s) U → Real s U
  unfolding power ◌⊗◌
  four_less s h r c hr hc =
      let x = form_entry s U r c in
      *ℤ-cancel-l x.im (pos 0) (negsuc 3) (λ e. pos_nz 4 (omega arith) (ap neg_ℤ e))
      (sym (ap (λ z. z.im) (more_entry 4 s U r c ∙ real_times (negsuc 3) x)) ∙ h r c hr hc)

  fours_less : (j s : ℕ) → Real (4 * j + s) U → Real s U
  fours_less zero s h = subst (λ n. Real n U) (zero-add s) h
  fours_less (suc j) s h = fours_less j s (four_less (4 * j + s) (subst (λ n. Real n U) (more j s) h))
    where
      more : (j s : ℕ) → 4 * suc j + s ≡ 4 + (4 * j + s)
      more j s = omega arith

  -- a power from 0 to 3 is enough
  pub some_turn : (t : ℕ) × (t < 4) × Real t U
  some_turn =
      let (a, e) = descent (U.exponent + U.exponent + (U.exponent + U.exponent)) d determinant_norm in
      let b = a + (U.exponent + U.exponent) in
      let t = b + (b + b) in
      (t % 4, omega arith, fours_less (t / 4) (t % 4) (subst (λ n. Real n U) (split t) (real_form_lem a e)))
    where
      split : (t : ℕ) → t ≡ 4 * (t / 4) + t % 4
      split t = omega arith

  -- ---- a real form is orthogonal

  module _ (t : ℕ) (h : Real t U) where
    exponent : pos (2 ^ (t + (2 * U.exponent + 2))) ≡ pos (2 ^ t) *ℤ (pos 4 *ℤ (pos (2 ^ U.exponent) *ℤ pos (2 ^ U.exponent)))
    exponent =
        let k = U.exponent in
        let e : 2 ^ (2 * k) ≡ 2 ^ k * 2 ^ k = ap (λ n. 2 ^ n) (double k) ∙ pow-add 2 k k in
        ap pos (pow-add 2 t (2 * k + 2) ∙ ap (λ x. 2 ^ t * x) (pow-add 2 (2 * k) 2 ∙ ap (λ x. x * 4) e ∙ turn (2 ^ k * 2 ^ k)))
      where
        double : (k : ℕ) → 2 * k ≡ k + k
        double k = omega arith

        turn : (x : ℕ) → x * 4 ≡ 4 * x
        turn x = omega arith

    pub form_orthogonal : Orthogonal (form_at t U)
    form_orthogonal = record {
      rows = λ i j hi hj.
          let g = power one+i t in
          ap (λ z. z.re)
          (sym (real_sum 6 (λ c. (form_entry t U i c).re *ℤ (form_entry t U j c).re))
          ∙ sum_cong (λ c hc.
          sym (real-⊗ (form_entry t U i c).re (form_entry t U j c).re)
          ∙ ap₂ (λ x y. x ⊗ y) (sym (real_entry t U h i c hi hc)) (sym (ap conj (real_entry t U h j c hj hc) ∙ conj_real (form_entry t U j c).re)))
          ∙ ap (λ X. X i j) (scaled_rows 6 g (six_form U.matrix))
          ∙ ap₂ (λ x y. x ⊗ y) (ap (λ x. g ⊗ x) (conj_power one+i t) ∙ power_conj t) (six_rows U.matrix q o.rows i j hi hj)
          ∙ whole (pos (2 ^ t)) (pos 4) (pos (2 ^ U.exponent)) (δ i j))
          ∙ ap (λ x. x *ℤ δ i j) (sym exponent);
    }
      where
        whole : (a b c d : ℤ) → real a ⊗ (real b ⊗ (real c ⊗ real c) ⊗ real d) ≡ real (a *ℤ (b *ℤ (c *ℤ c)) *ℤ d)
        whole a b c d =
            ap (λ x. real a ⊗ (real b ⊗ x ⊗ real d)) (real-⊗ c c) ∙ ap (λ x. real a ⊗ (x ⊗ real d)) (real-⊗ b (c *ℤ c))
            ∙ ap (λ x. real a ⊗ x) (real-⊗ (b *ℤ (c *ℤ c)) d) ∙ real-⊗ a (b *ℤ (c *ℤ c) *ℤ d) ∙ ap real (sym (*ℤ-assoc a (b *ℤ (c *ℤ c)) d))
