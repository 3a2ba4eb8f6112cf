-- A unitary and a list whose product is its six-by-six form are the same, up to a power of ω. The same with the other sign in column 0 of the
-- form is not to be had.
use Rattle.std.specs.Prelude.{◌≡◌, ◌≢◌, List, [], ◌∷◌, ℤ, negsuc, ◌*ℤ◌}
use Rattle.std.proofs.Math.Path.{refl}
use Rattle.std.proofs.Common.{sym, ◌∙◌, ap, subst, inr, pow_pos}
use Prim.Native.Nat.{ℕ, zero, suc, ◌+◌, ◌/◌, ◌%◌, ◌^◌, ◌<◌, ◌≤◌}
use native.Mathlib.Omega.{arith}
use Rattle.std.proofs.Math.IntN.{pos}
use Rattle.matrix.specs.Matrix.{δ}
use Rattle.matrix.specs.Operator.{Operator, operator, times_operator, SameOperator, Equal}
use Rattle.matrix.specs.Laws.Integer.{pos_nz, *ℤ-assoc, *ℤ-left-comm}
use Rattle.matrix.specs.Laws.Ring.{var, num, ◌:*◌}
use Rattle.matrix.specs.Laws.Matrix.{orthogonal_columns}
use Rattle.matrix.specs.Laws.Operator.{same_operator_refl, same_operator_trans, same_operator_of, times_same}
use Rattle.letter.specs.declared.Gate.{Gate}
use Rattle.gate.specs.Product.{product_of}
use Rattle.gaussian.specs.declared.Gaussian.{Gaussian}
use Rattle.gaussian.specs.Gaussian.{real, one+i, ◌⊗◌, conj, power, sum, Matrix, Same, identity, product, adjoint, scaled}
use Rattle.unitary.specs.Unitary.{Quotient, Unitary, plain_of}
use Rattle.unitary.specs.Form.{compound, basis, six_form, form_entry, form_at, Real}
use Rattle.gaussian.specs.Laws.Gaussian.{ringᴳ, ⊗-assoc, ⊗-zero, conj-⊗, conj_power, conj_real, real-⊗}
use Rattle.gaussian.specs.Laws.Matrix.{real_sum, sum_cong, product_cong, product_scaled_l, product_scaled_r, same_refl}
use Rattle.unitary.specs.Laws.Form.{six_adjoint, six_product, six_back}
use Rattle.gaussian.specs.Laws.Power.{real_nz, one+i_nz, conj_nz, ⊗-nz}
use Rattle.unitary.specs.Laws.Shape.{real_entry, form_orthogonal}
use Rattle.unitary.specs.Laws.Product.{scaled_same, list_turn, list_form}
use Rattle.unitary.specs.Laws.Quotient.{equal_even, equal_odd}
use Rattle.unitary.specs.Laws.Kernel.{no_mirror, scalar}
use Rattle.unitary.specs.Laws.Mirror.{sign_at, mirrored, mirror, mirrorᴳ, at_places, first_plus, first_minus, IsSign, places_rows}

-- ---- the comparison

module _ (U : Quotient) (o : Unitary U) (t : ℕ) (h : Real t U) (s : ℤ) (sg : IsSign s) (w : List Gate) (m : SameOperator (product_of w) (mirrored s (form_at t U))) where
  abbrev A : Operator
  A = form_at t U

  abbrev e : ℕ
  e = A.exponent

  abbrev P : Quotient
  P = plain_of w

  abbrev B : Operator
  B = form_at (list_turn w) P

  -- P† N
  abbrev W : Matrix
  W = product 4 (adjoint P.matrix) U.matrix

  -- the transposed form of the list times that of the unitary
  abbrev x : ℕ → ℕ → ℤ
  x = λ i k. Rattle.matrix.specs.Range.sum 6 (λ j. B.matrix j i *ℤ A.matrix j k)

  same : SameOperator B (mirrored s A)
  same = same_operator_trans (list_form w).same m

  columns_times : (i k : ℕ) → i < 6 → k < 6
      → Rattle.matrix.specs.Range.sum 6 (λ j. sign_at s i *ℤ A.matrix j i *ℤ A.matrix j k) ≡ pos (2 ^ e) *ℤ mirror s i k
  columns_times i k hi hk =
      Rattle.matrix.specs.Laws.Sum.sum_cong (λ j hj. *ℤ-assoc (sign_at s i) (A.matrix j i) (A.matrix j k))
      ∙ sym (Rattle.matrix.specs.Laws.Sum.mul_sum 6 (sign_at s i) (λ j. A.matrix j i *ℤ A.matrix j k))
      ∙ ap (λ y. sign_at s i *ℤ y) (orthogonal_columns 6 (pos (2 ^ e)) A.matrix (form_orthogonal U o t h).rows i k hi hk)
      ∙ *ℤ-left-comm (sign_at s i) (pos (2 ^ e)) (δ i k)

  x_same : SameOperator (operator (B.exponent + e) x) (operator 0 (mirror s))
  x_same =
      same_operator_trans
      (times_same {A = operator B.exponent (λ i j. B.matrix j i)} {A' = operator e (λ i j. (mirrored s A).matrix j i)} {B = A} {B' = A}
      (record { entries = λ i j hi hj. same.entries j i hj hi }) (same_operator_refl A))
      (same_operator_trans
      (same_operator_of (times_operator (operator e (λ i j. (mirrored s A).matrix j i)) A) (operator (0 + (e + e)) (λ i k. pos (2 ^ e) *ℤ mirror s i k)) (omega arith) columns_times)
      (scaled_same e 0 (mirror s)))

  pub x_is : (d : ℕ) × ((i k : ℕ) → i < 6 → k < 6 → x i k ≡ pos (2 ^ d) *ℤ mirror s i k)
  unfolding δ
  x_is = go ((B.exponent + e) % 2) (omega arith) refl
    where
      go : (r : ℕ) → r < 2 → (B.exponent + e) % 2 ≡ r → (d : ℕ) × ((i k : ℕ) → i < 6 → k < 6 → x i k ≡ pos (2 ^ d) *ℤ mirror s i k)
      go zero l p =
          let d = (B.exponent + e) / 2 in
          let f : B.exponent + e ≡ 0 + (d + d) = omega arith in
          (d, λ i k hi hk. equal_even 0 d (x i k) (mirror s i k) (subst (λ n. Equal n (x i k) 0 (mirror s i k)) f (x_same.entries i k hi hk)))
      go (suc r) l p =
          let d = (B.exponent + e) / 2 in
          let f : B.exponent + e ≡ 0 + suc (d + d) = omega arith in
          absurd (pos_nz 1 (omega arith) (equal_odd 0 d (x 1 1) (mirror s 1 1) (subst (λ n. Equal n (x 1 1) 0 (mirror s 1 1)) f (x_same.entries 1 1 (omega arith) (omega arith)))).1)

  -- the same of Gaussian integers: a number times the form of P† N is a number times the mirror
  abbrev factor : Gaussian
  factor = conj (power one+i (list_turn w)) ⊗ (power one+i t ⊗ real (pos 2))

  factor_nz : factor ≢ real (pos 0)
  factor_nz =
      ⊗-nz (conj (power one+i (list_turn w))) (power one+i t ⊗ real (pos 2))
      (λ f. conj_nz (list_turn w) (sym (conj_power one+i (list_turn w)) ∙ f)) (⊗-nz (power one+i t) (real (pos 2)) (one+i_nz t) (real_nz 2 (omega arith)))

  compared : (i k : ℕ) → i < 6 → k < 6 → factor ⊗ six_form W i k ≡ real (x i k)
  compared i k hi hk =
      let a = conj (power one+i (list_turn w)) in
      let b = power one+i t in
      let F = six_form P.matrix in
      let G = six_form U.matrix in
      ringᴳ (a ∷ b ∷ six_form W i k ∷ []) (var 0 :* (var 1 :* num (pos 2)) :* var 2) (var 0 :* (var 1 :* (num (pos 2) :* var 2))) refl refl
      ∙ ap (λ y. a ⊗ (b ⊗ y)) (sym (six_product (adjoint P.matrix) U.matrix i k hi hk))
      ∙ ap (λ X. a ⊗ (b ⊗ product 6 X G i k)) (six_adjoint P.matrix)
      ∙ ap (λ Y. a ⊗ Y i k) (sym (product_scaled_r 6 b (adjoint F) G))
      ∙ ap (λ Y. Y i k) (sym (product_scaled_l 6 a (adjoint F) (scaled b G)))
      ∙ sum_cong (λ j hj.
      ap (λ y. y ⊗ form_entry t U j k) (sym (conj-⊗ (power one+i (list_turn w)) (F j i)) ∙ ap conj (real_entry (list_turn w) P (list_form w).is_real j i hj hi) ∙ conj_real (B.matrix j i))
      ∙ ap (λ y. real (B.matrix j i) ⊗ y) (real_entry t U h j k hj hk)
      ∙ real-⊗ (B.matrix j i) (A.matrix j k))
      ∙ real_sum 6 (λ j. B.matrix j i *ℤ A.matrix j k)

  module _ (d : ℕ) (is : (i k : ℕ) → i < 6 → k < 6 → x i k ≡ pos (2 ^ d) *ℤ mirror s i k) where
    abbrev two : Gaussian
    two = real (pos 2)

    abbrev below : Gaussian
    below = real (pos (2 ^ d))

    minors : (p q : ℕ) → p < 6 → q < 6 → factor ⊗ (two ⊗ two) ⊗ compound W p q ≡ below ⊗ at_places s p q
    minors p q hp hq =
        ringᴳ (factor ∷ compound W p q ∷ []) (var 0 :* (num (pos 2) :* num (pos 2)) :* var 1) (var 0 :* (num (pos 2) :* (num (pos 2) :* var 1))) refl refl
        ∙ ap (λ y. factor ⊗ y) (sym (six_back W p q hp hq))
        ∙ ap (λ Y. Y p q) (sym (product_scaled_r 6 factor basis (product 6 (six_form W) (adjoint basis))) ∙ ap (product 6 basis) (sym (product_scaled_l 6 factor (six_form W) (adjoint basis))))
        ∙ product_cong (same_refl 6 basis) (product_cong {B = adjoint basis}
        (λ i k hi hk. compared i k hi hk ∙ ap real (is i k hi hk) ∙ sym (real-⊗ (pos (2 ^ d)) (mirror s i k))) (same_refl 6 (adjoint basis))) p q hp hq
        ∙ ap (λ Y. Y p q) (ap (product 6 basis) (product_scaled_l 6 below (mirrorᴳ s) (adjoint basis)) ∙ product_scaled_r 6 below basis (product 6 (mirrorᴳ s) (adjoint basis)))

    times_nz : factor ⊗ (two ⊗ two) ≢ real (pos 0)
    times_nz = ⊗-nz factor (two ⊗ two) factor_nz (⊗-nz two two (real_nz 2 (omega arith)) (real_nz 2 (omega arith)))

    below_nz : below ⊗ two ≢ real (pos 0)
    below_nz = ⊗-nz below two (real_nz (2 ^ d) (pow_pos d)) (real_nz 2 (omega arith))

    middle : (p q : ℕ) → 1 ≤ p → p ≤ 4 → q < 6 → factor ⊗ (two ⊗ two) ⊗ compound W p q ≡ below ⊗ two ⊗ identity p q
    middle p q l u hq = minors p q (omega arith) hq ∙ ap (λ y. below ⊗ y) (places_rows s sg p q l u hq) ∙ sym (⊗-assoc below two (identity p q))

    not_mirrored : s ≡ negsuc 0 → ⊥
    not_mirrored f =
        no_mirror W (factor ⊗ (two ⊗ two)) (below ⊗ two) times_nz below_nz middle
        (minors 0 0 (omega arith) (omega arith) ∙ ap (λ y. below ⊗ y) (ap (λ s. at_places s 0 0) f ∙ first_minus) ∙ ⊗-zero below)

    pub multiple : s ≡ pos 1 → Same 4 W (scaled (W 0 0) identity)
    multiple f =
        scalar W (factor ⊗ (two ⊗ two)) (below ⊗ two) times_nz below_nz middle
        (minors 0 0 (omega arith) (omega arith) ∙ ap (λ y. below ⊗ y) (ap (λ s. at_places s 0 0) f ∙ first_plus))

-- no list multiplies to the form with the other sign in column 0
pub not_reflected : (U : Quotient) → Unitary U → (t : ℕ) → Real t U → (w : List Gate) → SameOperator (product_of w) (mirrored (negsuc 0) (form_at t U)) → ⊥
not_reflected U o t h w m = let (d, is) = x_is U o t h (negsuc 0) (inr refl) w m in not_mirrored U o t h (negsuc 0) (inr refl) w m d is refl
