-- Quotients that stand for one matrix: one is a power of 2 times the other. So being unitary is a property of the matrix stood for, and what a list
-- of plain gates gives up to a power of ω is unitary.
use Rattle.std.specs.Prelude.{◌≡◌, refl, ◌⊎◌, List, ℕ, zero, suc, ◌+◌, ◌-◌, ◌/◌, ◌%◌, ◌^◌, ◌<◌, ◌≤◌, ℤ, pos, ◌*ℤ◌}
use Rattle.std.proofs.Common.{sym, ◌∙◌, ap, ap₂, subst, inl, inr, ⊎_elim, arith, pow_pos}
use Rattle.std.proofs.Math.Decide.{dec_le}
use Rattle.std.proofs.Math.IntN.{*ℤ-zero}
use Rattle.matrix.specs.Operator.{Equal, raised, whole, root}
use Rattle.matrix.specs.Laws.Integer.{pos_nz, *ℤ-cancel-l}
use Rattle.matrix.specs.Laws.Sum.{δ_same}
use Rattle.matrix.specs.Laws.Operator.{raised_sum, raised_twice, raised_inj}
use Rattle.letter.specs.declared.Gate.{Gate}
use Rattle.gaussian.specs.declared.Gaussian.{Gaussian}
use Rattle.gaussian.specs.Gaussian.{gaussian, real, one+i, ◌⊗◌, conj, power, Same, identity, product, adjoint, scaled}
use Rattle.unitary.specs.Unitary.{Quotient, Unitary, SameQuotient, turned, plain_of, Gives}
use Rattle.gaussian.specs.Laws.Gaussian.{⊗-assoc, ⊗-unit-r, ⊗-cancel-l, zero-⊗, conj_real, conj_power, real_times}
use Rattle.gaussian.specs.Laws.Matrix.{sum_cong, sum_zero, product_cong, scaled_rows}
use Rattle.gaussian.specs.Laws.Power.{norm, norm_sum, power_conj, real_nz}
use Rattle.unitary.specs.Laws.Plain.{list_unitary}

-- ---- numbers over powers of root two

pub equal_even : (l d : ℕ) (a b : ℤ) → Equal (l + (d + d)) a l b → a ≡ pos (2 ^ d) *ℤ b
equal_even l d a b e =
    ap (λ z. z.0) (raised_inj l (whole a) (whole (pos (2 ^ d) *ℤ b)) (e ∙ raised_sum l (d + d) (whole b) ∙ ap (raised l) (raised_twice d b)))

pub equal_odd : (l d : ℕ) (a b : ℤ) → Equal (l + suc (d + d)) a l b → (a ≡ pos 0) × (b ≡ pos 0)
unfolding raised
equal_odd l d a b e =
    let p : whole a ≡ root (whole (pos (2 ^ d) *ℤ b)) =
    raised_inj l (whole a) (root (whole (pos (2 ^ d) *ℤ b))) (e ∙ raised_sum l (suc (d + d)) (whole b) ∙ ap (λ z. raised l (root z)) (raised_twice d b)) in
    (ap (λ z. z.0) p, *ℤ-cancel-l b (pos 0) (pos (2 ^ d)) (pos_nz (2 ^ d) (pow_pos d)) (sym (ap (λ z. z.1) p) ∙ sym (*ℤ-zero (pos (2 ^ d)))))

-- x / √2^k is y / √2^l, where 2^m x is 2^n y
pub equal_by : (k l m n : ℕ) (x y : ℤ) → k + (m + m) ≡ l + (n + n) → pos (2 ^ m) *ℤ x ≡ pos (2 ^ n) *ℤ y → Equal k x l y
equal_by k l m n x y e f =
    raised_inj (m + m) (raised l (whole x)) (raised k (whole y))
    (turn (m + m) l (whole x) ∙ ap (raised l) (raised_twice m x) ∙ ap (λ z. raised l (whole z)) f ∙ ap (raised l) (sym (raised_twice n y)) ∙ sym (raised_sum l (n + n) (whole y))
    ∙ ap (λ i. raised i (whole y)) (sym e) ∙ raised_sum k (m + m) (whole y) ∙ turn k (m + m) (whole y))
  where
    turn : (i j : ℕ) (z : ℤ × ℤ) → raised i (raised j z) ≡ raised j (raised i z)
    turn i j z = sym (raised_sum i j z) ∙ ap (λ n. raised n z) (exchange i j) ∙ raised_sum j i z
      where
        exchange : (i j : ℕ) → i + j ≡ j + i
        exchange i j = omega arith

-- ---- quotients

same_quotient_sym : {U W : Quotient} → SameQuotient U W → SameQuotient W U
same_quotient_sym s = record { entries_re = λ i j hi hj. sym (s.entries_re i j hi hj); entries_im = λ i j hi hj. sym (s.entries_im i j hi hj) }

-- 2^d times the matrix, over 2 d more powers of root two
pub record Multiple (W U : Quotient) : Type 0 where
  pub twos : ℕ
  pub exponents : W.exponent ≡ U.exponent + (twos + twos)
  pub entries : Same 4 W.matrix (scaled (norm twos) U.matrix)

abbrev pub NonZero : Quotient → Type 0
NonZero U = Same 4 U.matrix (λ i j. real (pos 0)) → ⊥

pub unitary_nz : (U : Quotient) → Unitary U → NonZero U
unitary_nz U o z =
    real_nz (2 ^ U.exponent) (pow_pos U.exponent)
    (sym (o.rows 0 0 (omega arith) (omega arith) ∙ ap (λ x. norm U.exponent ⊗ real x) (δ_same 0) ∙ ⊗-unit-r (norm U.exponent))
    ∙ sum_cong (λ c hc. ap (λ x. x ⊗ conj (U.matrix 0 c)) (z 0 c (omega arith) hc) ∙ zero-⊗ (conj (U.matrix 0 c))) ∙ sum_zero 4)

module _ (W U : Quotient) (s : SameQuotient W U) where
  module _ (d : ℕ) (e : W.exponent ≡ U.exponent + (d + d)) where
    even_apart : Multiple W U
    even_apart = record {
      twos = d;
      exponents = e;
      entries = λ i j hi hj.
          ap₂ gaussian
          (equal_even U.exponent d (W.matrix i j).re (U.matrix i j).re (subst (λ k. Equal k (W.matrix i j).re U.exponent (U.matrix i j).re) e (s.entries_re i j hi hj)))
          (equal_even U.exponent d (W.matrix i j).im (U.matrix i j).im (subst (λ k. Equal k (W.matrix i j).im U.exponent (U.matrix i j).im) e (s.entries_im i j hi hj)))
          ∙ sym (real_times (pos (2 ^ d)) (U.matrix i j));
    }

  module _ (d : ℕ) (e : W.exponent ≡ U.exponent + suc (d + d)) where
    odd_re : (i j : ℕ) → i < 4 → j < 4 → ((W.matrix i j).re ≡ pos 0) × ((U.matrix i j).re ≡ pos 0)
    odd_re i j hi hj = equal_odd U.exponent d (W.matrix i j).re (U.matrix i j).re (subst (λ k. Equal k (W.matrix i j).re U.exponent (U.matrix i j).re) e (s.entries_re i j hi hj))

    odd_im : (i j : ℕ) → i < 4 → j < 4 → ((W.matrix i j).im ≡ pos 0) × ((U.matrix i j).im ≡ pos 0)
    odd_im i j hi hj = equal_odd U.exponent d (W.matrix i j).im (U.matrix i j).im (subst (λ k. Equal k (W.matrix i j).im U.exponent (U.matrix i j).im) e (s.entries_im i j hi hj))

    odd_apart : NonZero W ⊎ NonZero U → ⊥
    odd_apart (inl n) = n (λ i j hi hj. ap₂ gaussian (odd_re i j hi hj).0 (odd_im i j hi hj).0)
    odd_apart (inr n) = n (λ i j hi hj. ap₂ gaussian (odd_re i j hi hj).1 (odd_im i j hi hj).1)

  apart : U.exponent ≤ W.exponent → NonZero W ⊎ NonZero U → Multiple W U
  apart le n = go ((W.exponent - U.exponent) % 2) (omega arith) refl
    where
      go : (r : ℕ) → r < 2 → (W.exponent - U.exponent) % 2 ≡ r → Multiple W U
      go zero l p = even_apart ((W.exponent - U.exponent) / 2) (omega arith)
      go (suc r) l p = absurd (odd_apart ((W.exponent - U.exponent) / 2) (omega arith) n)

-- one of the two is a multiple of the other
pub same_multiple : (W U : Quotient) → SameQuotient W U → NonZero U → Multiple W U ⊎ Multiple U W
same_multiple W U s n = elim (dec_le U.exponent W.exponent) [
  | yes le ↦ inl (apart W U s le (inr n))
  | no f ↦ inr (apart U W (same_quotient_sym s) (omega arith) (inl n))
]

-- ---- unitary

multiple_rows : (W U : Quotient) (m : Multiple W U) → Same 4 (product 4 W.matrix (adjoint W.matrix)) (scaled (norm (m.twos + m.twos)) (product 4 U.matrix (adjoint U.matrix)))
multiple_rows W U m i j hi hj =
    product_cong m.entries (λ i j hi hj. ap conj (m.entries j i hj hi)) i j hi hj
    ∙ ap (λ X. X i j) (scaled_rows 4 (norm m.twos) U.matrix)
    ∙ ap (λ x. x ⊗ product 4 U.matrix (adjoint U.matrix) i j) (ap (λ x. norm m.twos ⊗ x) (conj_real (pos (2 ^ m.twos))) ∙ norm_sum m.twos m.twos)

norm_more : (k l d : ℕ) (x : Gaussian) → l ≡ k + (d + d) → norm (d + d) ⊗ (norm k ⊗ x) ≡ norm l ⊗ x
norm_more k l d x e =
    sym (⊗-assoc (norm (d + d)) (norm k) x) ∙ ap (λ y. y ⊗ x) (norm_sum (d + d) k ∙ ap norm (turn k d ∙ sym e))
  where
    turn : (k d : ℕ) → d + d + k ≡ k + (d + d)
    turn k d = omega arith

pub same_unitary : (W U : Quotient) → SameQuotient W U → Unitary W → Unitary U
same_unitary W U s o = ⊎_elim up down (same_multiple U W (same_quotient_sym s) (unitary_nz W o))
  where
    up : Multiple U W → Unitary U
    up m = record {
      rows = λ i j hi hj. multiple_rows U W m i j hi hj ∙ ap (λ x. norm (m.twos + m.twos) ⊗ x) (o.rows i j hi hj) ∙ norm_more W.exponent U.exponent m.twos (identity i j) m.exponents;
    }

    down : Multiple W U → Unitary U
    down m = record {
      rows = λ i j hi hj.
          ⊗-cancel-l (product 4 U.matrix (adjoint U.matrix) i j) (norm U.exponent ⊗ identity i j) (norm (m.twos + m.twos)) (real_nz (2 ^ (m.twos + m.twos)) (pow_pos (m.twos + m.twos)))
          (sym (multiple_rows W U m i j hi hj) ∙ o.rows i j hi hj ∙ sym (norm_more U.exponent W.exponent m.twos (identity i j) m.exponents));
    }

turned_unitary : (a : ℕ) (U : Quotient) → Unitary U → Unitary (turned a U)
turned_unitary a U o = record {
  rows = λ i j hi hj.
      ap (λ X. X i j) (scaled_rows 4 (power one+i a) U.matrix)
      ∙ ap₂ (λ x y. x ⊗ y) (ap (λ x. power one+i a ⊗ x) (conj_power one+i a) ∙ power_conj a) (o.rows i j hi hj)
      ∙ sym (⊗-assoc (norm a) (norm U.exponent) (identity i j)) ∙ ap (λ x. x ⊗ identity i j) (norm_sum a U.exponent);
}

-- what a list of plain gates gives is unitary
pub given_unitary : (w : List Gate) (a : ℕ) (U : Quotient) → Gives w a U → Unitary U
given_unitary w a U s = same_unitary (turned a (plain_of w)) U s (turned_unitary a (plain_of w) (list_unitary w))
