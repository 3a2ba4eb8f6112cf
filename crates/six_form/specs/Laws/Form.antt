-- The form by its phase: all of its entries are imaginary, or real, or neither, and then the real parts are the form with an exponent of one less.
use Rattle.std.specs.Prelude.{◌≡◌, Bool, true, false, cond, List, [], ◌∷◌, ℕ, zero, suc, ◌+◌, ◌*◌, ◌/◌, ◌%◌, ◌<◌, ℤ, ◌*ℤ◌, get_or}
use Rattle.std.proofs.Math.Path.{refl, ap}
use Rattle.std.proofs.Common.{sym, ◌∙◌, inl, inr, arith}
use Rattle.std.proofs.Math.IntN.{pos}
use Rattle.matrix.specs.Integer.{equals}
use Rattle.matrix.specs.Matrix.{Matrix, entry, listed}
use Rattle.matrix.specs.Operator.{operator, SameUpToSign}
use Rattle.matrix.specs.Laws.Integer.{equals_eq, equals_yes, *ℤ-cancel-l, pos_nz}
use Rattle.matrix.specs.Laws.Range.{every_sound, every_complete}
use Rattle.matrix.specs.Laws.Ring.{var, num, ◌:+◌, ◌:*◌, ring}
use Rattle.matrix.specs.Laws.Operator.{same_operator_sym}
use Rattle.matrix.specs.Laws.Array.{entry_flat, entry_listed, listed_same}
use Rattle.clifford.specs.Laws.Sign.{up_sym, up_trans}
use Rattle.gaussian.specs.Gaussian.{power, ◌⊗◌}
use Rattle.unitary.specs.Unitary.{Quotient, Unitary}
use Rattle.unitary.specs.Form.{six_form, form_at, Real, turn_of, form_of}
use Rattle.unitary.specs.Laws.Part.{turn_0, turn_1, turn_2, turn_3}
use Rattle.unitary.specs.Laws.Turn.{two_turns}
use Rattle.unitary.specs.Laws.Exact.{turn_real, turn_small, real_or_negative}
use Rattle.six_form.specs.Places.{is_zero}

-- ---- whether all numbers are 0

abbrev zero_at : List ℤ → ℕ → Bool
zero_at m n = equals (get_or m n (pos 0)) (pos 0)

zero_sound : (M : Matrix) → is_zero (listed M) ≡ true → (r c : ℕ) → r < 6 → c < 6 → M r c ≡ pos 0
unfolding is_zero
zero_sound M e r c hr hc =
    let row : (r * 6 + c) / 6 ≡ r = omega arith in
    sym (entry_listed M r c hr hc) ∙ equals_eq (entry (listed M) r c) (pos 0) (every_sound 36 (zero_at (listed M)) e (r * 6 + c) (omega arith))

zero_complete : (M : Matrix) → ((r c : ℕ) → r < 6 → c < 6 → M r c ≡ pos 0) → is_zero (listed M) ≡ true
unfolding is_zero
zero_complete M h =
    every_complete 36 (zero_at (listed M))
    (λ n u. equals_yes (sym (entry_flat (listed M) n) ∙ entry_listed M (n / 6) (n % 6) (omega arith) (omega arith) ∙ h (n / 6) (n % 6) (omega arith) (omega arith)))

clash : {t : Bool} → t ≡ false → t ≡ true → ⊥
clash {t} e f = let x : ◌≡◌ {A = ℕ} (cond t 1 0) 0 = ap (λ b. cond b 1 0) e in let y : ◌≡◌ {A = ℕ} (cond t 1 0) 1 = ap (λ b. cond b 1 0) f in omega arith

-- ---- the phases

module _ (U : Quotient) (o : Unitary U) where
  abbrev re : Matrix
  re r c = (six_form U.matrix r c).re

  abbrev im : Matrix
  im r c = (six_form U.matrix r c).im

  abbrev k : ℕ
  k = U.exponent

  -- of one power of ω that makes the form real
  by_turn : (t : ℕ) → Real t U → {e : ℕ} {M : Matrix} → SameUpToSign (operator e M) (form_at t U) → SameUpToSign (operator e (entry (listed M))) (form_of U)
  by_turn t h {e} {M} u =
      up_trans (inl (same_operator_sym (listed_same (operator e M))))
      (up_trans u (up_trans (two_turns U o t (turn_of U) h (turn_real U o)) (up_sym (real_or_negative U o))))

  real_2 : ((r c : ℕ) → r < 6 → c < 6 → re r c ≡ pos 0) → Real 2 U
  unfolding power ◌⊗◌
  real_2 h r c hr hc = ring (re r c ∷ im r c ∷ []) (num (pos 0) :* var 1 :+ num (pos 2) :* var 0) (num (pos 2) :* var 0) refl ∙ ap (λ x. pos 2 *ℤ x) (h r c hr hc)

  real_0 : ((r c : ℕ) → r < 6 → c < 6 → im r c ≡ pos 0) → Real 0 U
  unfolding power ◌⊗◌
  real_0 h r c hr hc = ring (re r c ∷ im r c ∷ []) (num (pos 1) :* var 1 :+ num (pos 0) :* var 0) (var 1) refl ∙ h r c hr hc

  zero_2 : Real 2 U → (r c : ℕ) → r < 6 → c < 6 → re r c ≡ pos 0
  unfolding power ◌⊗◌
  zero_2 h r c hr hc =
      *ℤ-cancel-l (re r c) (pos 0) (pos 2) (pos_nz 2 (omega arith))
      (ring (re r c ∷ im r c ∷ []) (num (pos 2) :* var 0) (num (pos 0) :* var 1 :+ num (pos 2) :* var 0) refl ∙ h r c hr hc)

  zero_0 : Real 0 U → (r c : ℕ) → r < 6 → c < 6 → im r c ≡ pos 0
  unfolding power ◌⊗◌
  zero_0 h r c hr hc = ring (re r c ∷ im r c ∷ []) (var 1) (num (pos 1) :* var 1 :+ num (pos 0) :* var 0) refl ∙ h r c hr hc

  pub imaginary_form : is_zero (listed re) ≡ true → SameUpToSign (operator (2 * k + 2) (entry (listed im))) (form_of U)
  imaginary_form z = let h = real_2 (zero_sound re z) in by_turn 2 h (up_sym (inr (turn_2 U)))

  pub real_form_lem : is_zero (listed im) ≡ true → SameUpToSign (operator (2 * k + 2) (entry (listed re))) (form_of U)
  real_form_lem z = let h = real_0 (zero_sound im z) in by_turn 0 h (up_sym (inl (turn_0 U)))

  pub diagonal_form : is_zero (listed re) ≡ false → is_zero (listed im) ≡ false → SameUpToSign (operator (2 * k + 1) (entry (listed re))) (form_of U)
  diagonal_form y z = go (turn_of U) (turn_small U o) (turn_real U o)
    where
      go : (t : ℕ) → t < 4 → Real t U → SameUpToSign (operator (2 * k + 1) (entry (listed re))) (form_of U)
      go zero l h = absurd (clash z (zero_complete im (zero_0 h)))
      go (suc zero) l h = by_turn 1 h (up_sym (inl (turn_1 U h)))
      go (suc (suc zero)) l h = absurd (clash y (zero_complete re (zero_2 h)))
      go (suc (suc (suc zero))) l h = by_turn 3 h (up_sym (inr (turn_3 U h)))
      go (suc (suc (suc (suc t)))) l h = absurd (omega arith)
