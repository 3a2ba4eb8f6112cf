-- A Gaussian integer whose square norm is a power of 2 is a power of i times a power of 1 + i.
use Rattle.std.specs.Prelude.{◌≡◌, refl, ◌⊎◌, [], ◌∷◌, ℕ, zero, suc, ◌+◌, ◌*◌, ◌%◌, ◌^◌, ◌≤◌, ℤ, negsuc, nat_abs, ◌+ℤ◌, ◌-ℤ◌, ◌*ℤ◌}
use Rattle.std.proofs.Math.Path.{sym, ap}
use Rattle.std.proofs.Common.{◌∙◌, ap₂, inl, inr, ⊎_elim, arith, mul-pos, mul-le-mul}
use Rattle.std.proofs.Math.Nat.{two-pow-succ}
use Rattle.std.proofs.Math.IntN.{pos}
use Rattle.matrix.specs.Integer.{parity, half}
use Rattle.matrix.specs.Laws.Integer.{nat_abs_zero, square_size, *ℤ-cancel-l, pos_nz, two-*ℤ}
use Rattle.matrix.specs.Laws.Parity.{parity_cases, parity_add, parity_mul, parity_double, half_sum, half_minus}
use Rattle.matrix.specs.Laws.Ring.{var, num, ◌:+◌, ◌:-◌, ◌:*◌, ◌:=◌, ◌of◌, times_by}
use Rattle.gaussian.specs.declared.Gaussian.{Gaussian}
use Rattle.gaussian.specs.Gaussian.{gaussian, unit, one+i, ◌⊗◌, power, norm_of}
use Rattle.gaussian.specs.Laws.Gaussian.{norm-⊗, ⊗-left-comm}

-- ---- square norm 1

four : (n : ℕ) → 4 ≤ suc (suc n) * suc (suc n)
four n = let l : 2 ≤ suc (suc n) = omega arith in mul-le-mul l l

small : (m n : ℕ) → m * m + n * n ≡ 1 → ((m ≡ 1) × (n ≡ 0)) ⊎ ((m ≡ 0) × (n ≡ 1))
small zero zero e = absurd (omega arith)
small zero (suc zero) e = inr (refl, refl)
small zero (suc (suc n)) e = absurd (omega (arith, four n))
small (suc zero) zero e = inl (refl, refl)
small (suc zero) (suc n) e = absurd (omega (arith, mul-pos {m = suc n} {n = suc n} (omega arith) (omega arith)))
small (suc (suc m)) n e = absurd (omega (arith, four m))

one_of : (z : ℤ) → nat_abs z ≡ 1 → (z ≡ pos 1) ⊎ (z ≡ negsuc 0)
one_of (pos n) e = inl (ap pos e)
one_of (negsuc n) e = let d : suc n ≡ 1 = e in inr (ap negsuc (omega arith))

abbrev Descended : Gaussian → ℕ → Type 0
Descended z n = (a : ℕ) × (z ≡ power unit a ⊗ power one+i n)

units : (z : Gaussian) → norm_of z ≡ pos 1 → Descended z 0
unfolding norm_of power ◌⊗◌
units z e =
    ⊎_elim
    (λ h. ⊎_elim (λ p. (0, ap₂ gaussian p (nat_abs_zero z.im h.1))) (λ p. (2, ap₂ gaussian p (nat_abs_zero z.im h.1))) (one_of z.re h.0))
    (λ h. ⊎_elim (λ p. (1, ap₂ gaussian (nat_abs_zero z.re h.0) p)) (λ p. (3, ap₂ gaussian (nat_abs_zero z.re h.0) p)) (one_of z.im h.1))
    (small (nat_abs z.re) (nat_abs z.im) (ap nat_abs (sym (ap₂ (λ x y. x +ℤ y) (square_size z.re) (square_size z.im)) ∙ e)))

-- ---- one step: an even square norm

alike : (x y : ℤ) (m : ℕ) → x *ℤ x +ℤ y *ℤ y ≡ pos (m + m) → parity x ≡ parity y
alike x y m e = go (parity_cases x) (parity_cases y)
  where
    even : (parity x * parity x + parity y * parity y) % 2 ≡ 0
    even = sym (parity_add (x *ℤ x) (y *ℤ y) ∙ rw (parity_mul x x, parity_mul y y)) ∙ ap parity e ∙ parity_double (pos m)

    go : (parity x ≡ 0) ⊎ (parity x ≡ 1) → (parity y ≡ 0) ⊎ (parity y ≡ 1) → parity x ≡ parity y
    go (inl p) (inl q) = p ∙ sym q
    go (inl p) (inr q) = let z : (0 * 0 + 1 * 1) % 2 ≡ 0 = rw (p, q) at even in absurd (omega arith)
    go (inr p) (inl q) = let z : (1 * 1 + 0 * 0) % 2 ≡ 0 = rw (p, q) at even in absurd (omega arith)
    go (inr p) (inr q) = p ∙ sym q

divided : (z : Gaussian) → parity z.re ≡ parity z.im → z ≡ one+i ⊗ gaussian (half (z.im +ℤ z.re)) (half (z.im -ℤ z.re))
unfolding ◌⊗◌
divided z p =
    let ρ = half (z.im +ℤ z.re) ∷ half (z.im -ℤ z.re) ∷ z.re ∷ z.im ∷ [] in
    let s = half_sum z.im z.re (sym p) in
    let d = half_minus z.im z.re (sym p) in
    ap₂ gaussian
    (sym (times_by ρ 1 (num (pos 1) :* var 0 :- num (pos 1) :* var 1) (var 2) ((num (pos 1) of (var 0 :+ var 0 := var 3 :+ var 2)) ∷ (num (negsuc 0) of (var 1 :+ var 1 := var 3 :- var 2)) ∷ []) (s, (d, tt)) refl))
    (sym (times_by ρ 1 (num (pos 1) :* var 1 :+ num (pos 1) :* var 0) (var 3) ((num (pos 1) of (var 0 :+ var 0 := var 3 :+ var 2)) ∷ (num (pos 1) of (var 1 :+ var 1 := var 3 :- var 2)) ∷ []) (s, (d, tt)) refl))

module _ (n : ℕ) (z : Gaussian) (e : norm_of z ≡ pos (2 ^ suc n)) where
  same_parity : parity z.re ≡ parity z.im
  unfolding norm_of
  same_parity = alike z.re z.im (2 ^ n) (e ∙ ap pos (two-pow-succ n))

  lower : (y : Gaussian) → z ≡ one+i ⊗ y → norm_of y ≡ pos (2 ^ n)
  unfolding norm_of
  lower y h =
      *ℤ-cancel-l (norm_of y) (pos (2 ^ n)) (pos 2) (pos_nz 2 (omega arith))
      (sym (norm-⊗ one+i y) ∙ ap norm_of (sym h) ∙ e ∙ ap pos (two-pow-succ n) ∙ sym (two-*ℤ (pos (2 ^ n))))

pub descent : (n : ℕ) (z : Gaussian) → norm_of z ≡ pos (2 ^ n) → (a : ℕ) × (z ≡ power unit a ⊗ power one+i n)
unfolding power
descent zero z e = units z e
descent (suc n) z e =
    let y = gaussian (half (z.im +ℤ z.re)) (half (z.im -ℤ z.re)) in
    let d = divided z (same_parity n z e) in
    let (a, h) = descent n y (lower n z e y d) in
    (a, d ∙ ap (λ x. one+i ⊗ x) h ∙ ⊗-left-comm one+i (power unit a) (power one+i n))
