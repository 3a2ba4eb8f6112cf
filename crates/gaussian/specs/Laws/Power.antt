-- Powers of 2, i, 1 + i and 1 − i.
use Rattle.std.specs.Prelude.{◌≡◌, refl, ◌≢◌, ℕ, zero, suc, ◌+◌, ◌*◌, ◌^◌, ◌<◌, pos}
use Rattle.std.proofs.Common.{sym, ◌∙◌, ap, ⊎_elim, arith, pow-add}
use Rattle.std.proofs.Math.Nat.{two-pow-succ}
use Rattle.matrix.specs.Laws.Integer.{two-*ℤ, pos_nz}
use Rattle.gaussian.specs.declared.Gaussian.{Gaussian}
use Rattle.gaussian.specs.Gaussian.{real, unit, one+i, ◌⊗◌, conj, power}
use Rattle.gaussian.specs.Laws.Gaussian.{⊗-unit-l, no_zero_divisorsᴳ, power_nz, ⊗-swap, power_sum, real-⊗}

-- 2 to the power k
abbrev pub norm : ℕ → Gaussian
norm k = real (pos (2 ^ k))

pub norm_sum : (k l : ℕ) → norm k ⊗ norm l ≡ norm (k + l)
norm_sum k l = real-⊗ (pos (2 ^ k)) (pos (2 ^ l)) ∙ ap (λ x. real (pos x)) (sym (pow-add 2 k l))

pub power-⊗ : (x y : Gaussian) (n : ℕ) → power (x ⊗ y) n ≡ power x n ⊗ power y n
unfolding power
power-⊗ x y zero = sym (⊗-unit-l (real (pos 1)))
power-⊗ x y (suc n) = ap (λ z. x ⊗ y ⊗ z) (power-⊗ x y n) ∙ ⊗-swap x y (power x n) (power y n)

pub power_one : (n : ℕ) → power (real (pos 1)) n ≡ real (pos 1)
unfolding power
power_one zero = refl
power_one (suc n) = ⊗-unit-l (power (real (pos 1)) n) ∙ power_one n

pub power_two : (n : ℕ) → power (real (pos 2)) n ≡ real (pos (2 ^ n))
unfolding power
power_two zero = refl
power_two (suc n) = ap (λ x. real (pos 2) ⊗ x) (power_two n) ∙ real-⊗ (pos 2) (pos (2 ^ n)) ∙ ap real (two-*ℤ (pos (2 ^ n)) ∙ ap pos (sym (two-pow-succ n)))

one+i_conj : one+i ⊗ conj one+i ≡ real (pos 2)
unfolding ◌⊗◌ conj
one+i_conj = refl

one+i_is : one+i ≡ unit ⊗ conj one+i
unfolding ◌⊗◌ conj
one+i_is = refl

-- (1 + i)ⁿ (1 − i)ⁿ is 2ⁿ
pub power_conj : (n : ℕ) → power one+i n ⊗ power (conj one+i) n ≡ real (pos (2 ^ n))
power_conj n = sym (power-⊗ one+i (conj one+i) n) ∙ ap (λ x. power x n) one+i_conj ∙ power_two n

pub power_is : (n : ℕ) → power one+i n ≡ power unit n ⊗ power (conj one+i) n
power_is n = ap (λ x. power x n) one+i_is ∙ power-⊗ unit (conj one+i) n

pub unit_four : (b : ℕ) → power unit (b + (b + b)) ⊗ power unit b ≡ real (pos 1)
unfolding ◌⊗◌
unit_four b =
    ap (λ x. x ⊗ power unit b) (power_sum unit b (b + b) ∙ ap (λ x. power unit b ⊗ x) (power_sum unit b b ∙ sym (power-⊗ unit unit b)) ∙ sym (power-⊗ unit (unit ⊗ unit) b))
    ∙ sym (power-⊗ (unit ⊗ (unit ⊗ unit)) unit b) ∙ power_one b

pub real_nz : (n : ℕ) → 0 < n → real (pos n) ≢ real (pos 0)
real_nz n l e = pos_nz n l (ap (λ z. z.re) e)

pub one+i_nz : (n : ℕ) → power one+i n ≢ real (pos 0)
one+i_nz = power_nz one+i (λ e. pos_nz 1 (omega arith) (ap (λ z. z.re) e))

pub conj_nz : (n : ℕ) → power (conj one+i) n ≢ real (pos 0)
unfolding conj
conj_nz = power_nz (conj one+i) (λ e. pos_nz 1 (omega arith) (ap (λ z. z.re) e))

pub ⊗-nz : (a b : Gaussian) → a ≢ real (pos 0) → b ≢ real (pos 0) → a ⊗ b ≢ real (pos 0)
⊗-nz a b p q e = ⊎_elim p q (no_zero_divisorsᴳ a b e)

-- 2 i is (1 + i)²
pub twice_unit : (a : ℕ) → norm a ⊗ power unit a ≡ power one+i (a + a)
unfolding ◌⊗◌
twice_unit a =
    ap (λ x. x ⊗ power unit a) (sym (power_two a)) ∙ sym (power-⊗ (real (pos 2)) unit a) ∙ power-⊗ one+i one+i a ∙ sym (power_sum one+i a a)

-- (1 + i)⁸ is 16
pub eight : (j : ℕ) → power one+i (8 * j) ≡ norm (4 * j)
unfolding power ◌⊗◌
eight zero = refl
eight (suc j) =
    ap (power one+i) (more j) ∙ power_sum one+i 8 (8 * j) ∙ ap (λ x. norm 4 ⊗ x) (eight j) ∙ norm_sum 4 (4 * j) ∙ ap norm (sym (less j))
  where
    more : (j : ℕ) → 8 * suc j ≡ 8 + 8 * j
    more j = omega arith

    less : (j : ℕ) → 4 * suc j ≡ 4 + 4 * j
    less j = omega arith
