-- Parity of sums and products, and exact halving.
use Rattle.std.specs.Prelude.{◌≡◌, refl, ◌⊎◌, ℕ, zero, suc, ◌+◌, ◌*◌, ◌/◌, ◌%◌, ◌<◌, ℤ, pos, negsuc, neg_ℤ, nat_abs, ◌+ℤ◌, ◌-ℤ◌, ◌*ℤ◌}
use Rattle.std.proofs.Common.{sym, ◌∙◌, ap, inl, inr, suc-mul, zero-mul, mul-zero, mul-one, arith}
use Rattle.std.proofs.Math.IntN.{sub_ℕ, neg_ℤ-+ℤ}
use Rattle.matrix.specs.Integer.{parity, Even, half}
use Rattle.matrix.specs.Laws.Integer.{nat_abs_neg, nat_abs_mul, subℕ_ind, double_cancel}

pub parity_lt : (z : ℤ) → parity z < 2
unfolding parity
parity_lt z = omega arith

pub parity_cases : (z : ℤ) → (parity z ≡ 0) ⊎ (parity z ≡ 1)
parity_cases z = go (parity z) (parity_lt z)
  where
    go : (n : ℕ) → n < 2 → (n ≡ 0) ⊎ (n ≡ 1)
    go zero h = inl refl
    go (suc n) h = inr (omega arith)

parity_sub : (a b : ℕ) → parity (sub_ℕ a b) ≡ (a + b) % 2
unfolding parity
parity_sub a b = subℕ_ind a b (λ z. parity z ≡ (a + b) % 2) (λ h. omega arith) (λ h. omega arith)

pub parity_add : (a b : ℤ) → parity (a +ℤ b) ≡ (parity a + parity b) % 2
unfolding parity
parity_add (pos a) (pos b) = omega arith
parity_add (pos a) (negsuc b) = omega (arith, parity_sub a (suc b))
parity_add (negsuc a) (pos b) = omega (arith, parity_sub b (suc a))
parity_add (negsuc a) (negsuc b) = omega arith

pub parity_minus : (a b : ℤ) → parity (a -ℤ b) ≡ (parity a + parity b) % 2
unfolding parity
parity_minus a b = omega (arith, parity_add a (neg_ℤ b), nat_abs_neg b)

mul_even : (m n : ℕ) → n % 2 ≡ 0 → (m * n) % 2 ≡ 0
mul_even zero n h = omega (arith, zero-mul n)
mul_even (suc m) n h = omega (arith, suc-mul m n, mul_even m n h)

mul_odd : (m n : ℕ) → n % 2 ≡ 1 → (m * n) % 2 ≡ m % 2
mul_odd zero n h = omega (arith, zero-mul n)
mul_odd (suc m) n h = omega (arith, suc-mul m n, mul_odd m n h)

pub parity_mul : (a b : ℤ) → parity (a *ℤ b) ≡ parity a * parity b
unfolding parity
parity_mul a b = ap (λ n. n % 2) (nat_abs_mul a b) ∙ go (parity_cases b)
  where
    go : (parity b ≡ 0) ⊎ (parity b ≡ 1) → (nat_abs a * nat_abs b) % 2 ≡ parity a * parity b
    go (inl h) = mul_even (nat_abs a) (nat_abs b) h ∙ sym (mul-zero (parity a)) ∙ ap (λ x. parity a * x) (sym h)
    go (inr h) = mul_odd (nat_abs a) (nat_abs b) h ∙ sym (mul-one (parity a)) ∙ ap (λ x. parity a * x) (sym h)

pub parity_double : (a : ℤ) → parity (a +ℤ a) ≡ 0
parity_double a = omega (arith, parity_add a a)

-- ---- halves

pub half_even : (z : ℤ) → parity z ≡ 0 → half z +ℤ half z ≡ z
unfolding parity
half_even (pos n) h = ap pos (omega arith)
half_even (negsuc n) h = sym (neg_ℤ-+ℤ (pos (suc n / 2)) (pos (suc n / 2))) ∙ ap (λ m. neg_ℤ (pos m)) here
  where
    here : suc n / 2 + suc n / 2 ≡ suc n
    here = omega arith

pub even_parity : (z : ℤ) → Even z → parity z ≡ 0
even_parity z (y, e) = ap parity e ∙ parity_double y

pub parity_even : (z : ℤ) → parity z ≡ 0 → Even z
parity_even z h = (half z, sym (half_even z h))

pub half_double : (y : ℤ) → half (y +ℤ y) ≡ y
half_double y = double_cancel (half (y +ℤ y)) y (half_even (y +ℤ y) (parity_double y))

-- numbers of equal parity: the halves of their sum and difference lose nothing
pub half_sum : (a b : ℤ) → parity a ≡ parity b → half (a +ℤ b) +ℤ half (a +ℤ b) ≡ a +ℤ b
half_sum a b h = half_even (a +ℤ b) (omega (arith, parity_add a b, h))

pub half_minus : (a b : ℤ) → parity a ≡ parity b → half (a -ℤ b) +ℤ half (a -ℤ b) ≡ a -ℤ b
half_minus a b h = half_even (a -ℤ b) (omega (arith, parity_minus a b))

pub nat_abs_half : (z : ℤ) → nat_abs (half z) ≡ nat_abs z / 2
nat_abs_half (pos n) = refl
nat_abs_half (negsuc n) = nat_abs_neg (pos (suc n / 2))
