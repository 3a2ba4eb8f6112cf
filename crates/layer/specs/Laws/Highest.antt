-- The highest of some numbers.
use Rattle.std.specs.Prelude.{◌≡◌, refl, ℕ, zero, suc, max, ◌≤◌, ◌<◌}
use Rattle.std.proofs.Common.{ap, ap₂, arith}
use Rattle.std.proofs.Math.Decide.{ℕ_discrete}
use Rattle.layer.specs.Layer.{highest}

pub highest_cong : (n : ℕ) (f g : ℕ → ℕ) → ((i : ℕ) → i < n → f i ≡ g i) → highest n f ≡ highest n g
unfolding highest
highest_cong zero f g h = refl
highest_cong (suc n) f g h = ap₂ max (highest_cong n f g (λ i l. h i (omega arith))) (h n (omega arith))

pub le_highest : (n : ℕ) (f : ℕ → ℕ) (i : ℕ) → i < n → f i ≤ highest n f
unfolding highest
le_highest zero f i h = absurd (omega arith)
le_highest (suc n) f i h = elim (ℕ_discrete i n) [
  | yes e ↦ let a : f i ≡ f n = ap f e in omega arith
  | no d ↦ let a = le_highest n f i (omega arith) in omega arith
]

pub highest_le : (n : ℕ) (f : ℕ → ℕ) (m : ℕ) → ((i : ℕ) → i < n → f i ≤ m) → highest n f ≤ m
unfolding highest
highest_le zero f m h = omega arith
highest_le (suc n) f m h = let a = highest_le n f m (λ i l. h i (omega arith)) in let b = h n (omega arith) in omega arith

pub highest_max : (n : ℕ) (f g : ℕ → ℕ) → highest n (λ i. max (f i) (g i)) ≡ max (highest n f) (highest n g)
unfolding highest
highest_max zero f g = omega arith
highest_max (suc n) f g = let e = highest_max n f g in omega arith
