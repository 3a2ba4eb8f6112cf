-- The rounding gives the nearest whole state, at an exact half the even one, and no other number is that.
use Rattle.std.specs.Prelude.{◌≡◌, ℕ, ◌+◌, ◌*◌, ◌/◌, ◌%◌, ◌≤◌, ◌<◌}
use Rattle.std.proofs.Common.{subst, mul-le-mul_left, arith}
use Rattle.std.proofs.Math.Decide.{dec_lt}
use borrow.Author.Tests.{lt-ltb, le-ltb}
use Rattle.order.specs.Order.{largest_spoilage, nearest, Nearest, figure}

-- ---- the three cases of the definition

module _ (n : ℕ) where
  pub above_half : 500 < n % 1000 → n / 1000 + 1 ≡ nearest n
  unfolding nearest
  above_half h = rw (lt-ltb 500 (n % 1000) h)

  pub below_half : n % 1000 ≤ 500 → n % 1000 < 500 → n / 1000 ≡ nearest n
  unfolding nearest
  below_half l h = rw (le-ltb 500 (n % 1000) l, lt-ltb (n % 1000) 500 h)

  pub at_half : n % 1000 ≤ 500 → 500 ≤ n % 1000 → n / 1000 + n / 1000 % 2 ≡ nearest n
  unfolding nearest
  at_half l h = rw (le-ltb 500 (n % 1000) l, le-ltb (n % 1000) 500 h)

-- ---- what the answer is

made_even : (n : ℕ) → (n + n % 2) % 2 ≡ 0
made_even n = omega arith

pub nearest_is : (n : ℕ) → Nearest n (nearest n)
nearest_is n =
    elim (dec_lt 500 (n % 1000)) [
      | yes a ↦
          let e = above_half n a in
          record { not_above = omega arith; not_below = omega arith; even_above = λ h. omega arith; even_below = λ h. omega arith }
      | no a ↦
          elim (dec_lt (n % 1000) 500) [
            | yes b ↦
                let e = below_half n (omega arith) b in
                record { not_above = omega arith; not_below = omega arith; even_above = λ h. omega arith; even_below = λ h. omega arith }
            | no b ↦
                let e = at_half n (omega arith) (omega arith) in
                let f = subst (λ m. m % 2 ≡ 0) e (made_even (n / 1000)) in
                record { not_above = omega arith; not_below = omega arith; even_above = λ h. f; even_below = λ h. f }
          ]
    ]

-- ---- that nothing else is

-- of two such numbers neither is the smaller one: they would be neighbours, both a half away and both even
not_less : (n m k : ℕ) → Nearest n m → Nearest n k → k ≤ m
not_less n m k a b =
    elim (dec_lt m k) [
      | yes h ↦
          let p = a.not_below in
          let q = b.not_above in
          let d : k ≡ m + 1 = omega arith in
          let e = a.even_below (omega arith) in
          let f = b.even_above (omega arith) in
          absurd (omega arith)
      | no h ↦ omega arith
    ]

-- any number with the properties is the answer
pub nearest_only : (n m : ℕ) → Nearest n m → m ≡ nearest n
nearest_only n m a = let p = not_less n m (nearest n) a (nearest_is n) in let q = not_less n (nearest n) m (nearest_is n) a in omega arith

-- ---- the figure

-- no more states spoil than are used
pub figure_le : (t p : ℕ) → p ≤ largest_spoilage → figure t p ≤ 2 * t
figure_le t p h = let m = mul-le-mul_left t h in let n = (nearest_is (t * p)).not_above in omega arith
