-- Ranges of indices: the sum over a range, a test at every index of it, the list and the number that a function of the index makes.
-- Each recursion goes in the direction of the loop that computes it.
use Rattle.std.specs.Prelude.{Bool, true, cond, ◌&&◌, List, [], ◌∷◌, ℕ, zero, suc, ◌+◌, ◌*◌, ltb, ℤ, pos, ◌+ℤ◌}

-- f 0 + .. + f (n − 1)
unfoldable pub sum : ℕ → (ℕ → ℤ) → ℤ
sum zero f = pos 0
sum (suc n) f = sum n f +ℤ f n

-- whether f holds at each of the k indices a, a + 1, ..
unfoldable pub every_from : (ℕ → Bool) → ℕ → ℕ → Bool
every_from f a zero = true
every_from f a (suc k) = f a && every_from f (suc a) k

-- whether f holds at each index below n
abbrev pub every : ℕ → (ℕ → Bool) → Bool
every n f = every_from f 0 n

-- the first of the k indices a, a + 1, .. at which f holds; a + k where it holds at none of them
unfoldable pub first_from : (ℕ → Bool) → ℕ → ℕ → ℕ
first_from f a zero = a
first_from f a (suc k) = cond (f a) a (first_from f (suc a) k)

-- whether f holds at some index below n
abbrev pub some : ℕ → (ℕ → Bool) → Bool
some n f = ltb (first_from f 0 n) n

-- f a, f (a + 1), .., k of them
unfoldable pub tabulate : {A : Type 0} → (ℕ → A) → ℕ → ℕ → List A
tabulate f a zero = []
tabulate f a (suc k) = f a ∷ tabulate f (suc a) k

-- the number whose k lowest bits are f a, f (a + 1), .., lowest first, where each of these is 0 or 1
unfoldable pub bits : (ℕ → ℕ) → ℕ → ℕ → ℕ
bits f a zero = 0
bits f a (suc k) = f a + 2 * bits f (suc a) k

-- f a + f (a + 1) + .., k of them
unfoldable pub total : (ℕ → ℕ) → ℕ → ℕ → ℕ
total f a zero = 0
total f a (suc k) = f a + total f (suc a) k
