-- Whole numbers: parity, halves, equality as a test. The ring ℤ itself is the kit's `lib.IntN`.
use Rattle.std.specs.Prelude.{Bool, false, ℕ, ◌%◌, eqb, ℤ, pos, negsuc, nat_abs, ◌+ℤ◌, ◌≡◌}
use Rattle.std.specs.Int.Signed.{quot_z}

-- 1 where z is odd, 0 where it is even
unfoldable pub parity : ℤ → ℕ
parity z = nat_abs z % 2

-- z is twice a whole number
abbrev pub Even : ℤ → Type 0
Even z = (y : ℤ) × (z ≡ y +ℤ y)

-- half of z; of an odd z the half is rounded toward zero, as the machine divides
abbrev pub half : ℤ → ℤ
half z = quot_z z (pos 2)

-- whether two numbers are equal
abbrev pub equals : ℤ → ℤ → Bool
equals (pos a) (pos b) = eqb a b
equals (pos a) (negsuc b) = false
equals (negsuc a) (pos b) = false
equals (negsuc a) (negsuc b) = eqb a b
