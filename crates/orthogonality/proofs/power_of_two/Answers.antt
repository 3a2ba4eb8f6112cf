-- Shifted by at most 60 places, 1 stays within an i64.
use mathlib.Core.Path.{◌≡◌}
use Prim.Native.Nat.{ℕ, ◌*◌, ◌%◌, ◌^◌, ◌≤◌}
use native.Mathlib.Nat.{one-mul, mod-eq_of_lt}
use native.Mathlib.Omega.{arith}
use lib.IntN.{pos}
use lib.Pow.{pow_mono}
use mir.Facts.{to_z-of_z}
use mir.Syntax.{w64}
use mir.Val.{SFits}
use Rattle.orthogonality.proofs.power_of_two.Goals as goal

shifted : (k : ℕ) → k ≤ 60 → (1 * 2 ^ k) % 2 ^ 64 ≡ 2 ^ k
shifted k h = let l : 2 ^ k ≤ 2 ^ 60 = pow_mono h in rw one-mul (mod-eq_of_lt (omega arith))

fits : (k : ℕ) → k ≤ 60 → SFits w64 (pos (2 ^ k))
fits k h = let l : 2 ^ k ≤ 2 ^ 60 = pow_mono h in record { sfits = omega arith }

pub overflow_cast-result-2 : goal.overflow_cast-result-2
overflow_cast-result-2 c = rw (shifted c.args.k c.requires) (fits c.args.k c.requires)

pub returns : goal.returns
returns c = rw (shifted c.args.k c.requires) (to_z-of_z (fits c.args.k c.requires))
