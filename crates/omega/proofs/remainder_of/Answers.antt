-- The machine's remainder lies between −16 and 16, far from overflow.
use mathlib.Core.Path.{◌≡◌}
use native.Mathlib.Nat.{lt_of_le_of_lt}
use native.Mathlib.Omega.{arith}
use lib.IntN.{ℤ, pos, ◌+ℤ◌}
use lib.Signed.{rem_z, mag_rem}
use mir.Syntax.{w64}
use mir.Val.{SFits, to_z, of_z}
use mir.Facts.{to_z-of_z}
use Rattle.omega.specs.Laws.Residue.{lifted, lifted_is, lifted_most, lifted_remainder}
use Rattle.omega.proofs.remainder_of.Goals as goal

module _ (z : ℤ) (f : SFits w64 z) where
  -- the sum, as the machine has it
  sum_is : to_z w64 (of_z w64 (rem_z (to_z w64 (of_z w64 z)) (pos 17))) +ℤ pos 17 ≡ pos (lifted z)
  sum_is = rw (to_z-of_z f) (rw (to_z-of_z (record { sfits = lt_of_le_of_lt (mag_rem z (pos 17)) f.sfits })) (lifted_is z))

  sum_fits : SFits w64 (pos (lifted z))
  sum_fits = let l = lifted_most z in record { sfits = omega arith }

pub returns : goal.returns
returns c = rw (sum_is c.args.x c.ranges.x, to_z-of_z (sum_fits c.args.x c.ranges.x)) (lifted_remainder c.args.x, omega arith)
