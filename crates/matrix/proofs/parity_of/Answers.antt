-- The remainder by 2 is 0 exactly for an even number, also a negative one.
use mathlib.Core.Path.{◌≡◌, sym}
use mathlib.Core.Bool.{not}
use lib.Dec.{eqb}
use lib.IntN.{ℤ, pos}
use lib.Signed.{rem_z}
use mir.Syntax.{w64}
use mir.Val.{of_z, bool_byte}
use mir.Facts.{to_z-of_z}
use borrow.Author.Tests.{eq-eqb, ne_eqb}
use Rattle.std.proofs.Math.Decide.{ℕ_discrete}
use Rattle.matrix.specs.Integer.{parity}
use Rattle.matrix.specs.Laws.Machine.{rem_even, rem_odd}
use Rattle.matrix.proofs.parity_of.Goals as goal

odd_bit : (z : ℤ) → bool_byte (not (eqb (of_z w64 (rem_z z (pos 2))) 0)) ≡ parity z
odd_bit z = elim (ℕ_discrete (of_z w64 (rem_z z (pos 2))) 0) [
  | yes e ↦ rw (eq-eqb _ _ e) (sym (rem_even z e))
  | no n ↦ rw (ne_eqb _ _ n) (sym (rem_odd z n))
]

pub returns : goal.returns
returns c = rw (to_z-of_z c.ranges.x) (odd_bit c.args.x)
