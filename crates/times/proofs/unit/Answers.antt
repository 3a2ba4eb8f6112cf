use mathlib.Core.Path.{◌≡◌, refl}
use mathlib.Core.Bool.{Bool, true, false, cond}
use lib.Dec.{eqb}
use lib.IntN.{pos}
use mir.Syntax.{w64}
use mir.Val.{to_z, bool_byte}
use Rattle.matrix.specs.Matrix.{δ}
use Rattle.times.proofs.unit.Goals as goal

-- a test as a number
by_test : (b : Bool) → to_z w64 (bool_byte b) ≡ cond b (pos 1) (pos 0)
by_test true = refl
by_test false = refl

pub returns : goal.returns
unfolding δ
returns c = by_test (eqb c.args.r c.args.c)
