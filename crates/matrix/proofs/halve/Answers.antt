use mathlib.Core.Path.{◌≡◌, sym}
use native.Mathlib.Omega.{arith}
use Rattle.matrix.specs.Matrix.{listed}
use Rattle.matrix.specs.Laws.Range.{filled_all}
use Rattle.matrix.proofs.halve.Goals as goal

pub returns : goal.returns
unfolding listed
returns c =
    let e : c.loop-x.x-index ≡ 36 = omega arith in
    filled_all _ _ _ 36 _ (rw e at c.loop-x.invariant.1) (sym c.loop-x.invariant.0)
