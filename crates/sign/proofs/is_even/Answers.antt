-- The two counts are the definition's.
use mathlib.Core.Path.{ap₂}
use Prim.Native.Nat.{◌+◌, ◌%◌}
use lib.Dec.{eqb}
use Rattle.clifford.specs.Columns.{is_even}
use Rattle.sign.proofs.is_even.Goals as goal

pub returns : goal.returns
unfolding is_even
returns g c = ap₂ (λ a b. eqb ((a + b) % 2) 0) c.inversions_of.ensures.1 c.minuses_of.ensures.1
