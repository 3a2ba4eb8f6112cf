-- The invariant: the elements before x are halved, and from x on they are as they were.
use mathlib.Core.Path.{◌≡◌}
use Prim.Native.Nat.{ℕ, ◌/◌, ◌%◌}
use mathlib.Core.List.{List}
use lib.IntN.{ℤ, pos}
use lib.ListN.{length}
use Rattle.matrix.specs.Matrix.{entry}
use Rattle.matrix.specs.Array.{halved}
use Rattle.matrix.specs.Laws.Range.{Filled}
use Rattle.matrix.proofs.halve.Given as goal

abbrev pub half_at : List ℤ → ℕ → ℤ
half_at m n = halved (entry m) (n / 6) (n % 6)

abbrev pub invariant-loop-x : goal.invariant-loop-x
invariant-loop-x l = (length l.initial.m ≡ 36) × Filled (pos 0) (half_at l.initial.m) l.initial.m l.x-index l.m
