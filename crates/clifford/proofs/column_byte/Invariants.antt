-- The invariant: the entries of the column before row r are 0, so those from r on decide.
use mathlib.Core.Path.{◌≡◌}
use Prim.Native.Nat.{ℕ, ◌-◌}
use mathlib.Core.Bool.{Bool, not}
use mathlib.Core.List.{List}
use lib.IntN.{ℤ, pos}
use Rattle.matrix.specs.Range.{first_from}
use Rattle.matrix.specs.Integer.{equals}
use Rattle.matrix.specs.Matrix.{entry}
use Rattle.clifford.specs.Columns.{column_row}
use Rattle.clifford.proofs.column_byte.Given as goal

abbrev pub nonzero : List ℤ → ℕ → ℕ → Bool
nonzero m c r = not (equals (entry m r c) (pos 0))

abbrev pub invariant-loop-r : goal.invariant-loop-r
invariant-loop-r l = column_row (entry l.m) l.c ≡ first_from (nonzero l.m l.c) l.r (6 - l.r)
