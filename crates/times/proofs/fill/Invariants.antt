-- The invariant: the rows before r are written.
use Prim.Native.Nat.{ℕ, ◌<◌}
use mathlib.Core.Path.{◌≡◌}
use lib.IntN.{ℤ}
use Rattle.matrix.specs.Laws.Rows.{RowsDone}
use Rattle.times.proofs.fill.Given as goal

abbrev pub invariant-loop-r : goal.invariant-loop-r
invariant-loop-r g l = (f : ℕ → ℕ → ℤ) → ((r c : ℕ) (x : ℤ) → r < 6 → c < 6 → goal.F-post g l.at r c x → x ≡ f r c) → RowsDone f l.r l.out
