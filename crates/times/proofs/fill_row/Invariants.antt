-- The invariant: the columns before c of row r are written.
use Prim.Native.Nat.{ℕ, ◌<◌}
use mathlib.Core.Path.{◌≡◌}
use lib.IntN.{ℤ}
use Rattle.matrix.specs.Laws.Rows.{RowDone}
use Rattle.times.proofs.fill_row.Given as goal

abbrev pub invariant-loop-c : goal.invariant-loop-c
invariant-loop-c g l = (f : ℕ → ℤ) → ((c : ℕ) (x : ℤ) → c < 6 → goal.F-post g l.at l.r c x → x ≡ f c) → RowDone l.r f l.initial.out l.c l.out
