-- The invariant: the walk stands where sheet `count` would start, and the sheets before it are whole, so that the rest decides.
use mathlib.Core.Path.{◌≡◌}
use mathlib.Core.Bool.{Bool, not}
use mathlib.Core.List.{List}
use Prim.Native.Nat.{ℕ, suc, ◌-◌, ◌≤◌}
use lib.ListN.{length}
use Rattle.matrix.specs.Range.{first_from}
use Rattle.bundle.specs.Bundle.{most_sheets, start_of}
use Rattle.bundle_write.specs.Writing.{is_whole, stored_count}
use Rattle.bundle_write.proofs.count_sheets.Given as goal

-- where no sheet stands
abbrev pub is_none : List ℕ → ℕ → Bool
is_none s n = not (is_whole s (start_of s n))

abbrev pub invariant-loop-count : goal.invariant-loop-count
invariant-loop-count l = (l.end ≡ start_of l.sheets l.count) × (l.end ≤ length l.sheets) × (stored_count l.sheets ≡ first_from (is_none l.sheets) l.count (suc most_sheets - l.count))
