-- The invariant: the walk stands where sheet n starts, and the sheets before it follow, so that the rest decides.
use mathlib.Core.Path.{◌≡◌}
use Prim.Native.Nat.{◌*◌, ◌-◌, ◌≤◌}
use Rattle.matrix.specs.Range.{every_from, every}
use Rattle.bundle.specs.Bundle.{start_of, is_followed}
use Rattle.bundle.proofs.has_sheets.Given as goal

abbrev pub invariant-loop-n : goal.invariant-loop-n
invariant-loop-n l = (l.at ≤ 199 * l.n) × (l.at ≡ start_of l.bytes l.n) × (every l.count (is_followed l.bytes) ≡ every_from (is_followed l.bytes) l.n (l.count - l.n))
