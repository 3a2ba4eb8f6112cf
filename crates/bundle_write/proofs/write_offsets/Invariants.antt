-- The invariant: the walk stands at sheet n, and the offsets of the sheets before it are in the buffer.
use mathlib.Core.Path.{◌≡◌}
use Rattle.text.specs.Writer.{Writes}
use Rattle.bundle.specs.Bundle.{start_of, offsets}
use Rattle.bundle_write.proofs.write_offsets.Given as goal

abbrev pub invariant-loop-n : goal.invariant-loop-n
invariant-loop-n l = (l.start ≡ start_of l.sheets l.n) × Writes (offsets l.sheets l.n) l.initial.w l.w
