-- The invariant: the numbers before the index are in the buffer.
use Rattle.std.proofs.Common.{take}
use Rattle.text.specs.Text.{spaced}
use Rattle.text.specs.Writer.{Writes}
use Rattle.text.proofs.Writer.spaced.Given as goal

abbrev pub invariant-loop-n : goal.invariant-loop-n
invariant-loop-n l = Writes (spaced (take l.n-index l.numbers)) l.initial.self l.self
