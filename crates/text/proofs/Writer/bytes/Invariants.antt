-- The invariant: the bytes before the index are in the buffer.
use Rattle.std.proofs.Common.{take}
use Rattle.text.specs.Writer.{Writes}
use Rattle.text.proofs.Writer.bytes.Given as goal

abbrev pub invariant-loop-b : goal.invariant-loop-b
invariant-loop-b l = Writes (take l.b-index l.bytes) l.initial.self l.self
