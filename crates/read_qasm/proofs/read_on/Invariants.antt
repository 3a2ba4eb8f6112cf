-- The invariant: what is in the buffer earns what the text and all bytes that were read behind it earn.
use Rattle.read_qasm.specs.Laws.Waiting.{ReadOn}
use Rattle.read_qasm.proofs.read_on.Given as goal

abbrev pub invariant-loop : goal.invariant-loop
invariant-loop g l = ReadOn l.text l.buffer l.left
