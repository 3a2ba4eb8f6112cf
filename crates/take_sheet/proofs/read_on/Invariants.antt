-- The invariant: the last two bytes are those of all that was read.
use Rattle.std.specs.Prelude.{IfSome}
use Rattle.take_sheet.specs.Laws.Reading.{ReadOn}
use Rattle.take_sheet.proofs.read_on.Given as goal

abbrev pub invariant-loop-turns : goal.invariant-loop-turns
invariant-loop-turns g l = IfSome (g.R.Read.remaining l.initial.input) (λ xs. ReadOn xs (g.R.Read.remaining l.input) l.initial.bytes l.bytes l.turns)
