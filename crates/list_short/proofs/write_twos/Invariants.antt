-- The invariant: the lines of the pairs whose first number is below g are in the buffer.
use Rattle.list_short.specs.Output.{pairs_of}
use Rattle.list_short.specs.Laws.Loop.{Begun}
use Rattle.list_short.proofs.write_twos.Given as goal

abbrev pub invariant-loop-g : goal.invariant-loop-g
invariant-loop-g l = Begun pairs_of l.initial.w l.g l.w
