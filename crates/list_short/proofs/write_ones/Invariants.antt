-- The invariant: the lines of the numbers below g are in the buffer.
use Rattle.list_short.specs.Laws.Loop.{Begun}
use Rattle.list_short.specs.Laws.Output.{one_of}
use Rattle.list_short.proofs.write_ones.Given as goal

abbrev pub invariant-loop-g : goal.invariant-loop-g
invariant-loop-g l = Begun one_of l.initial.w l.g l.w
