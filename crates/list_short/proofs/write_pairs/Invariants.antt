-- The invariant: the lines of the pairs of g and a number below h are in the buffer.
use Rattle.list_short.specs.Laws.Loop.{Begun}
use Rattle.list_short.specs.Laws.Output.{pair_of}
use Rattle.list_short.proofs.write_pairs.Given as goal

abbrev pub invariant-loop-h : goal.invariant-loop-h
invariant-loop-h l = Begun (pair_of l.g) l.initial.w l.h l.w
