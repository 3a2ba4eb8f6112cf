-- The invariant: the array holds the numbers of the first n generators, the matrix is what they leave, and L counts their loose cuts.
use mathlib.Core.Path.{◌≡◌}
use Rattle.reduction.specs.Reduction.{generators, remainder, loose_cuts}
use Rattle.reduction.specs.Result.{numbers_of}
use Rattle.reduction.proofs.reduce.Given as goal

abbrev pub invariant-loop-n : goal.invariant-loop-n
invariant-loop-n l = (l.matrix ≡ remainder l.n l.fn.operator.matrix) × (l.numbers ≡ numbers_of l.n (generators l.n l.fn.operator.matrix)) × (l.loose ≡ loose_cuts l.n l.fn.operator.matrix)
