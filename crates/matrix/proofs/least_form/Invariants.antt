-- The invariant: what is left has the least form of what came in.
use mathlib.Core.Path.{◌≡◌}
use lib.ListN.{length}
use Rattle.matrix.specs.Array.{least_form}
use Rattle.matrix.proofs.least_form.Given as goal

abbrev pub invariant-loop-operator : goal.invariant-loop-operator
invariant-loop-operator l = (length l.operator.matrix ≡ 36) × (least_form l.initial.operator.exponent l.initial.operator.matrix ≡ least_form l.operator.exponent l.operator.matrix)

abbrev pub decreases-loop-operator : goal.decreases-loop-operator
decreases-loop-operator l = l.operator.exponent
