use mathlib.Core.Path.{sym, ap, ◌∙◌}
use Prim.Native.Nat.{◌-◌}
use Rattle.matrix.specs.Matrix.{entry}
use Rattle.matrix.specs.Array.{halved, least_form}
use Rattle.matrix.specs.Laws.Array.{length_listed, least_turn, least_odd, least_small}
use Rattle.matrix.proofs.least_form.Goals as goal

pub loop-operator-preserved : goal.loop-operator-preserved
loop-operator-preserved c =
    let e = c.halve.ensures in (
      rw e (length_listed (halved (entry c.loop-operator.operator.matrix))),
      c.loop-operator.invariant.1
          ∙ least_turn c.loop-operator.operator.exponent c.loop-operator.operator.matrix c.loop-operator-test.true (sym c.before_odd.ensures ∙ c.if-before_odd-eq36.true)
          ∙ ap (least_form (c.loop-operator.operator.exponent - 2)) (sym e),
    )

pub returns-else-before_odd-eq36 : goal.returns-else-before_odd-eq36
returns-else-before_odd-eq36 c =
    sym (c.loop-operator.invariant.1 ∙ least_odd c.loop-operator.operator.exponent c.loop-operator.operator.matrix (λ e. c.if-before_odd-eq36.false (c.before_odd.ensures ∙ e)))

pub returns-after-loop-operator : goal.returns-after-loop-operator
returns-after-loop-operator c =
    sym (c.loop-operator.invariant.1 ∙ least_small c.loop-operator.operator.exponent c.loop-operator.operator.matrix c.loop-operator-test.false)
