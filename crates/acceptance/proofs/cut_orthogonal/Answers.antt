-- The least exponent is not above that of the operator.
use native.Mathlib.Omega.{arith}
use Rattle.matrix.specs.Laws.Array.{least_form_lem}
use Rattle.acceptance.proofs.cut_orthogonal.Goals as goal

pub invariant_of-result : goal.invariant_of-result
invariant_of-result c =
    let o = c.args.operator.now in
    let b = (least_form_lem o.exponent o.matrix).below in
    let e = c.normal_form-normal.ensures.count in
    record { in_range = omega arith }
