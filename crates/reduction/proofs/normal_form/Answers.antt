-- The least form is orthogonal and reduced.
use mathlib.Core.Path.{sym, subst}
use Prim.Native.Nat.{◌≤◌}
use native.Mathlib.Omega.{arith}
use Rattle.matrix.specs.Operator.{Orthogonal, Reduced}
use Rattle.matrix.specs.Array.{operator_of}
use Rattle.matrix.specs.declared.Scaled.{Scaled}
use Rattle.matrix.specs.Laws.Array.{least_form_lem, least_orthogonal}
use Rattle.reduction.proofs.normal_form.Goals as goal

pub reduce-requires : goal.reduce-requires
reduce-requires c =
    let k = c.args.operator.exponent in
    let m = c.args.operator.matrix in
    subst (λ (l : Scaled). (l.exponent ≤ 60) × Orthogonal (operator_of l) × Reduced (operator_of l)) (sym c.least_form.ensures)
    ((let b = (least_form_lem k m).below in let p = c.requires.0 in omega arith), least_orthogonal k m c.requires.1, (least_form_lem k m).reduced)
