-- What is written is that of the answer's case.
use Rattle.std.specs.Prelude.{Err}
use mathlib.Core.Path.{refl, sym, ap, ◌∙◌}
use native.Mathlib.Omega.{arith}
use lib.ListN.{length}
use Rattle.file.specs.Laws.File.{length_most}
use Rattle.text.specs.Laws.Text.{refused_length, taken}
use Rattle.multiply_sheet.specs.Laws.Output.{filed, refused}
use Rattle.multiply_sheet.proofs.answer.Goals as goal

pub refused-requires : goal.refused-requires
refused-requires c =
    let m = ap length (refused _ _ _ _ (omega arith) c.in-Err.ensures _ (ap Err (sym c.number.ensures.0))).1 in
    omega (arith, refused_length c.number.result)

pub returns-in-Ok : goal.returns-in-Ok
returns-in-Ok c =
    let (n, a) = filed _ _ _ _ (omega arith) c.in-Ok.ensures _ refl in
    let h = length_most c.in-Ok.count in
    rw c.length_for.ensures (taken a (omega arith))

pub returns-in-Err : goal.returns-in-Err
returns-in-Err c = c.refused.ensures ∙ (refused _ _ _ _ (omega arith) c.in-Err.ensures _ (ap Err (sym c.number.ensures.0))).0
