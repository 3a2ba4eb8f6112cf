-- What is written is that of the answer's case.
use Rattle.std.specs.Prelude.{Err}
use mathlib.Core.Path.{refl, sym, ap, ◌∙◌}
use native.Mathlib.Omega.{arith}
use lib.ListN.{length}
use Rattle.text.specs.Laws.Text.{refused_length, within, taken}
use Rattle.make_bundle.specs.Laws.Output.{made, refused}
use Rattle.make_bundle.proofs.answer.Goals as goal

pub shared_ref_as_front-result : goal.shared_ref_as_front-result
shared_ref_as_front-result c =
    let (n, a) = made _ _ _ _ (omega arith) c.in-Ok.ensures _ refl in
    omega (arith, (within a n).0)

pub refused-requires : goal.refused-requires
refused-requires c =
    let m = ap length (refused _ _ _ _ (omega arith) c.in-Err.ensures _ (ap Err (sym c.number.ensures.0))).1 in
    omega (arith, refused_length c.number.result)

pub returns-in-Ok : goal.returns-in-Ok
returns-in-Ok c = let (n, a) = made _ _ _ _ (omega arith) c.in-Ok.ensures _ refl in taken a n

pub returns-in-Err : goal.returns-in-Err
returns-in-Err c = c.refused.ensures ∙ (refused _ _ _ _ (omega arith) c.in-Err.ensures _ (ap Err (sym c.number.ensures.0))).0
