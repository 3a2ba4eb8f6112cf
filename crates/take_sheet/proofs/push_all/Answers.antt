use mathlib.Core.Path.{◌∙◌}
use native.Mathlib.Omega.{arith}
use Rattle.take_sheet.specs.Laws.Last.{last_next}
use Rattle.take_sheet.proofs.push_all.Goals as goal

pub loop-b-preserved : goal.loop-b-preserved
loop-b-preserved c =
    let q = c.requires in
    c.push.ensures.1 ∙ last_next c.args.bytes.now c.args.more.now c.loop-b.bytes c.loop-b.b-index (omega arith) (omega arith) (omega arith) c.loop-b.invariant
