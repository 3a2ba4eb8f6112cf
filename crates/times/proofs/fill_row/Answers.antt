use mathlib.Core.Path.{◌∙◌}
use native.Mathlib.Omega.{arith}
use Rattle.matrix.specs.Laws.Rows.{row_more, row_all}
use Rattle.matrix.specs.Laws.Machine.{kept}
use Rattle.times.proofs.fill_row.Goals as goal

pub loop-c-preserved : goal.loop-c-preserved
loop-c-preserved g c = λ f h. row_more _ _ _ c.requires.0 c.loop-c.c c.loop-c.out _ (omega arith) (c.loop-c.invariant f h) (kept c.at.type_inv ∙ h c.loop-c.c c.at.result (omega arith) c.at.ensures)

pub returns : goal.returns
returns g c = λ f h. row_all _ _ _ c.requires.0 c.loop-c.c c.loop-c.out (omega arith) (c.loop-c.invariant f h)
