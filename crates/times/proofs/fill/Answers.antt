use native.Mathlib.Omega.{arith}
use Rattle.matrix.specs.Laws.Rows.{rows_more, rows_all}
use Rattle.times.proofs.fill.Goals as goal

pub loop-r-preserved : goal.loop-r-preserved
loop-r-preserved g c = λ f h. rows_more _ c.loop-r.r c.loop-r.out _ (omega arith) (c.loop-r.invariant f h) (c.fill_row.ensures (f c.loop-r.r) (λ i x u q. h c.loop-r.r i x (omega arith) u q))

pub returns : goal.returns
returns g c = λ f h. rows_all _ c.loop-r.r c.loop-r.out (omega arith) (c.loop-r.invariant f h)
