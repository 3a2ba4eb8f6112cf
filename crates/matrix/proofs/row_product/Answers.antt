use native.Mathlib.Numerals.{add-one}
use native.Mathlib.Omega.{arith}
use lib.Dec.{lit<}
use borrow.Author.Rules.{rules}
use Rattle.matrix.specs.Range as range
use Rattle.matrix.specs.Laws.Machine.{fits, again}
use Rattle.matrix.proofs.row_product.Invariants.{product, next}
use Rattle.matrix.proofs.row_product.Goals as goal

pub loop-c-init : goal.loop-c-init
unfolding range.sum
loop-c-init c = search rules

pub overflow_mul-sum-in-loop-c-2 : goal.overflow_mul-sum-in-loop-c-2
overflow_mul-sum-in-loop-c-2 c =
    let a = c.args in
    let p = c.requires in
    fits (product a.m.now a.i a.j c.loop-c.c c.loop-c.sum-bits p.0 p.1 c.loop-c-test.true p.2 c.loop-c.invariant) (lit< tt)

pub overflow_add-sum-in-loop-c-2 : goal.overflow_add-sum-in-loop-c-2
overflow_add-sum-in-loop-c-2 c =
    let a = c.args in
    let p = c.requires in
    fits (next a.m.now a.i a.j c.loop-c.c c.loop-c.sum-bits p.0 p.1 c.loop-c-test.true p.2 c.loop-c.invariant) (omega arith)

pub loop-c-preserved : goal.loop-c-preserved
unfolding range.sum
loop-c-preserved c =
    let a = c.args in
    let p = c.requires in
    rw add-one (again (next a.m.now a.i a.j c.loop-c.c c.loop-c.sum-bits p.0 p.1 c.loop-c-test.true p.2 c.loop-c.invariant) (omega arith)).is
