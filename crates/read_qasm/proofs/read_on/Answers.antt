use native.Mathlib.Omega.{arith}
use lib.ListN.{length-take}
use Rattle.read_qasm.specs.Laws.Waiting.{tail_short, read_start, read_next, read_ended, read_stuck}
use Rattle.read_qasm.proofs.read_on.Goals as goal

pub loop-init : goal.loop-init
loop-init g c =
    let s = c.in-Some.ensures in
    let (t, l) = tail_short _ _ s c.requires in
    let k = c.take_in-left.ensures.0 in
    read_start _ _ s _ _ (omega arith) (rw t at c.take_in-left.ensures.1)

pub returns-then-left-ge-LONGEST_STATEMENT : goal.returns-then-left-ge-LONGEST_STATEMENT
returns-then-left-ge-LONGEST_STATEMENT g c = read_stuck _ _ _ c.loop.invariant c.if-left-ge-LONGEST_STATEMENT.true

pub returns-then-n-eq0 : goal.returns-then-n-eq0
returns-then-n-eq0 g c = read_ended _ _ _ c.loop.invariant c.last_refusal.ensures

pub loop-preserved : goal.loop-preserved
loop-preserved g c =
    let m = length-take c.in_ok-n.n c.read_full.new.buf in
    let k = c.take_in-left-in-loop.ensures.0 in
    read_next _ _ _ c.loop.invariant _ _ _ (omega arith) c.take_in-left-in-loop.ensures.1

pub returns : goal.returns
returns g c = read_ended _ _ _ c.loop.invariant c.last_refusal-2.ensures
