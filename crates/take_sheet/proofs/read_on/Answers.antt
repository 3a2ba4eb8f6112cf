use Rattle.std.proofs.Common.{take, arith}
use Rattle.std.proofs.lemmas.List.{length-take-le}
use Rattle.take_sheet.specs.Laws.Reading.{read_start, read_next, read_ended, read_far}
use Rattle.take_sheet.proofs.read_on.Goals as goal

pub loop-turns-init : goal.loop-turns-init
loop-turns-init g c = read_start _ c.args.bytes.now

pub returns-then-n-eq0-clause-last : goal.returns-then-n-eq0-clause-last
returns-then-n-eq0-clause-last g c =
    let m = length-take-le c.in_ok-n.n c.read_full.new.buf c.in_ok-n.ensures.within.0 in
    let e = c.in_ok-n.ensures.end (omega arith) in
    read_ended _ _ _ c.args.bytes.now c.loop-turns.bytes (take c.in_ok-n.n c.read_full.new.buf) c.loop-turns.turns c.loop-turns.invariant c.in_ok-n.ensures.bytes (omega arith) e

pub loop-turns-preserved : goal.loop-turns-preserved
loop-turns-preserved g c =
    let h = c.requires in
    let m = length-take-le c.in_ok-n.n c.read_full.new.buf c.in_ok-n.ensures.within.0 in
    read_next c.args.bytes.now c.loop-turns.bytes c.push_all.new.bytes (take c.in_ok-n.n c.read_full.new.buf) c.loop-turns.turns h (omega arith) c.push_all.ensures.1
    _ _ _ c.loop-turns.invariant c.in_ok-n.ensures.bytes (λ l. c.in_ok-n.ensures.end (omega arith))

pub returns-clause-last : goal.returns-clause-last
returns-clause-last g c = read_far _ _ c.args.bytes.now c.loop-turns.bytes c.loop-turns.turns c.loop-turns-test.false c.loop-turns.invariant
