use Rattle.std.specs.Prelude.{[]}
use native.Mathlib.Omega.{arith}
use Rattle.text.specs.Text.{spaced}
use Rattle.text.specs.Writer.{Writes}
use Rattle.text.specs.declared.Writer.{Writer}
use Rattle.text.specs.Laws.Text.{spaced_next, spaced_room}
use Rattle.text.specs.Laws.Writer.{writes_none, writes_as, writes_append, room_after}
use Rattle.text.proofs.Writer.spaced.Goals as goal

none : (w : Writer) → Writes (spaced []) w w
unfolding spaced
none w = writes_none w

pub loop-n-init : goal.loop-n-init
loop-n-init c = none c.args.self.now

pub after_space-requires : goal.after_space-requires
after_space-requires c =
    let r = spaced_room c.args.numbers.now c.loop-n.n-index (omega arith) in
    room_after c.loop-n.invariant _ (omega (arith, c.requires))

pub loop-n-preserved : goal.loop-n-preserved
loop-n-preserved c =
    let l = c.loop-n in
    let r = spaced_room c.args.numbers.now l.n-index (omega arith) in
    writes_as (writes_append l.invariant (omega (arith, c.requires)) c.after_space.ensures) (spaced_next c.args.numbers.now l.n-index (omega arith))
