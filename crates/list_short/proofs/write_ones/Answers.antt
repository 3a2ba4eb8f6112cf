use mathlib.Core.Path.{ap}
use mathlib.Core.List.{[], ◌∷◌}
use native.Mathlib.Omega.{arith}
use Rattle.text.specs.Laws.Writer.{writes_as}
use Rattle.short_sheet.specs.Short.{if_read}
use Rattle.list_short.specs.Output.{lines_of}
use Rattle.list_short.specs.Laws.Loop.{begun_none, begun_room, begun_next, begun_all}
use Rattle.list_short.specs.Laws.Output.{plain_is, one_of, ones_done, one_most}
use Rattle.list_short.proofs.write_ones.Goals as goal

pub loop-g-init : goal.loop-g-init
loop-g-init c = begun_none one_of c.args.w.now

pub write_entry-requires : goal.write_entry-requires
write_entry-requires c =
    (omega arith, omega arith, begun_room 10 one_most c.requires (omega arith) c.loop-g.invariant)

pub loop-g-preserved : goal.loop-g-preserved
loop-g-preserved c =
    begun_next 10 one_most c.requires (omega arith) c.loop-g.invariant (writes_as c.write_entry.ensures (ap (λ s. lines_of (if_read s)) (plain_is (c.loop-g.g ∷ []))))

pub returns : goal.returns
returns c = writes_as (begun_all c.loop-g.invariant (omega arith)) ones_done
