use mathlib.Core.Path.{ap}
use mathlib.Core.List.{[], ◌∷◌}
use native.Mathlib.Omega.{arith}
use Rattle.text.specs.Laws.Writer.{writes_as}
use Rattle.short_sheet.specs.Short.{if_read}
use Rattle.list_short.specs.Output.{lines_of}
use Rattle.list_short.specs.Laws.Loop.{begun_none, begun_room, begun_next, begun_all}
use Rattle.list_short.specs.Laws.Output.{plain_is, pair_of, pairs_done, pair_most}
use Rattle.list_short.proofs.write_pairs.Goals as goal

pub loop-h-init : goal.loop-h-init
loop-h-init c = begun_none (pair_of c.args.g) c.args.w.now

pub write_entry-requires : goal.write_entry-requires
write_entry-requires c =
    (omega arith, omega arith, begun_room 10 (pair_most c.args.g) c.requires (omega arith) c.loop-h.invariant)

pub loop-h-preserved : goal.loop-h-preserved
loop-h-preserved c =
    begun_next 10 (pair_most c.args.g) c.requires (omega arith) c.loop-h.invariant (writes_as c.write_entry.ensures (ap (λ s. lines_of (if_read s)) (plain_is (c.args.g ∷ c.loop-h.h ∷ []))))

pub returns : goal.returns
returns c = writes_as (begun_all c.loop-h.invariant (omega arith)) (pairs_done c.args.g)
