use native.Mathlib.Omega.{arith}
use Rattle.text.specs.Laws.Writer.{writes_as}
use Rattle.list_short.specs.Output.{pairs_of}
use Rattle.list_short.specs.Laws.Loop.{begun_none, begun_room, begun_next, begun_all}
use Rattle.list_short.specs.Laws.Output.{twos_done, pairs_most}
use Rattle.list_short.proofs.write_twos.Goals as goal

pub loop-g-init : goal.loop-g-init
loop-g-init c = begun_none pairs_of c.args.w.now

pub write_pairs-requires : goal.write_pairs-requires
write_pairs-requires c =
    begun_room 150 pairs_most c.requires (omega arith) c.loop-g.invariant

pub loop-g-preserved : goal.loop-g-preserved
loop-g-preserved c =
    begun_next 150 pairs_most c.requires (omega arith) c.loop-g.invariant c.write_pairs.ensures

pub returns : goal.returns
returns c = writes_as (begun_all c.loop-g.invariant (omega arith)) twos_done
