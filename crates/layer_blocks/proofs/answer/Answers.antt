-- The text is that of the answer's case.
use Rattle.std.specs.Prelude.{Err}
use mathlib.Core.Path.{refl, sym, ap, ◌∙◌}
use native.Mathlib.Omega.{arith}
use lib.ListN.{length, take, length-append}
use lib.Seq.{length-take-le}
use Rattle.block.specs.Block.{block_count}
use Rattle.text.specs.Text.{layers_line, layer_line}
use Rattle.text.specs.Laws.Text.{refused_length}
use Rattle.text.specs.Laws.Writer.{room_front, room_after, writes_append, written_is}
use Rattle.layer_blocks.specs.Laws.Output.{layered, refused}
use Rattle.layer_blocks.proofs.answer.Goals as goal

pub write_line-requires : goal.write_line-requires
write_line-requires c = let k = layered _ _ _ _ (omega arith) c.in-Ok.ensures _ refl in let r = k.room in room_front c.new-w.ensures _ (omega arith)

pub slice_bounds-layers-end : goal.slice_bounds-layers-end
slice_bounds-layers-end c = (layered _ _ _ _ (omega arith) c.in-Ok.ensures _ refl).long

pub slice_bounds-write_line-end-in-Ok : goal.slice_bounds-write_line-end-in-Ok
slice_bounds-write_line-end-in-Ok c = let k = layered _ _ _ _ (omega arith) c.in-Ok.ensures _ refl in sym (length-take-le _ _ k.long)

pub write_line-requires-in-Ok : goal.write_line-requires-in-Ok
write_line-requires-in-Ok c =
    let k = layered _ _ _ _ (omega arith) c.in-Ok.ensures _ refl in
    let r = k.room in
    let l = ap length c.new-w.ensures.buffer in
    room_after c.write_line.ensures _ (omega arith)

pub refused-requires : goal.refused-requires
refused-requires c = omega (arith, refused_length c.number.result)

pub returns-in-Ok : goal.returns-in-Ok
returns-in-Ok c =
    let k = layered _ _ _ _ (omega arith) c.in-Ok.ensures _ refl in
    let r = k.room in
    let layers = take (block_count 2 c.args.blocks.now) c.blocks_to_layers.new.out in
    let m = length-append (layers_line c.in-Ok.count) (layer_line layers) in
    let l = ap length c.new-w.ensures.buffer in
    c.written.ensures ∙ written_is c.new-w.ensures (writes_append c.write_line.ensures (omega arith) c.write_line-in-Ok.ensures) (omega arith) ∙ sym k.text

pub returns-in-Err : goal.returns-in-Err
returns-in-Err c = c.refused.ensures ∙ sym (refused _ _ _ _ (omega arith) c.in-Err.ensures _ (ap Err (sym c.number.ensures.0)))
