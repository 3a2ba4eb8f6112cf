-- The sheets, the offsets and the number follow one another.
use Rattle.std.specs.Prelude.{◌+◌, ◌*◌, length}
use Rattle.std.proofs.Common.{ap, rules}
use native.Mathlib.Omega.{arith}
use Rattle.text.specs.Laws.Writer.{room_after, writes_append, writes_front}
use Rattle.bundle.specs.Bundle.{bundle_of}
use Rattle.bundle.specs.Laws.Made.{length_offsets}
use Rattle.bundle_write.proofs.write_bundle.Goals as goal

pub write_offsets-requires : goal.write_offsets-requires
write_offsets-requires c =
    let (p, q, r) = c.requires in
    let l = ap length c.new-w.ensures.buffer in
    let o = length_offsets c.args.sheets.now c.args.count in
    (p, q, room_after c.bytes.ensures _ (omega arith))

pub write_two-requires : goal.write_two-requires
write_two-requires c =
    let (p, q, r) = c.requires in
    let l = ap length c.new-w.ensures.buffer in
    let o = length_offsets c.args.sheets.now c.args.count in
    let k = room_after c.bytes.ensures (2 * c.args.count + 2) (omega arith) in
    room_after c.write_offsets.ensures _ (omega arith)

pub returns : goal.returns
unfolding bundle_of
returns c =
    let (p, q, r) = c.requires in
    let l = ap length c.new-w.ensures.buffer in
    let o = length_offsets c.args.sheets.now c.args.count in
    let k = room_after c.bytes.ensures (2 * c.args.count) (omega arith) in
    let a = writes_front c.new-w.ensures (writes_append c.bytes.ensures (omega arith) (writes_append c.write_offsets.ensures (omega arith) c.write_two.ensures)) in
    search (rules, a)
