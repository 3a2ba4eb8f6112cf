-- The text is that of the answer's case.
use Rattle.std.specs.Prelude.{Err}
use mathlib.Core.Path.{refl, sym, ap, ◌∙◌}
use mathlib.Core.List.{◌++◌}
use Prim.Native.Nat.{◌+◌}
use native.Mathlib.Omega.{arith}
use lib.ListN.{length, take, length-append}
use lib.Seq.{length-take-le}
use Rattle.sheet_bytes.specs.Bytes.{shortest}
use Rattle.text.specs.Text.{count_line, sheet_line, loose_line}
use Rattle.text.specs.Laws.Text.{refused_length}
use Rattle.text.specs.Laws.Writer.{room_front, room_after, writes_append, written_is}
use Rattle.cut.specs.Laws.Output.{counted, refused}
use Rattle.cut.proofs.answer.Goals as goal

pub write_line-requires : goal.write_line-requires
write_line-requires c = let k = counted _ _ _ _ (omega arith) c.in-Ok.ensures _ refl in let r = k.room in room_front c.new-w.ensures _ (omega arith)

pub slice_bounds-sheet-end : goal.slice_bounds-sheet-end
slice_bounds-sheet-end c = (counted _ _ _ _ (omega arith) c.in-Ok.ensures _ refl).long

pub slice_bounds-write_line-end-in-Ok : goal.slice_bounds-write_line-end-in-Ok
slice_bounds-write_line-end-in-Ok c =
    let k = counted _ _ _ _ (omega arith) c.in-Ok.ensures _ refl in
    sym (length-take-le _ _ k.long)

pub write_line-requires-in-Ok : goal.write_line-requires-in-Ok
write_line-requires-in-Ok c =
    let k = counted _ _ _ _ (omega arith) c.in-Ok.ensures _ refl in
    let r = k.room in
    let l = ap length c.new-w.ensures.buffer in
    room_after c.write_line.ensures _ (omega arith)

pub write_line-requires-in-Ok-2 : goal.write_line-requires-in-Ok-2
write_line-requires-in-Ok-2 c =
    let k = counted _ _ _ _ (omega arith) c.in-Ok.ensures _ refl in
    let r = k.room in
    let l = ap length c.new-w.ensures.buffer in
    let t = c.in-Ok.cuts.count in
    let sheet = take (t + shortest) c.operator_to_sheet.new.out in
    let m = length-append (count_line t) (sheet_line sheet) in
    room_after (writes_append c.write_line.ensures (omega arith) c.write_line-in-Ok.ensures) _ (omega arith)

pub refused-requires : goal.refused-requires
refused-requires c = omega (arith, refused_length c.number.result)

pub returns-in-Ok : goal.returns-in-Ok
returns-in-Ok c =
    let k = counted _ _ _ _ (omega arith) c.in-Ok.ensures _ refl in
    let r = k.room in
    let s = ap length c.new-w.ensures.buffer in
    let t = c.in-Ok.cuts.count in
    let sheet = take (t + shortest) c.operator_to_sheet.new.out in
    let m = length-append (count_line t) (sheet_line sheet) in
    let n = length-append (count_line t ++ sheet_line sheet) (loose_line c.in-Ok.cuts.loose) in
    let two = writes_append c.write_line.ensures (omega arith) c.write_line-in-Ok.ensures in
    c.written.ensures ∙ written_is c.new-w.ensures (writes_append two (omega arith) c.write_line-in-Ok-2.ensures) (omega arith) ∙ sym k.text

pub returns-in-Err : goal.returns-in-Err
returns-in-Err c = c.refused.ensures ∙ sym (refused _ _ _ _ (omega arith) c.in-Err.ensures _ (ap Err (sym c.number.ensures.0)))
