-- The parts of the list, one after the other.
use mathlib.Core.Path.{◌≡◌, sym, ap, ◌∙◌}
use mathlib.Core.List.{[], ◌∷◌, ◌++◌}
use native.Mathlib.Omega.{arith}
use lib.ListN.{length, length-append}
use Rattle.text.specs.Laws.Writer.{room_front, room_after, writes_as, writes_append, written_is}
use Rattle.short_sheet.specs.Short.{plain_bytes, if_read, plain_sheets}
use Rattle.list_short.specs.Output.{lines_of}
use Rattle.list_short.specs.Laws.Output.{plain_is, text_parts, none_most, ones_most, twos_most}
use Rattle.list_short.proofs.answer.Goals as goal

first : lines_of (if_read (64 ∷ 1 ∷ 2 ∷ 3 ∷ 4 ∷ 5 ∷ 6 ∷ 0 ∷ [])) ≡ lines_of (if_read (plain_bytes []))
first = ap (λ s. lines_of (if_read s)) (plain_is [])

pub write_entry-requires : goal.write_entry-requires
write_entry-requires c = (omega arith, omega arith, room_front c.new-w.ensures _ (omega arith))

pub write_ones-requires : goal.write_ones-requires
write_ones-requires c =
    let l = ap length c.new-w.ensures.buffer in
    let m = none_most in
    room_after (writes_as c.write_entry.ensures first) _ (omega arith)

pub write_twos-requires : goal.write_twos-requires
write_twos-requires c =
    let l = ap length c.new-w.ensures.buffer in
    let n = length-append (lines_of (if_read (plain_bytes []))) (lines_of (plain_sheets 1)) in
    let m = none_most in
    let k = ones_most in
    room_after (writes_append (writes_as c.write_entry.ensures first) (omega arith) c.write_ones.ensures) _ (omega arith)

pub returns : goal.returns
returns c =
    let l = ap length c.new-w.ensures.buffer in
    let n = length-append (lines_of (if_read (plain_bytes []))) (lines_of (plain_sheets 1)) in
    let o = length-append (lines_of (if_read (plain_bytes [])) ++ lines_of (plain_sheets 1)) (lines_of (plain_sheets 2)) in
    let m = none_most in
    let k = ones_most in
    let t = twos_most in
    let two = writes_append (writes_as c.write_entry.ensures first) (omega arith) c.write_ones.ensures in
    c.written.ensures ∙ written_is c.new-w.ensures (writes_append two (omega arith) c.write_twos.ensures) (omega arith) ∙ sym text_parts
