-- The text is that of the answer's case.
use Rattle.std.specs.Prelude.{Err}
use mathlib.Core.Path.{refl, sym, ap, subst, ◌∙◌}
use native.Mathlib.Omega.{arith}
use lib.ListN.{length, take, length-append}
use Rattle.text.specs.Text.{list_lines, omega_line}
use Rattle.text.specs.Laws.Text.{list_length, refused_length}
use Rattle.text.specs.Laws.Writer.{room_front, room_after, writes_append, written_is}
use Rattle.list_unitary.specs.Output.{UnitaryText}
use Rattle.list_unitary.specs.Laws.Output.{lettered, refused}
use Rattle.list_unitary.proofs.answer.Goals as goal

pub write_list-requires : goal.write_list-requires
write_list-requires c =
    let k = lettered _ _ _ _ (omega arith) c.in-Ok.ensures _ refl in
    let r = k.room in
    let z = list_length c.in-Ok.list.count c.in-Ok.list.loose (take c.in-Ok.list.letters c.unitary_to_gates.new.out) in
    room_front c.new-w.ensures _ (omega arith)

pub write_line-requires : goal.write_line-requires
write_line-requires c =
    let k = lettered _ _ _ _ (omega arith) c.in-Ok.ensures _ refl in
    let r = k.room in
    let z = list_length c.in-Ok.list.count c.in-Ok.list.loose (take c.in-Ok.list.letters c.unitary_to_gates.new.out) in
    let l = ap length c.new-w.ensures.buffer in
    room_after c.write_list.ensures _ (omega arith)

pub refused-requires : goal.refused-requires
refused-requires c = omega (arith, refused_length c.number.result)

pub returns-in-Ok : goal.returns-in-Ok
returns-in-Ok c =
    let k = lettered _ _ _ _ (omega arith) c.in-Ok.ensures _ refl in
    let r = k.room in
    let w = take c.in-Ok.list.letters c.unitary_to_gates.new.out in
    let z = list_length c.in-Ok.list.count c.in-Ok.list.loose w in
    let n = length-append (list_lines c.in-Ok.list.count w c.in-Ok.list.loose) (omega_line c.in-Ok.list.power) in
    let l = ap length c.new-w.ensures.buffer in
    let e = c.written.ensures ∙ written_is c.new-w.ensures (writes_append c.write_list.ensures (omega arith) c.write_line.ensures) (omega arith) in
    subst (UnitaryText c.args.bytes.now) (sym e) k.text

pub returns-in-Err : goal.returns-in-Err
returns-in-Err c = subst (UnitaryText c.args.bytes.now) (sym c.refused.ensures) (refused _ _ _ _ (omega arith) c.in-Err.ensures _ (ap Err (sym c.number.ensures.0)))
