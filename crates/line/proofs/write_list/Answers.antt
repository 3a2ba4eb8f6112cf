-- One line after the other.
use Rattle.std.specs.Prelude.{◌++◌}
use native.Mathlib.Omega.{arith}
use lib.ListN.{length-append}
use Rattle.text.specs.Text.{count_line, gates_line, loose_line}
use Rattle.text.specs.Laws.Writer.{writes_append}
use Rattle.line.proofs.write_list.Goals as goal

pub returns : goal.returns
returns c =
    let two = count_line c.args.count ++ gates_line c.args.letters.now in
    let m = length-append (count_line c.args.count) (gates_line c.args.letters.now) in
    let n = length-append two (loose_line c.args.loose) in
    let a = writes_append c.write_line.ensures (omega (arith, c.requires)) c.write_gates.ensures in
    writes_append a (omega (arith, c.requires)) c.write_line-2.ensures
