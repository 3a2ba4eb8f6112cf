-- What is written is that of the answer's case.
use mathlib.Core.Path.{ap}
use native.Mathlib.Omega.{arith}
use lib.ListN.{length}
use Rattle.file.specs.Laws.File.{length_most}
use Rattle.gate.specs.Reading.{reading}
use Rattle.text_read.specs.Text.{without_line_feed}
use Rattle.text.specs.Laws.Text.{refused_length, taken}
use Rattle.multiply_gates.specs.Laws.Output.{filed, refused}
use Rattle.multiply_gates.proofs.answer.Goals as goal

pub refused-requires : goal.refused-requires
refused-requires c =
    let p = rw c.without_line_feed-letters.ensures at c.in-Err.ensures in
    let m = ap length (refused c.args.out.now _ (omega arith) (reading (without_line_feed c.args.input.now)) _ p.answer p.buffer).1 in
    omega (arith, refused_length c.number.result)

pub returns-in-Ok : goal.returns-in-Ok
returns-in-Ok c =
    let p = rw c.without_line_feed-letters.ensures at c.in-Ok.ensures in
    let (n, a) = filed c.args.out.now _ (omega arith) (reading (without_line_feed c.args.input.now)) _ p.answer p.buffer in
    let h = length_most c.in-Ok.count in
    rw c.length_for.ensures (taken a (omega arith))
