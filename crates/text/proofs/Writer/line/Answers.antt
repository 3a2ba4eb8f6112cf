-- The word, the numbers and the line feed, one after the other.
use native.Mathlib.Omega.{arith}
use lib.ListN.{length-append}
use Rattle.text.specs.Text.{spaced}
use Rattle.text.specs.Laws.Text.{line_parts}
use Rattle.text.specs.Laws.Writer.{writes_append}
use Rattle.text.proofs.Writer.line.Goals as goal

pub returns : goal.returns
returns c =
    let n = line_parts c.args.word.now c.args.numbers.now in
    let m = length-append c.args.word.now (spaced c.args.numbers.now) in
    let a = writes_append c.bytes.ensures (omega (arith, c.requires)) c.spaced.ensures in
    writes_append a (omega (arith, c.requires)) c.byte.ensures
