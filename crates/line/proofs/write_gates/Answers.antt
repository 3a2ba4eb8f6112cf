-- The word, the letters and the line feed, one after the other.
use native.Mathlib.Omega.{arith}
use mathlib.Core.List.{[], ◌∷◌}
use lib.ListN.{length-append}
use Rattle.text.specs.Laws.Writer.{writes_append}
use Rattle.line.proofs.write_gates.Goals as goal

pub returns : goal.returns
returns c =
    let n = length-append c.args.letters.now (10 ∷ []) in
    let a = writes_append c.bytes.ensures (omega (arith, c.requires)) c.bytes-2.ensures in
    writes_append a (omega (arith, c.requires)) c.byte.ensures
