-- The second part stands right after the first; either has at most seven letters.
use mathlib.Core.Path.{ap₂}
use mathlib.Core.List.{List, [], ◌++◌}
use Prim.Native.Nat.{ℕ, ◌+◌}
use native.Mathlib.Omega.{arith}
use lib.ListN.{get_or}
use Rattle.letter.specs.declared.Gate.{Gate}
use Rattle.word_code.specs.Laws.Writer.{word_as, word_length, word_append}
use Rattle.word.specs.Word.{part_words}
use Rattle.word.specs.Laws.Word.{part_length}
use Rattle.word_table.proofs.write_parts.Goals as goal

abbrev word : ℕ → List Gate
word part = get_or part_words part []

pub write_code-requires-2 : goal.write_code-requires-2
write_code-requires-2 c =
    let k = c.low_bits-first.result in
    let n = part_length k in
    let one = c.write_code.ensures (word k) c.part_code.ensures (omega arith) in
    let l = word_length one (omega (arith, c.requires)) in
    let e = one.written.next in
    omega (arith, c.requires)

pub returns : goal.returns
returns c =
    let j = c.low_bits-first.result in
    let k = 8 + c.low_bits-second.result in
    let n = part_length j in
    word_as
    (word_append (c.write_code.ensures (word j) c.part_code.ensures (omega arith)) (omega (arith, c.requires)) (c.write_code-2.ensures (word k) c.part_code-2.ensures (omega (arith, part_length k))))
    (ap₂ (λ i j. word i ++ word (8 + j)) c.low_bits-first.ensures.0 c.low_bits-second.ensures.0)
