-- The second rotation stands right after the first; either has at most six letters.
use mathlib.Core.Bool.{true, false}
use mathlib.Core.Path.{ap₂}
use mathlib.Core.List.{List, [], ◌++◌}
use Prim.Native.Nat.{ℕ}
use native.Mathlib.Omega.{arith}
use lib.ListN.{get_or}
use Rattle.letter.specs.declared.Gate.{Gate}
use Rattle.word_code.specs.Laws.Writer.{word_as, word_length, word_append}
use Rattle.word.specs.Word.{rotation_words, on_qubit}
use Rattle.word.specs.Laws.Word.{rotation_length}
use Rattle.word_table.proofs.write_rotations.Goals as goal

abbrev first : ℕ → List Gate
first row = on_qubit false (get_or rotation_words row [])

abbrev second : ℕ → List Gate
second row = on_qubit true (get_or rotation_words row [])

pub write_code-requires-2 : goal.write_code-requires-2
write_code-requires-2 c =
    let k = c.rotation_row-first.result in
    let n = rotation_length false k in
    let one = c.write_code.ensures (first k) c.rotation_code.ensures (omega arith) in
    let l = word_length one (omega (arith, c.requires)) in
    let e = one.written.next in
    omega (arith, c.requires)

pub returns : goal.returns
returns c =
    let j = c.rotation_row-first.result in
    let k = c.rotation_row-second.result in
    let n = rotation_length false j in
    word_as
    (word_append (c.write_code.ensures (first j) c.rotation_code.ensures (omega arith)) (omega (arith, c.requires)) (c.write_code-2.ensures (second k) c.second_rotation_code.ensures (omega (arith, rotation_length true k))))
    (ap₂ (λ i j. first i ++ second j) c.rotation_row-first.ensures.0 c.rotation_row-second.ensures.0)
