-- What is written is that of the answer's case.
use Rattle.std.specs.Prelude.{Err}
use mathlib.Core.Path.{◌≡◌, ap, ◌∙◌}
use mathlib.Core.List.{List}
use Prim.Native.Nat.{ℕ, ◌≤◌}
use native.Mathlib.Omega.{arith}
use lib.ListN.{length}
use Rattle.letter.specs.declared.Gate.{Gate}
use Rattle.gate.specs.Reading.{gates}
use Rattle.text.specs.Laws.Text.{refused_length, within, taken}
use Rattle.text_read.specs.Text.{without_line_feed}
use Rattle.qasm.specs.Text.{text_of, longest_text}
use Rattle.qasm.specs.Reading.{read_letters}
use Rattle.qasm.specs.Laws.Refusals.{text_small}
use Rattle.qasm.specs.Laws.Output.{wrote, refused}
use Rattle.write_qasm.proofs.answer.Goals as goal

-- a buffer for the longest text has room for that of each list that is read
room : (bs old : List ℕ) → longest_text ≤ length old → (w : List Gate) → read_letters bs ≡ gates w → length (text_of w) ≤ length old
room bs old h w e = let t = text_small bs w e in omega arith

pub shared_ref_as_front-result : goal.shared_ref_as_front-result
shared_ref_as_front-result c =
    let p = rw c.without_line_feed-letters.ensures at c.in-Ok.ensures in
    let bs = without_line_feed c.args.input.now in
    let (n, a) = wrote text_of _ _ (read_letters bs) (room bs c.args.out.now (omega arith)) _ p.answer p.buffer in
    omega (arith, (within a n).0)

pub refused-requires : goal.refused-requires
refused-requires c =
    let p = rw c.without_line_feed-letters.ensures at c.in-Err.ensures in
    let bs = without_line_feed c.args.input.now in
    let m = ap length (refused text_of _ _ (read_letters bs) (room bs c.args.out.now (omega arith)) _ (ap Err c.number.ensures.0 ∙ p.answer) p.buffer).1 in
    omega (arith, refused_length c.number.result)

pub returns-in-Ok : goal.returns-in-Ok
returns-in-Ok c =
    let p = rw c.without_line_feed-letters.ensures at c.in-Ok.ensures in
    let bs = without_line_feed c.args.input.now in
    let (n, a) = wrote text_of _ _ (read_letters bs) (room bs c.args.out.now (omega arith)) _ p.answer p.buffer in
    taken a n

pub returns-in-Err : goal.returns-in-Err
returns-in-Err c =
    let p = rw c.without_line_feed-letters.ensures at c.in-Err.ensures in
    let bs = without_line_feed c.args.input.now in
    c.refused.ensures ∙ (refused text_of _ _ (read_letters bs) (room bs c.args.out.now (omega arith)) _ (ap Err c.number.ensures.0 ∙ p.answer) p.buffer).0
