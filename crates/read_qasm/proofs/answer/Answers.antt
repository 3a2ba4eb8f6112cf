-- What is written is that of the answer's case.
use Rattle.std.specs.Prelude.{Err}
use mathlib.Core.Path.{◌≡◌, ap, ◌∙◌}
use mathlib.Core.List.{List, map}
use Prim.Native.Nat.{ℕ, ◌≤◌}
use native.Mathlib.Omega.{arith}
use lib.ListN.{length}
use Rattle.letter.specs.declared.Gate.{Gate}
use Rattle.letter.specs.Gate.{letter}
use Rattle.gate.specs.Reading.{gates, largest_list}
use Rattle.text.specs.Laws.Text.{refused_length, within, taken}
use Rattle.qasm.specs.Reading.{read_qasm}
use Rattle.qasm.specs.Laws.Refusals.{letters_small}
use Rattle.qasm.specs.Laws.Output.{wrote, refused}
use Rattle.read_qasm.proofs.answer.Goals as goal

-- a buffer for the longest list has room for each list that is read
room : (bs old : List ℕ) → largest_list ≤ length old → (w : List Gate) → read_qasm bs ≡ gates w → length (map letter w) ≤ length old
room bs old h w e = let t = letters_small bs w e in omega arith

pub shared_ref_as_front-result : goal.shared_ref_as_front-result
shared_ref_as_front-result c =
    let p = c.in-Ok.ensures in
    let (n, a) = wrote (map letter) _ _ (read_qasm c.args.text.now) (room c.args.text.now c.args.out.now (omega arith)) _ p.answer p.buffer in
    omega (arith, (within a n).0)

pub refused-requires : goal.refused-requires
refused-requires c =
    let p = c.in-Err.ensures in
    let m = ap length (refused (map letter) _ _ (read_qasm c.args.text.now) (room c.args.text.now c.args.out.now (omega arith)) _ (ap Err c.number.ensures.0 ∙ p.answer) p.buffer).1 in
    omega (arith, refused_length c.number.result)

pub returns-in-Ok : goal.returns-in-Ok
returns-in-Ok c =
    let p = c.in-Ok.ensures in
    let (n, a) = wrote (map letter) _ _ (read_qasm c.args.text.now) (room c.args.text.now c.args.out.now (omega arith)) _ p.answer p.buffer in
    taken a n

pub returns-in-Err : goal.returns-in-Err
returns-in-Err c =
    let p = c.in-Err.ensures in
    c.refused.ensures ∙ (refused (map letter) _ _ (read_qasm c.args.text.now) (room c.args.text.now c.args.out.now (omega arith)) _ (ap Err c.number.ensures.0 ∙ p.answer) p.buffer).0
