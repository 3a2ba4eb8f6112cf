-- Each way out is a case of the definitions; the lines and the statements are the text.
use Rattle.std.specs.Prelude.{Ok, Err}
use Rattle.std.specs.Borrow.{MutBor}
use Rattle.std.proofs.Common.{rules}
use mathlib.Core.Path.{◌≡◌, sym, ap, ◌∙◌}
use mathlib.Core.List.{List, flatten}
use Prim.Native.Nat.{ℕ, ◌+◌, ◌≤◌, ◌<◌}
use native.Mathlib.Omega.{arith}
use Rattle.std.proofs.lemmas.Result.{err_from_is_err_and}
use lib.ListN.{length}
use Rattle.file.specs.File.{written}
use Rattle.file.specs.Laws.Written.{appended_front}
use Rattle.text.specs.Writer.{Begins, Writes}
use Rattle.text.specs.declared.Writer.{Writer}
use Rattle.text.specs.Laws.Writer.{room_front, room_after, writes_append, writes_front}
use Rattle.gate.specs.Reading.{largest_list}
use Rattle.qasm.specs.Text.{version_line, include_line, register_line, first_lines, text_of, first_length}
use Rattle.qasm.specs.Reading.{letters_of, body_of}
use Rattle.qasm.specs.Promise.{TextPromise, size}
use Rattle.qasm.specs.Laws.Answer.{sized, size_refused, refused, no_room, room, text_promise}
use Rattle.qasm.specs.Laws.Writing.{length_first, letters_short, letters_long, text_of_lem, text_length}
use Rattle.qasm.proofs.gates_to_qasm.Goals as goal

module _ (bs old : List ℕ) (short : length bs ≤ largest_list) where
  -- a byte that is no letter
  unknown : (n : ℕ) → Err n ≡ size text_of (letters_of bs) → TextPromise bs old old (Err n)
  unknown n e = text_promise (refused text_of old (letters_short bs short ∙ size_refused text_of (letters_of bs) n e))

  module _ (n : ℕ) (e : Ok n ≡ size text_of (letters_of bs)) where
    long : n ≡ first_length + length (body_of bs)
    long = let s = sized text_of (letters_of bs) n e in s.long ∙ text_length bs s.list s.is

    too_short : length old < n → TextPromise bs old old (Err 6)
    too_short h = let s = sized text_of (letters_of bs) n e in text_promise (no_room text_of old (letters_short bs short ∙ s.is) s.long h)

-- the first lines and the statements are the text
module _ {bs : List ℕ} {out : MutBor (List ℕ)} {w mid last : Writer} (b : Begins out w) (first : Writes (flatten first_lines) w mid) (rest : Writes (body_of bs) mid last) where
  done : (n : ℕ) → length bs ≤ largest_list → Ok n ≡ size text_of (letters_of bs) → n ≤ length out.now → TextPromise bs out.now last.out.now (Ok n)
  done n short e h =
      let s = sized text_of (letters_of bs) n e in
      let k = long bs out.now short n e in
      let l = length_first in
      let a = writes_front b (writes_append first (room_front b _ (omega arith)) rest) in
      text_promise (room text_of out.now (letters_short bs short ∙ s.is) s.long h (appended_front a ∙ ap (written out.now) (sym (text_of_lem bs s.list s.is))))

pub returns-then-letters-gt-LARGEST_LIST : goal.returns-then-letters-gt-LARGEST_LIST
returns-then-letters-gt-LARGEST_LIST c = text_promise (refused text_of _ (letters_long _ c.if-letters-gt-LARGEST_LIST.true))

pub returns-then-out-length : goal.returns-then-out-length
returns-then-out-length c =
    too_short _ _ (omega arith) _ (c.in_ok-length.ensures) c.if-out-length.true

pub bytes-requires : goal.bytes-requires
bytes-requires c =
    let k = long _ c.args.out.now (omega arith) _ (c.in_ok-length.ensures) in
    room_front c.new-w.ensures _ (omega arith)

pub write_statements-requires : goal.write_statements-requires
write_statements-requires c =
    let k = long _ c.args.out.now (omega arith) _ (c.in_ok-length.ensures) in
    let l = ap length c.new-w.ensures.buffer in
    room_after c.bytes.ensures _ (omega arith)

pub returns-in_err-length : goal.returns-in_err-length
returns-in_err-length c =
    let p = err_from_is_err_and c.from_residual.result c.from_residual.ensures.1 in
    rw (p.1, p.2) (unknown _ _ (omega arith) _ c.in_err-length.ensures)

pub returns : goal.returns
unfolding version_line include_line register_line flatten
returns c =
    let p = done c.new-w.ensures c.bytes.ensures c.write_statements.ensures _ (omega arith) c.in_ok-length.ensures (omega arith) in
    search (rules, p)
