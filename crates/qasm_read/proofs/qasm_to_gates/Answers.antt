-- Each way out is a case of the definitions.
use Rattle.std.specs.Prelude.{Some, Ok, Err}
use mathlib.Core.Path.{◌≡◌, sym, ap, subst, ◌∙◌}
use mathlib.Core.Bool.{true}
use mathlib.Core.List.{List, flatten, map}
use Prim.Native.Nat.{ℕ, ◌≤◌, ◌<◌}
use native.Mathlib.Omega.{arith}
use lib.ListN.{length, length-map}
use Rattle.file.specs.File.{written}
use Rattle.letter.specs.Gate.{letter}
use Rattle.gate.specs.Reading.{gates, largest_list}
use Rattle.qasm.specs.Text.{version_line, include_line, register_line, first_lines, first_length}
use Rattle.qasm.specs.Promise.{LettersPromise, size}
use Rattle.qasm.specs.Laws.Answer.{refused, no_room, room, letters_promise}
use Rattle.qasm_read.specs.declared.Statements.{Statements}
use Rattle.qasm_read.specs.Statements.{begins, StatementsFrom, place_after, read_from, list_in}
use Rattle.qasm_read.specs.Laws.Statements.{not_started, started, ended, wrong, other_line, too_many, in_limit}
use Rattle.qasm_read.proofs.qasm_to_gates.Goals as goal

module _ (bs : List ℕ) (first : ℕ) (e : Some first ≡ place_after bs 0 (flatten first_lines)) where
  begun : begins bs (flatten first_lines) ≡ true
  begun = (started bs first e).0

  first_is : first ≡ first_length
  first_is = (started bs first e).1

  module _ (old : List ℕ) (r : Statements) (s : StatementsFrom bs first r) where
    from : StatementsFrom bs first_length r
    from = subst (λ k. StatementsFrom bs k r) first_is s

    line_refused : r.end < length bs → LettersPromise bs old old (Err 23)
    line_refused h = letters_promise (refused (map letter) old (other_line bs begun r from h))

    module _ (h : length bs ≤ r.end) where
      many_refused : largest_list < r.count → LettersPromise bs old old (Err 7)
      many_refused l = letters_promise (refused (map letter) old (too_many bs begun r from h l))

      count_is : r.count ≡ length (map letter s.list)
      count_is = s.count ∙ sym (length-map s.list letter)

      short_refused : r.count ≤ largest_list → length old < r.count → LettersPromise bs old old (Err 6)
      short_refused l k = letters_promise (no_room (map letter) old (in_limit bs begun r from h l) (from.count ∙ sym (length-map from.list letter)) k)

      read : read_from bs first ≡ gates s.list
      read = ended bs first r s h

      sized_is : Ok r.count ≡ size (map letter) (read_from bs first)
      sized_is = ap Ok count_is ∙ sym (ap (size (map letter)) read)

      done : {new : List ℕ} → r.count ≤ largest_list → r.count ≤ length old → new ≡ written old (map letter (list_in (read_from bs first))) → LettersPromise bs old new (Ok r.count)
      done l k b =
          letters_promise (room (map letter) old (in_limit bs begun r from h l) (from.count ∙ sym (length-map from.list letter)) k
          (b ∙ ap (λ x. written old (map letter (list_in x))) (ap (read_from bs) first_is ∙ ended bs first_length r from h)))

pub returns-in_default : goal.returns-in_default
unfolding version_line include_line register_line flatten
returns-in_default c =
    let bs = c.args.text.now in
    letters_promise (refused (map letter) _ (wrong bs (not_started bs c.in_default.ensures)))

pub statements_from-read-requires : goal.statements_from-read-requires
unfolding version_line include_line register_line flatten
statements_from-read-requires c = (started c.args.text.now _ c.in-Some.ensures).2

pub returns-then-read-text : goal.returns-then-read-text
unfolding version_line include_line register_line flatten
returns-then-read-text c =
    line_refused _ _ c.in-Some.ensures _ _ c.statements_from-read.ensures c.if-read-text.true

pub returns-then-count-gt-LARGEST_LIST : goal.returns-then-count-gt-LARGEST_LIST
unfolding version_line include_line register_line flatten
returns-then-count-gt-LARGEST_LIST c =
    many_refused _ _ c.in-Some.ensures _ _ c.statements_from-read.ensures (omega arith) c.if-count-gt-LARGEST_LIST.true

pub returns-then-out-count : goal.returns-then-out-count
unfolding version_line include_line register_line flatten
returns-then-out-count c =
    short_refused _ _ c.in-Some.ensures _ _ c.statements_from-read.ensures (omega arith) (omega arith) c.if-out-count.true

pub write_letters-requires : goal.write_letters-requires
unfolding version_line include_line register_line flatten
write_letters-requires c =
    let a = c.args in
    let e = c.in-Some.ensures in (
      (started a.text.now _ e).2,
      sized_is a.text.now _ e a.out.now _ c.statements_from-read.ensures (omega arith),
      omega arith,
    )

pub returns : goal.returns
unfolding version_line include_line register_line flatten
returns c =
    done _ _ c.in-Some.ensures _ _ c.statements_from-read.ensures (omega arith) (omega arith) (omega arith) c.write_letters.ensures
