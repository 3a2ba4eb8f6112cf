-- The text by what the call for a sheet answers, where the buffer has room for every sheet.
use Rattle.std.proofs.Math.Path.{◌≡◌, sym, ap}
use Rattle.std.proofs.Common.{◌∙◌, arith}
use Rattle.std.specs.Prelude.{List, [], ◌∷◌, ◌++◌, ◌≢◌, ℕ, ◌+◌, ◌≤◌, drop, Result, Ok, Err}
use Rattle.std.proofs.Math.Decide.{ℕ_discrete}
use Rattle.std.proofs.Math.ListN.{length, take, length-append}
use Rattle.std.proofs.Math.Seq.{take_at, length-take-le}
use borrow.Author.Tests.{eq-eqb, ne_eqb, le-ltb}
use Rattle.file.specs.File.{largest_exponent, written}
use Rattle.sheet_bytes.specs.Bytes.{shortest, longest}
use Rattle.acceptance.specs.Acceptance.{file_refusal}
use Rattle.acceptance.specs.Cutting.{file_count, file_loose}
use Rattle.operator.specs.declared.Cuts.{Cuts}
use Rattle.refusal.specs.Laws.Refusal.{ok_err, same_err, same_ok}
use Rattle.operator.specs.Promise.{file_sheet, sheet_answer, sheet_buffer, SheetPromise}
use Rattle.operator.specs.Laws.Promise.{count_small, sheet_length}
use Rattle.text.specs.Text.{count_word, sheet_word, loose_word, count_line, sheet_line, loose_line, refused_line}
use Rattle.text.specs.Laws.Text.{line_length}
use Rattle.cut.specs.Output.{cut_text}

-- after a count and L
pub record Counted (b new : List ℕ) (t l : ℕ) : Type 0 where
  pub small : t ≤ largest_exponent
  pub long : t + shortest ≤ length new
  pub text : cut_text b ≡ count_line t ++ sheet_line (take (t + shortest) new) ++ loose_line l
  -- room for the three lines
  pub room : length (count_line t) + length (sheet_line (take (t + shortest) new)) + length (loose_line l) ≤ 512

module _ (b old new : List ℕ) (a : Result Cuts ℕ) (room : longest ≤ length old) (p : SheetPromise b old new a) where
  module _ (z : file_refusal b ≡ 0) where
    fits : length (file_sheet b) ≤ length old
    fits = let s = sheet_length b z in let k = count_small b z in omega arith

    answer_is : a ≡ Ok (record { count = file_count b; loose = file_loose b })
    unfolding sheet_answer
    answer_is = p.answer ∙ rw (eq-eqb (file_refusal b) 0 z, le-ltb (length old) (length (file_sheet b)) fits)

    buffer_is : new ≡ file_sheet b ++ drop (length (file_sheet b)) old
    unfolding sheet_buffer written
    buffer_is = p.buffer ∙ rw (eq-eqb (file_refusal b) 0 z, le-ltb (length old) (length (file_sheet b)) fits)

    done : (t l : ℕ) → t ≡ file_count b → l ≡ file_loose b → Counted b new t l
    unfolding cut_text
    done t l e g =
        let s : length (file_sheet b) ≡ t + shortest = sheet_length b z ∙ ap (λ n. n + shortest) (sym e) in
        let k = count_small b z in
        let n = ap length buffer_is ∙ length-append (file_sheet b) (drop (length (file_sheet b)) old) in
        let f : file_sheet b ≡ take (t + shortest) new = sym (ap (take (t + shortest)) buffer_is ∙ take_at (file_sheet b) (drop (length (file_sheet b)) old) (t + shortest) s) in
        record {
          small = omega arith;
          long = omega arith;
          room =
              let i = line_length count_word (t ∷ []) in
              let j = line_length sheet_word (take (t + shortest) new) in
              let h = line_length loose_word (l ∷ []) in
              let m = length-take-le (t + shortest) new (omega arith) in
              omega arith;
          text = rw (eq-eqb (file_refusal b) 0 z) (cc (e, f, g));
        }

  refusal_is : file_refusal b ≢ 0 → a ≡ Err (file_refusal b)
  unfolding sheet_answer
  refusal_is n = p.answer ∙ rw (ne_eqb (file_refusal b) 0 n)

  pub counted : (r : Cuts) → a ≡ Ok r → Counted b new r.count r.loose
  counted r e = elim (ℕ_discrete (file_refusal b) 0) [
    | yes z ↦ let f = same_ok (sym e ∙ answer_is z) in done z r.count r.loose (ap (λ c. c.count) f) (ap (λ c. c.loose) f)
    | no n ↦ absurd (ok_err (sym e ∙ refusal_is n))
  ]

  -- after a refusal
  pub refused : (n : ℕ) → a ≡ Err n → cut_text b ≡ refused_line n
  unfolding cut_text
  refused n e = elim (ℕ_discrete (file_refusal b) 0) [
    | yes z ↦ absurd (ok_err (sym (answer_is z) ∙ e))
    | no m ↦ rw (ne_eqb (file_refusal b) 0 m) (ap refused_line (same_err (sym (refusal_is m) ∙ e)))
  ]
