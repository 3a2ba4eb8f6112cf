-- What is written by what the call for an operator file answers, where the buffer has room for a file.
use Rattle.std.specs.Prelude.{◌≡◌, List, ◌≢◌, ℕ, ◌≤◌, length, Result, Ok, Err}
use Rattle.std.proofs.Common.{sym, ap, subst, ◌∙◌, le_trans}
use Rattle.std.proofs.Math.Decide.{ℕ_discrete}
use Rattle.refusal.specs.Laws.Refusal.{ok_err, same_err, same_ok}
use borrow.Author.Tests.{eq-eqb, ne_eqb, le-ltb}
use Rattle.file.specs.File.{long_length, length_for, written, Appended}
use Rattle.file.specs.Laws.File.{length_file, length_most}
use Rattle.sheet_bytes.specs.Sheet.{sheet_refusal, sheet_least}
use Rattle.sheet.specs.Promise.{sheet_file, operator_buffer, OperatorPromise}
use Rattle.sheet.specs.Laws.Promise.{answer_count, answer_refused}
use Rattle.text.specs.Text.{refused_line}
use Rattle.text.specs.Laws.Text.{front}
use Rattle.multiply_sheet.specs.Output.{output_of}

module _ (s old new : List ℕ) (a : Result ℕ ℕ) (room : long_length ≤ length old) (p : OperatorPromise s old new a) where
  fits : length_for (sheet_least s).exponent ≤ length old
  fits = le_trans (length_most (sheet_least s).exponent) room

  module _ (z : sheet_refusal s ≡ 0) where
    output_is : output_of s ≡ sheet_file s
    unfolding output_of
    output_is = rw (eq-eqb (sheet_refusal s) 0 z)

    buffer_is : new ≡ written old (output_of s)
    unfolding operator_buffer output_of
    buffer_is = p.buffer ∙ rw (eq-eqb (sheet_refusal s) 0 z, le-ltb (length old) (length_for (sheet_least s).exponent) fits)

    done : (k : ℕ) → (sheet_least s).exponent ≡ k → (length (output_of s) ≡ length_for k) × Appended (output_of s) 0 old new (length_for k)
    done k e =
        let n = ap length output_is ∙ length_file (sheet_least s).exponent (sheet_least s).matrix ∙ ap length_for e in
        (n, subst (λ x. Appended (output_of s) 0 old x (length_for k)) (sym buffer_is) (subst (λ x. Appended (output_of s) 0 old (written old (output_of s)) x) n (front old (output_of s))))

  module _ (n : sheet_refusal s ≢ 0) where
    line_is : refused_line (sheet_refusal s) ≡ output_of s
    unfolding output_of
    line_is = rw (ne_eqb (sheet_refusal s) 0 n)

    unchanged : new ≡ old
    unfolding operator_buffer
    unchanged = p.buffer ∙ rw (ne_eqb (sheet_refusal s) 0 n)

  -- after a count
  pub filed : (k : ℕ) → a ≡ Ok k → (length (output_of s) ≡ length_for k) × Appended (output_of s) 0 old new (length_for k)
  filed k e = elim (ℕ_discrete (sheet_refusal s) 0) [
    | yes z ↦ done z k (same_ok (sym (answer_count room p z) ∙ e))
    | no n ↦ absurd (ok_err (sym e ∙ answer_refused room p n))
  ]

  -- after a refusal
  pub refused : (n : ℕ) → a ≡ Err n → (refused_line n ≡ output_of s) × (new ≡ old)
  refused n e = elim (ℕ_discrete (sheet_refusal s) 0) [
    | yes z ↦ absurd (ok_err (sym (answer_count room p z) ∙ e))
    | no m ↦ (ap refused_line (same_err (sym e ∙ answer_refused room p m)) ∙ line_is m, unchanged m)
  ]
