-- What is written by what the call for a bundle answers, where the buffer has room for any bundle.
use Rattle.std.specs.Prelude.{◌≡◌, List, ◌≢◌, ℕ, ◌≤◌, length, Result, Ok, Err}
use Rattle.std.proofs.Common.{sym, ap, subst, ◌∙◌, arith}
use Rattle.std.proofs.Math.Decide.{ℕ_discrete}
use Rattle.refusal.specs.Laws.Refusal.{ok_err, same_err, same_ok}
use borrow.Author.Tests.{eq-eqb, ne_eqb, le-ltb}
use Rattle.file.specs.File.{written, Appended}
use Rattle.text.specs.Text.{refused_line}
use Rattle.text.specs.Laws.Text.{front}
use Rattle.bundle_write.specs.Writing.{sheets_refusal, sheets_bundle, longest_written, bundle_answer, bundle_buffer, BundlePromise}
use Rattle.bundle_write.specs.Laws.Promise.{bundle_small}
use Rattle.make_bundle.specs.Output.{output_of}

module _ (s old new : List ℕ) (a : Result ℕ ℕ) (room : longest_written ≤ length old) (p : BundlePromise s old new a) where
  module _ (z : sheets_refusal s ≡ 0) where
    fits : length (sheets_bundle s) ≤ length old
    fits = let m = bundle_small s z in omega arith

    answer_is : a ≡ Ok (length (sheets_bundle s))
    unfolding bundle_answer
    answer_is = p.answer ∙ rw (eq-eqb (sheets_refusal s) 0 z, le-ltb (length old) (length (sheets_bundle s)) fits)

    output_is : output_of s ≡ sheets_bundle s
    unfolding output_of
    output_is = rw (eq-eqb (sheets_refusal s) 0 z)

    buffer_is : new ≡ written old (output_of s)
    unfolding bundle_buffer
    buffer_is = p.buffer ∙ rw (eq-eqb (sheets_refusal s) 0 z, le-ltb (length old) (length (sheets_bundle s)) fits) (ap (written old) (sym output_is))

    done : (length (output_of s) ≤ length old) × Appended (output_of s) 0 old new (length (output_of s))
    done = (let e = ap length output_is in let f = fits in omega arith, subst (λ x. Appended (output_of s) 0 old x (length (output_of s))) (sym buffer_is) (front old (output_of s)))

  module _ (n : sheets_refusal s ≢ 0) where
    refusal_is : a ≡ Err (sheets_refusal s)
    unfolding bundle_answer
    refusal_is = p.answer ∙ rw (ne_eqb (sheets_refusal s) 0 n)

    line_is : refused_line (sheets_refusal s) ≡ output_of s
    unfolding output_of
    line_is = rw (ne_eqb (sheets_refusal s) 0 n)

    unchanged : new ≡ old
    unfolding bundle_buffer
    unchanged = p.buffer ∙ rw (ne_eqb (sheets_refusal s) 0 n)

  -- after the bundle
  pub made : (k : ℕ) → a ≡ Ok k → (length (output_of s) ≤ length old) × Appended (output_of s) 0 old new k
  made k e = elim (ℕ_discrete (sheets_refusal s) 0) [
    | yes z ↦
        let x : length (sheets_bundle s) ≡ k = same_ok (sym (answer_is z) ∙ e) in
        ((done z).0, subst (λ k. Appended (output_of s) 0 old new k) (ap length (output_is z) ∙ x) (done z).1)
    | no n ↦ absurd (ok_err (sym e ∙ refusal_is n))
  ]

  -- after a refusal
  pub refused : (n : ℕ) → a ≡ Err n → (refused_line n ≡ output_of s) × (new ≡ old)
  refused n e = elim (ℕ_discrete (sheets_refusal s) 0) [
    | yes z ↦ absurd (ok_err (sym (answer_is z) ∙ e))
    | no m ↦ (ap refused_line (same_err (sym e ∙ refusal_is m)) ∙ line_is m, unchanged m)
  ]
