-- What is written by what the call for an operator file answers, where the buffer has room for a file.
use Rattle.std.specs.Prelude.{◌≡◌, List, ℕ, ◌≤◌, length, Ok, Err}
use Rattle.std.proofs.Common.{sym, ap, subst, ◌∙◌, le_trans, arith, le-ltb}
use Rattle.file.specs.File.{long_length, length_for, written, Appended}
use Rattle.file.specs.Laws.File.{length_file, length_most}
use Rattle.gate.specs.Reading.{Reading, gates, refusal, least_of, product_file, operator_answer, operator_buffer}
use Rattle.text.specs.Text.{refused_line}
use Rattle.text.specs.Laws.Text.{front}
use Rattle.multiply_gates.specs.Output.{output_of}

module _ (old new : List ℕ) (room : long_length ≤ length old) where
  -- after a count
  pub filed : (r : Reading) (k : ℕ) → Ok k ≡ operator_answer (length old) r → new ≡ operator_buffer old r → (length (output_of r) ≡ length_for k) × Appended (output_of r) 0 old new (length_for k)
  filed (refusal n) k e f = let x : ◌≡◌ {A = ℕ} 0 1 = cc in absurd (omega arith)
  filed (gates w) k e f =
      let b = product_file w in
      let g : new ≡ written old b = f ∙ rw (le-ltb (length old) (length_for (least_of w).exponent) (le_trans (length_most (least_of w).exponent) room)) in
      let h : Ok k ≡ Ok (least_of w).exponent = e ∙ rw (le-ltb (length old) (length_for (least_of w).exponent) (le_trans (length_most (least_of w).exponent) room)) in
      let i : (least_of w).exponent ≡ k = cc in
      let n = length_file (least_of w).exponent (least_of w).matrix ∙ ap length_for i in
      (n, subst (λ x. Appended b 0 old x (length_for k)) (sym g) (subst (λ x. Appended b 0 old (written old b) x) n (front old b)))

  -- after a refusal
  pub refused : (r : Reading) (n : ℕ) → Err n ≡ operator_answer (length old) r → new ≡ operator_buffer old r → (refused_line n ≡ output_of r) × (new ≡ old)
  refused (refusal m) n e f = let x : n ≡ m = cc in (ap refused_line x, f)
  refused (gates w) n e f =
      let g : Err n ≡ Ok (least_of w).exponent = e ∙ rw (le-ltb (length old) (length_for (least_of w).exponent) (le_trans (length_most (least_of w).exponent) room)) in
      let x : ◌≡◌ {A = ℕ} 0 1 = cc in
      absurd (omega arith)
