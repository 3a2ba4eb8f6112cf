-- What is written by what a call answers, where the buffer has room for the bytes of any list that is read.
use Rattle.std.specs.Prelude.{◌≡◌, refl, List, ℕ, ◌≤◌, length, Ok, Err}
use Rattle.std.proofs.Common.{sym, ap, subst, ◌∙◌, arith, le-ltb}
use Rattle.file.specs.File.{written, Appended}
use Rattle.letter.specs.declared.Gate.{Gate}
use Rattle.gate.specs.Reading.{Reading, gates, refusal}
use Rattle.text.specs.Text.{refused_line}
use Rattle.text.specs.Laws.Text.{front}
use Rattle.qasm.specs.Promise.{written_answer, written_buffer}
use Rattle.qasm.specs.Output.{output_of}

module _ (bytes_of : List Gate → List ℕ) (old new : List ℕ) where
  -- after the bytes
  pub wrote : (r : Reading) → ((w : List Gate) → r ≡ gates w → length (bytes_of w) ≤ length old) → (k : ℕ)
      → Ok k ≡ written_answer bytes_of (length old) r → new ≡ written_buffer bytes_of old r
      → (length (output_of bytes_of r) ≤ length old) × Appended (output_of bytes_of r) 0 old new k
  wrote (refusal n) room k e f = let x : ◌≡◌ {A = ℕ} 0 1 = cc in absurd (omega arith)
  wrote (gates w) room k e f =
      let b = bytes_of w in
      let h = room w refl in
      let g : Ok k ≡ Ok (length b) = e ∙ rw (le-ltb (length old) (length b) h) in
      let i : new ≡ written old b = f ∙ rw (le-ltb (length old) (length b) h) in
      let x : k ≡ length b = cc in
      (h, subst (λ x. Appended b 0 old x k) (sym i) (subst (λ k. Appended b 0 old (written old b) k) (sym x) (front old b)))

  -- after a refusal
  pub refused : (r : Reading) → ((w : List Gate) → r ≡ gates w → length (bytes_of w) ≤ length old) → (n : ℕ)
      → Err n ≡ written_answer bytes_of (length old) r → new ≡ written_buffer bytes_of old r → (refused_line n ≡ output_of bytes_of r) × (new ≡ old)
  refused (refusal m) room n e f = let x : n ≡ m = cc in (ap refused_line x, f)
  refused (gates w) room n e f =
      let g : Err n ≡ Ok (length (bytes_of w)) = e ∙ rw (le-ltb (length old) (length (bytes_of w)) (room w refl)) in
      let x : ◌≡◌ {A = ℕ} 0 1 = cc in
      absurd (omega arith)
