-- The text by what the call for a unitary answers, where the buffer has room for every list.
use Rattle.std.specs.Prelude.{◌≡◌, ℕ, ◌+◌, ◌≤◌, drop, Result, Ok, Err}
use Rattle.std.proofs.Math.Path.{sym, ap}
use Rattle.std.proofs.Common.{◌∙◌, arith}
use mathlib.Core.List.{List, [], ◌∷◌, ◌++◌, map}
use Rattle.std.proofs.Math.Decide.{ℕ_discrete}
use Rattle.std.proofs.Math.ListN.{length, take, length-append, length-map}
use Rattle.std.proofs.Math.Seq.{take_at, length-take-le}
use Rattle.refusal.specs.Laws.Refusal.{ok_err, same_err, same_ok}
use Rattle.file.specs.File.{written}
use Rattle.letter.specs.declared.Gate.{Gate}
use Rattle.letter.specs.Gate.{letter}
use Rattle.gate.specs.Reading.{gates_buffer}
use Rattle.unitary_gates.specs.declared.Synthesis.{Synthesis}
use Rattle.unitary_file.specs.Unitary.{unitary_of, unitary_refusal}
use Rattle.unitary_gates.specs.Promise.{form_count, form_loose, Handed, UnitaryPromise}
use Rattle.unitary_gates.specs.Laws.Promise.{count_small}
use Rattle.text.specs.Text.{count_word, loose_word, omega_word, count_line, gates_line, loose_line, list_lines, omega_line, refused_line}
use Rattle.text.specs.Laws.Text.{line_length}
use Rattle.list_unitary.specs.Output.{UnitaryText}

-- after a count, a number of letters, L and a power of ω
pub record Lettered (b new : List ℕ) (t n l s : ℕ) : Type 0 where
  pub long : n ≤ length new
  pub text : UnitaryText b (list_lines t (take n new) l ++ omega_line s)
  -- room for the four lines
  pub room : length (count_line t) + length (gates_line (take n new)) + length (loose_line l) + length (omega_line s) ≤ 16384

module _ (b old new : List ℕ) (a : Result Synthesis ℕ) (room : gates_buffer ≤ length old) (p : UnitaryPromise b old new a) where
  handed : (z : unitary_refusal b ≡ 0) → (w : List Gate) × (s : ℕ) × Handed b old new a w s
  handed z = let k = count_small b z in p.handed z (omega arith)

  done : (z : unitary_refusal b ≡ 0) (w : List Gate) (r : ℕ) → Handed b old new a w r → (t n l s : ℕ) → t ≡ form_count (unitary_of b) → n ≡ length w → l ≡ form_loose (unitary_of b) → s ≡ r → Lettered b new t n l s
  unfolding written
  done z w r h t n l s e f q x =
      let k = count_small b z in
      let c = h.list.list.1.short in
      let m : length (map letter w) ≡ n = length-map w letter ∙ sym f in
      let o = ap length h.buffer ∙ length-append (map letter w) (drop (length (map letter w)) old) in
      let g : take n new ≡ map letter w = ap (take n) h.buffer ∙ take_at (map letter w) (drop (length (map letter w)) old) n m in
      record {
        long = omega arith;
        room =
            let i = line_length count_word (t ∷ []) in
            let j = length-append (take n new) (10 ∷ []) in
            let p = line_length loose_word (l ∷ []) in
            let y = line_length omega_word (s ∷ []) in
            let u = length-take-le n new (omega arith) in
            omega arith;
        text = record { refused = λ y. absurd (y z); listed = λ _. (w, r, (cc (e, g, q, x)), h.list) };
      }

  pub lettered : (x : Synthesis) → a ≡ Ok x → Lettered b new x.count x.letters x.loose x.power
  lettered x e = elim (ℕ_discrete (unitary_refusal b) 0) [
    | yes z ↦
        let (w, r, h) = handed z in
        let f = same_ok (sym e ∙ h.answer) in
        done z w r h x.count x.letters x.loose x.power (ap (λ y. y.count) f) (ap (λ y. y.letters) f) (ap (λ y. y.loose) f) (ap (λ y. y.power) f)
    | no n ↦ absurd (ok_err (sym e ∙ (p.refused n).0))
  ]

  -- after a refusal
  pub refused : (n : ℕ) → a ≡ Err n → UnitaryText b (refused_line n)
  refused n e = elim (ℕ_discrete (unitary_refusal b) 0) [
    | yes z ↦ let (w, r, h) = handed z in absurd (ok_err (sym h.answer ∙ e))
    | no x ↦ record { refused = λ _. ap refused_line (same_err (sym e ∙ (p.refused x).0)); listed = λ z. absurd (x z) }
  ]
