-- The text by what the call for layers answers, where the buffer has room for every program's.
use Rattle.std.proofs.Math.Path.{◌≡◌, sym, ap}
use Rattle.std.proofs.Common.{◌∙◌, arith}
use Rattle.std.specs.Prelude.{List, [], ◌∷◌, ◌++◌, ◌≢◌, ℕ, ◌+◌, ◌≤◌, drop, Result, Ok, Err}
use Rattle.std.proofs.Math.Decide.{ℕ_discrete}
use Rattle.std.proofs.Math.ListN.{length, take, length-append}
use Rattle.std.proofs.Math.Seq.{take_at, length-take-le}
use borrow.Author.Tests.{eq-eqb, ne_eqb, le-ltb}
use Rattle.refusal.specs.Laws.Refusal.{ok_err, same_err, same_ok}
use Rattle.file.specs.File.{written}
use Rattle.block.specs.Block.{most_blocks, block_count, block_at, program_refusal}
use Rattle.block.specs.Laws.Block.{accepted}
use Rattle.layer.specs.Promise.{layer_bytes, layer_count, layer_answer, layer_buffer, LayerPromise}
use Rattle.layer.specs.Laws.Layer.{length_layers}
use Rattle.text.specs.Text.{layers_word, layer_word, layers_line, layer_line, refused_line}
use Rattle.text.specs.Laws.Text.{line_length}
use Rattle.layer_blocks.specs.Output.{layer_text}

-- after a number of layers
pub record Layered (b new : List ℕ) (n : ℕ) : Type 0 where
  pub long : block_count 2 b ≤ length new
  pub text : layer_text b ≡ layers_line n ++ layer_line (take (block_count 2 b) new)
  -- room for the two lines
  pub room : length (layers_line n) + length (layer_line (take (block_count 2 b) new)) ≤ 512

module _ (b old new : List ℕ) (a : Result ℕ ℕ) (room : most_blocks ≤ length old) (p : LayerPromise b old new a) where
  module _ (z : program_refusal 2 b ≡ 0) where
    fits : block_count 2 b ≤ length old
    fits = let f = (accepted 2 b z).few in omega arith

    answer_is : a ≡ Ok (layer_count b)
    unfolding layer_answer
    answer_is = p.answer ∙ rw (eq-eqb (program_refusal 2 b) 0 z, le-ltb (length old) (block_count 2 b) fits)

    buffer_is : new ≡ layer_bytes b ++ drop (length (layer_bytes b)) old
    unfolding layer_buffer written
    buffer_is = p.buffer ∙ rw (eq-eqb (program_refusal 2 b) 0 z, le-ltb (length old) (block_count 2 b) fits)

    done : (n : ℕ) → n ≡ layer_count b → Layered b new n
    unfolding layer_text
    done n e =
        let s = length_layers (block_at 2 b) (block_count 2 b) in
        let k = (accepted 2 b z).few in
        let m = ap length buffer_is ∙ length-append (layer_bytes b) (drop (length (layer_bytes b)) old) in
        let f : layer_bytes b ≡ take (block_count 2 b) new = sym (ap (take (block_count 2 b)) buffer_is ∙ take_at (layer_bytes b) (drop (length (layer_bytes b)) old) (block_count 2 b) s) in
        record {
          long = omega arith;
          room =
              let i = line_length layers_word (n ∷ []) in
              let j = line_length layer_word (take (block_count 2 b) new) in
              let t = length-take-le (block_count 2 b) new (omega arith) in
              omega arith;
          text = rw (eq-eqb (program_refusal 2 b) 0 z) (cc (e, f));
        }

  refusal_is : program_refusal 2 b ≢ 0 → a ≡ Err (program_refusal 2 b)
  unfolding layer_answer
  refusal_is n = p.answer ∙ rw (ne_eqb (program_refusal 2 b) 0 n)

  pub layered : (n : ℕ) → a ≡ Ok n → Layered b new n
  layered n e = elim (ℕ_discrete (program_refusal 2 b) 0) [
    | yes z ↦ done z n (same_ok (sym e ∙ answer_is z))
    | no m ↦ absurd (ok_err (sym e ∙ refusal_is m))
  ]

  -- after a refusal
  pub refused : (n : ℕ) → a ≡ Err n → layer_text b ≡ refused_line n
  unfolding layer_text
  refused n e = elim (ℕ_discrete (program_refusal 2 b) 0) [
    | yes z ↦ absurd (ok_err (sym (answer_is z) ∙ e))
    | no m ↦ rw (ne_eqb (program_refusal 2 b) 0 m) (ap refused_line (same_err (sym (refusal_is m) ∙ e)))
  ]
