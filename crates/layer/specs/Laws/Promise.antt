-- What is promised, by the outcome.
use Rattle.std.specs.Prelude.{◌≡◌, ◌≢◌, List, ℕ, ◌≤◌, ◌<◌, length, Ok, Err}
use Rattle.std.proofs.Common.{ap, ◌∙◌}
use borrow.Author.Tests.{lt-ltb, le-ltb, eq-eqb, ne_eqb}
use Rattle.file.specs.File.{written}
use Rattle.block.specs.Block.{block_count, block_at, program_refusal}
use Rattle.layer.specs.Promise.{layer_bytes, layer_count, layer_answer, layer_buffer, LayerPromise}
use Rattle.layer.specs.Laws.Layering.{layering}

module _ (b old : List ℕ) where
  pub promise_refused : (r : ℕ) → r ≡ program_refusal 2 b → r ≢ 0 → LayerPromise b old old (Err r)
  unfolding layer_answer layer_buffer
  promise_refused r e d =
      let n = ne_eqb (program_refusal 2 b) 0 (λ z. d (e ∙ z)) in
      record { answer = rw n (ap Err e); buffer = rw n; layering = layering (block_at 2 b) (block_count 2 b) }

  module _ (z : program_refusal 2 b ≡ 0) where
    pub promise_short : length old < block_count 2 b → LayerPromise b old old (Err 6)
    unfolding layer_answer layer_buffer
    promise_short h =
        let n = eq-eqb (program_refusal 2 b) 0 z in
        let l = lt-ltb (length old) (block_count 2 b) h in
        record { answer = rw (n, l); buffer = rw (n, l); layering = layering (block_at 2 b) (block_count 2 b) }

    pub promise_written : (new : List ℕ) (r : ℕ) → block_count 2 b ≤ length old → new ≡ written old (layer_bytes b) → r ≡ layer_count b → LayerPromise b old new (Ok r)
    unfolding layer_answer layer_buffer
    promise_written new r h w e =
        let n = eq-eqb (program_refusal 2 b) 0 z in
        let l = le-ltb (length old) (block_count 2 b) h in
        record { answer = rw (n, l) (ap Ok e); buffer = rw (n, l) w; layering = layering (block_at 2 b) (block_count 2 b) }
