-- What the call that gives blocks their layers promises (document 02, P13), for a program of two bytes a block.
use Rattle.std.specs.Prelude.{cond, List, ◌≡◌, ℕ, eqb, ltb, length, Result, Ok, Err}
use Rattle.file.specs.File.{written}
use Rattle.block.specs.Block.{block_count, block_at, program_refusal}
use Rattle.layer.specs.Layer.{layers_in, Earliest, layer_at, layers}

-- "The layers are written one byte a block, in list order"
abbrev pub layer_bytes : List ℕ → List ℕ
layer_bytes b = layers (block_at 2 b) (block_count 2 b)

-- "the answer is how many layers there are"
abbrev pub layer_count : List ℕ → ℕ
layer_count b = layers_in (block_count 2 b) (layer_at (layer_bytes b))

-- the answer, where the lent buffer has m bytes: 24 and 25, "then 6 if the buffer has fewer bytes than there are blocks"
unfoldable pub layer_answer : List ℕ → ℕ → Result ℕ ℕ
layer_answer b m =
    cond (eqb (program_refusal 2 b) 0)
    (cond (ltb m (block_count 2 b)) (Err 6) (Ok (layer_count b)))
    (Err (program_refusal 2 b))

-- the buffer afterwards
unfoldable pub layer_buffer : List ℕ → List ℕ → List ℕ
layer_buffer b old = cond (eqb (program_refusal 2 b) 0) (cond (ltb (length old) (block_count 2 b)) old (written old (layer_bytes b))) old

pub record LayerPromise (b old new : List ℕ) (a : Result ℕ ℕ) : Type 0 where
  pub answer : a ≡ layer_answer b (length old)
  pub buffer : new ≡ layer_buffer b old
  -- the bytes are a valid layering, and no valid layering has fewer layers or puts any block earlier
  pub layering : Earliest (block_at 2 b) (block_count 2 b) (layer_at (layer_bytes b))
