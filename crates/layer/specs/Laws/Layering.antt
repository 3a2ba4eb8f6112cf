-- The layering handed out is what is asked for, of every program of every number of blocks, and it is the only such layering.
use Rattle.std.specs.Prelude.{◌≡◌, ℕ, ◌<◌}
use Rattle.std.proofs.Common.{arith}
use Rattle.block.specs.Block.{Program}
use Rattle.layer.specs.Layer.{Earliest, layer_at, layers}
use Rattle.layer.specs.Laws.Layer.{layer_at_lem, layers_valid, layer_earliest}
use Rattle.layer.specs.Laws.Count.{highest_used, layers_count}

pub layering : (B : Program) (n : ℕ) → Earliest B n (layer_at (layers B n))
layering B n = record {
  valid = layers_valid B n;
  earliest = λ M v i h. let a = layer_at_lem B n i h in let b = layer_earliest B n M v i h in omega arith;
  fewest = λ M v. let a = layers_count B n in let b = highest_used B n M v in omega arith;
}

pub layering_only : (B : Program) (n : ℕ) (L : ℕ → ℕ) → Earliest B n L → (i : ℕ) → i < n → L i ≡ layer_at (layers B n) i
layering_only B n L e i h =
    let k = layering B n in
    let a = e.earliest (layer_at (layers B n)) k.valid i h in
    let b = k.earliest L e.valid i h in
    omega arith
