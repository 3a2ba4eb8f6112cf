-- A turn for each block of a program that earns no refusal.
use Rattle.std.specs.Prelude.{◌≡◌, refl, List, get_or, set, replicate}
use Rattle.std.proofs.Math.Path.{sym, ap₂}
use Rattle.std.proofs.Common.{ap, ◌∙◌, arith}
use Prim.Native.Nat.{ℕ, ◌+◌, ◌*◌, max, ◌<◌}
use Rattle.std.proofs.Math.Numerals.{add-one}
use Rattle.std.proofs.lemmas.List.{length-replicate, get_or-replicate}
use Rattle.block.specs.Block.{qubits, most_blocks, block_count, block_at, program_refusal}
use Rattle.block.specs.Laws.Block.{OnTwo, accepted}
use Rattle.layer.specs.Layer.{highest}
use Rattle.layer.specs.Laws.Layer.{layer_of, layer_le}
use Rattle.layer.specs.Laws.Qubit.{free_of, Free, free_layer, free_again}

-- after the first n blocks: the first layer that is free of each qubit, and how many layers there are
pub record Turn (b : List ℕ) (n : ℕ) (cs : List ℕ) (count : ℕ) : Type 0 where
  pub each : Free (block_at 2 b) qubits n cs
  pub most : count ≡ highest n (λ i. layer_of (block_at 2 b) i + 1)

pub turn_first : (b : List ℕ) → Turn b 0 (replicate qubits 0) 0
unfolding free_of highest
turn_first b = record { each = record { size = length-replicate {A = ℕ} qubits 0; each = λ q h. get_or-replicate {A = ℕ} qubits q 0 0 h }; most = refl }

module _ (b : List ℕ) (z : program_refusal 2 b ≡ 0) (n : ℕ) (l : n < block_count 2 b) where
  pub turn_on_two : OnTwo (block_at 2 b n)
  turn_on_two = (accepted 2 b z).on_two n l

  -- a layer is a byte, and so is the one above it
  pub turn_small : layer_of (block_at 2 b) n < most_blocks
  turn_small = let f = (accepted 2 b z).few in let m = layer_le (block_at 2 b) n in omega arith

  module _ (cs : List ℕ) (count : ℕ) (t : Turn b n cs count) where
    pub turn_layer : max (get_or cs (get_or b (2 * n) 0) 0) (get_or cs (get_or b (2 * n + 1) 0) 0) ≡ layer_of (block_at 2 b) n
    turn_layer = free_layer (block_at 2 b) qubits n cs t.each turn_on_two.first turn_on_two.second

    pub turn_next : (r : ℕ) (next : List ℕ) (more : ℕ) → r ≡ layer_of (block_at 2 b) n
        → next ≡ set (set cs (get_or b (2 * n) 0) (r + 1)) (get_or b (2 * n + 1) 0) (r + 1) → more ≡ max count (r + 1) → Turn b (n + 1) next more
    unfolding highest
    turn_next r next more e d f = record {
      each = rw (d, e, add-one n) (free_again (block_at 2 b) qubits n cs t.each turn_on_two.first turn_on_two.second);
      most = f ∙ ap₂ (λ c x. max c (x + 1)) t.most e ∙ sym (ap (λ k. highest k (λ i. layer_of (block_at 2 b) i + 1)) (add-one n));
    }
