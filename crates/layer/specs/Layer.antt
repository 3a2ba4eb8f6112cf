-- Layers (document 02, P13): "Blocks that share a qubit keep their order. Give each block its layer, from 0, so that blocks in a layer share no
-- qubit. No valid layering has fewer layers or puts any block earlier." A layering says the layer of the block at each place.
use Rattle.std.specs.Prelude.{cond, true, List, [], ◌∷◌, ◌++◌, ◌≡◌, ℕ, zero, suc, ◌+◌, max, ◌<◌, ◌≤◌, eqb, get_or}
use Rattle.matrix.specs.Range.{some, total}
use Rattle.block.specs.Block.{Program, shares}

-- the highest of f 0, .., f (n − 1); 0 where there is none
unfoldable pub highest : ℕ → (ℕ → ℕ) → ℕ
highest zero f = 0
highest (suc n) f = max (highest n f) (f n)

-- ---- layerings of the first n blocks

-- "Blocks that share a qubit keep their order", and "blocks in a layer share no qubit": of two blocks that share one, the later has the higher layer
pub record Valid (B : Program) (n : ℕ) (L : ℕ → ℕ) : Type 0 where
  pub higher : (i j : ℕ) → i < j → j < n → shares (B i) (B j) ≡ true → L i < L j

-- 1 if one of these blocks is in layer v, 0 if none is
abbrev pub used : ℕ → (ℕ → ℕ) → ℕ → ℕ
used n L v = cond (some n (λ i. eqb (L i) v)) 1 0

-- "how many layers there are": those that have a block
unfoldable pub layers_in : ℕ → (ℕ → ℕ) → ℕ
layers_in n L = total (used n L) 0 (highest n (λ i. L i + 1))

-- what is asked of a layering
pub record Earliest (B : Program) (n : ℕ) (L : ℕ → ℕ) : Type 0 where
  pub valid : Valid B n L
  -- "No valid layering … puts any block earlier"
  pub earliest : (M : ℕ → ℕ) → Valid B n M → (i : ℕ) → i < n → L i ≤ M i
  -- "No valid layering has fewer layers"
  pub fewest : (M : ℕ → ℕ) → Valid B n M → layers_in n L ≤ layers_in n M

-- ---- the layering handed out

-- the layering that a list of layers is, "in list order"
abbrev pub layer_at : List ℕ → ℕ → ℕ
layer_at ls i = get_or ls i 0

-- one above the highest layer of the earlier blocks that share a qubit with block n, where ls has the layers of these; 0 if there is none
abbrev pub layer_above : Program → ℕ → List ℕ → ℕ
layer_above B n ls = highest n (λ i. cond (shares (B i) (B n)) (layer_at ls i + 1) 0)

-- the layers of the first n blocks
unfoldable pub layers : Program → ℕ → List ℕ
layers B zero = []
layers B (suc n) = layers B n ++ layer_above B n (layers B n) ∷ []
