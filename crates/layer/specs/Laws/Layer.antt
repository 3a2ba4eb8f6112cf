-- The layer of a block by its place, which is that in the list and follows the rule; these layers are valid, and no valid layering puts a block earlier.
use Rattle.std.specs.Prelude.{◌≡◌, Bool, true, false, length}
use Rattle.std.proofs.Math.Path.{refl, ap}
use Rattle.std.proofs.Common.{sym, ◌∙◌}
use Rattle.std.proofs.Math.Bool.{cond}
use mathlib.Core.List.{[], ◌∷◌}
use Prim.Native.Nat.{ℕ, zero, suc, ◌+◌, ◌≤◌, ◌<◌}
use Rattle.std.proofs.Math.Decide.{ℕ_discrete}
use native.Mathlib.Omega.{arith}
use Rattle.std.proofs.Math.ListN.{length-append, get_or-append}
use Rattle.std.proofs.Math.Seq.{get_or_at}
use Rattle.matrix.specs.Range.{tabulate}
use Rattle.matrix.specs.Laws.Range.{tabulate_is}
use Rattle.block.specs.Block.{Program, shares}
use Rattle.layer.specs.Layer.{highest, Valid, layer_at, layer_above, layers}
use Rattle.layer.specs.Laws.Highest.{highest_cong, le_highest, highest_le}

-- the layer of block n
unfoldable pub layer_of : Program → ℕ → ℕ
layer_of B n = layer_above B n (layers B n)

module _ (B : Program) where
  -- ---- the list

  pub length_layers : (n : ℕ) → length (layers B n) ≡ n
  unfolding layers
  length_layers zero = refl
  length_layers (suc n) = let a = length_layers n in let b = length-append (layers B n) (layer_above B n (layers B n) ∷ []) in omega arith

  pub layer_at_lem : (n i : ℕ) → i < n → layer_at (layers B n) i ≡ layer_of B i
  unfolding layers layer_of
  layer_at_lem zero i h = absurd (omega arith)
  layer_at_lem (suc n) i h =
      let a = length_layers n in
      elim (ℕ_discrete i n) [
        | yes e ↦ ap (layer_at (layers B (suc n))) e ∙ get_or_at (layers B n) (layer_above B n (layers B n)) [] 0 n a ∙ ap (layer_of B) (sym e)
        | no d ↦ get_or-append (layers B n) (layer_above B n (layers B n) ∷ []) 0 i (omega arith) ∙ layer_at_lem n i (omega arith)
      ]

  pub layers_all : (n : ℕ) → layers B n ≡ tabulate (layer_of B) 0 n
  layers_all n = tabulate_is (layer_of B) n 0 (layers B n) (length_layers n) (layer_at_lem n)

  -- ---- the rule

  -- one above the layer of an earlier block that shares a qubit with block n
  abbrev above : ℕ → ℕ → ℕ
  above n i = cond (shares (B i) (B n)) (layer_of B i + 1) 0

  pub layer_is : (n : ℕ) → layer_of B n ≡ highest n (λ i. cond (shares (B i) (B n)) (layer_of B i + 1) 0)
  unfolding layer_of
  layer_is n = highest_cong n _ _ (λ i h. ap (λ l. cond (shares (B i) (B n)) (l + 1) 0) (layer_at_lem n i h))

  pub layers_valid : (n : ℕ) → Valid B n (layer_at (layers B n))
  layers_valid n = record {
    higher = λ i j l h s.
        let a = le_highest j (above j) i l in
        let e = layer_is j in
        let c : above j i ≡ layer_of B i + 1 = rw s in
        let x = layer_at_lem n i (omega arith) in
        let y = layer_at_lem n j h in
        omega arith;
  }

  -- a layer is at most what is above the layers of the earlier blocks that share a qubit
  pub layer_below : (n m : ℕ) → ((i : ℕ) → i < n → shares (B i) (B n) ≡ true → layer_of B i < m) → layer_of B n ≤ m
  layer_below n m h =
      let e = layer_is n in
      let a = highest_le n (above n) m (λ i l. one (shares (B i) (B n)) (layer_of B i) (h i l)) in
      omega arith
    where
      one : (t : Bool) (x : ℕ) → (t ≡ true → x < m) → cond t (x + 1) 0 ≤ m
      one true x k = let l = k refl in omega arith
      one false x k = omega arith

  -- ---- "No valid layering … puts any block earlier"

  module _ (n : ℕ) (M : ℕ → ℕ) (v : Valid B n M) where
    below : (k i : ℕ) → i < k → i < n → layer_of B i ≤ M i
    below zero i h l = absurd (omega arith)
    below (suc k) i h l = layer_below i (M i) (λ j a s. let d = below k j (omega arith) (omega arith) in let u = v.higher j i a l s in omega arith)

    pub layer_earliest : (i : ℕ) → i < n → layer_of B i ≤ M i
    layer_earliest i h = below (suc i) i (omega arith) h

  -- a block's layer is at most its place
  pub layer_le : (n : ℕ) → layer_of B n ≤ n
  layer_le n = layer_earliest (suc n) (λ i. i) (record { higher = λ i j l h s. l }) n (omega arith)
