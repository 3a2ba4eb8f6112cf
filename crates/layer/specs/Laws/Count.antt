-- How many layers there are: no valid layering has fewer than one above the highest layer handed out, below which no layer is without a block.
use Rattle.std.specs.Prelude.{◌≡◌, Bool}
use Rattle.std.proofs.Common.{ap, ◌∙◌, eq-eqb}
use Rattle.std.proofs.Math.Bool.{true, false, cond}
use Prim.Native.Nat.{ℕ, zero, suc, ◌+◌, ◌-◌, ◌≤◌, ◌<◌}
use native.Mathlib.Omega.{arith}
use Rattle.std.proofs.Math.Dec.{eqb}
use Rattle.matrix.specs.Range.{some, total}
use Rattle.matrix.specs.Laws.Range.{some_complete}
use Rattle.block.specs.Block.{Program}
use Rattle.layer.specs.Layer.{highest, Valid, used, layers_in, layer_at, layers}
use Rattle.layer.specs.Laws.Highest.{highest_cong, le_highest, highest_le}
use Rattle.layer.specs.Laws.Layer.{layer_of, layer_at_lem, layers_valid, layer_below}

-- ---- sums

total_last : (f : ℕ → ℕ) (a k : ℕ) → total f a (suc k) ≡ total f a k + f (a + k)
unfolding total
total_last f a zero = let e : f (a + 0) ≡ f a = ap f (omega arith) in omega arith
total_last f a (suc k) = let i = total_last f (suc a) k in let e : f (suc a + k) ≡ f (a + suc k) = ap f (omega arith) in omega arith

total_more : (f : ℕ → ℕ) (m d : ℕ) → total f 0 m ≤ total f 0 (m + d)
total_more f m zero = let e : total f 0 (m + 0) ≡ total f 0 m = ap (total f 0) (omega arith) in omega arith
total_more f m (suc d) =
    let i = total_more f m d in
    let e : total f 0 (m + suc d) ≡ total f 0 (suc (m + d)) = ap (total f 0) (omega arith) in
    let l = total_last f 0 (m + d) in
    omega arith

total_mono : (f : ℕ → ℕ) (m k : ℕ) → m ≤ k → total f 0 m ≤ total f 0 k
total_mono f m k h = let a = total_more f m (k - m) in let e : total f 0 (m + (k - m)) ≡ total f 0 k = ap (total f 0) (omega arith) in omega arith

-- ---- used layers

module _ (n : ℕ) (L : ℕ → ℕ) where
  used_le : (a k : ℕ) → total (used n L) a k ≤ k
  unfolding total
  used_le a zero = omega arith
  used_le a (suc k) = let h = used_le (suc a) k in let u = most (some n (λ i. eqb (L i) a)) in omega arith
    where
      most : (t : Bool) → cond t 1 0 ≤ 1
      most true = omega arith
      most false = omega arith

  -- the layer of a block is used
  used_next : (i : ℕ) → i < n → total (used n L) 0 (L i + 1) ≡ total (used n L) 0 (L i) + 1
  used_next i h =
      let e : L i + 1 ≡ suc (L i) = omega arith in
      let z : 0 + L i ≡ L i = omega arith in
      let u : used n L (0 + L i) ≡ 1 = ap (used n L) z ∙ ap (λ t. cond t 1 0) (some_complete n (λ j. eqb (L j) (L i)) i h (eq-eqb (L i) (L i) (omega arith))) in
      let l = total_last (used n L) 0 (L i) in
      let a = ap (total (used n L) 0) e in
      omega arith

-- ---- "No valid layering has fewer layers"

module _ (B : Program) (n : ℕ) (M : ℕ → ℕ) (v : Valid B n M) where
  -- a block's layer is below the number of layers that a valid layering uses up to the block's own
  used_before : (k i : ℕ) → i < k → i < n → layer_of B i < total (used n M) 0 (M i + 1)
  used_before zero i h l = absurd (omega arith)
  used_before (suc k) i h l =
      let a = layer_below B i (total (used n M) 0 (M i)) (λ j a s.
      let d = used_before k j (omega arith) (omega arith) in
      let u = v.higher j i a l s in
      let m = total_mono (used n M) (M j + 1) (M i) (omega arith) in
      omega arith) in
      let e = used_next n M i l in
      omega arith

  pub highest_used : highest n (λ i. layer_of B i + 1) ≤ layers_in n M
  unfolding layers_in
  highest_used =
      highest_le n (λ i. layer_of B i + 1) (layers_in n M)
      (λ i h. let a = used_before (suc i) i (omega arith) h in
      let b = total_mono (used n M) (M i + 1) (highest n (λ i. M i + 1)) (le_highest n (λ i. M i + 1) i h) in
      omega arith)

-- the layers handed out are as many
pub layers_count : (B : Program) (n : ℕ) → layers_in n (layer_at (layers B n)) ≡ highest n (λ i. layer_of B i + 1)
unfolding layers_in
layers_count B n =
    let L : ℕ → ℕ = layer_at (layers B n) in
    let a = highest_used B n L (layers_valid B n) in
    let b = used_le n L 0 (highest n (λ i. L i + 1)) in
    let e : highest n (λ i. L i + 1) ≡ highest n (λ i. layer_of B i + 1) = highest_cong n _ _ (λ i h. ap (λ l. l + 1) (layer_at_lem B n i h)) in
    omega arith
