-- A block's layer by its two qubits: for each qubit, one above the highest layer on it so far.
use Rattle.std.specs.Prelude.{◌≡◌, refl, Bool, true, false, cond, ◌||◌, List, ℕ, suc, ◌+◌, max, ◌≤◌, ◌<◌, eqb, length, get_or, set}
use Rattle.std.proofs.Common.{sym, ap, ap₂, ◌∙◌, arith, length-set, get_or-set_same, get_or-set_other, eqb-true}
use Rattle.std.proofs.lemmas.Bool.{eqb-false}
use Rattle.block.specs.Block.{Block, Program, is_on, shares}
use Rattle.layer.specs.Layer.{highest}
use Rattle.layer.specs.Laws.Highest.{highest_cong, highest_max}
use Rattle.layer.specs.Laws.Layer.{layer_of, layer_is}

-- one above the highest layer on qubit q among the first n blocks; 0 if none is on it
unfoldable pub free_of : Program → ℕ → ℕ → ℕ
free_of B n q = highest n (λ i. cond (is_on (B i) q) (layer_of B i + 1) 0)

-- a block goes to the first layer that is free of both its qubits
pub layer_free : (B : Program) (n : ℕ) → layer_of B n ≡ max (free_of B n (B n).first) (free_of B n (B n).second)
unfolding shares free_of
layer_free B n =
    layer_is B n
    ∙ highest_cong n _ _ (λ i h. either (is_on (B i) (B n).first) (is_on (B i) (B n).second) (layer_of B i + 1))
    ∙ highest_max n (λ i. cond (is_on (B i) (B n).first) (layer_of B i + 1) 0) (λ i. cond (is_on (B i) (B n).second) (layer_of B i + 1) 0)
  where
    either : (s t : Bool) (x : ℕ) → cond (s || t) x 0 ≡ max (cond s x 0) (cond t x 0)
    either true true x = omega arith
    either true false x = omega arith
    either false true x = omega arith
    either false false x = omega arith

-- on each of the block's qubits its own layer is the highest then
free_le : (B : Program) (n q : ℕ) → is_on (B n) q ≡ true → free_of B n q ≤ layer_of B n
free_le B n q h = go (eqb (B n).first q) (eqb (B n).second q) refl refl h
  where
    go : (t u : Bool) → eqb (B n).first q ≡ t → eqb (B n).second q ≡ u → (t || u) ≡ true → free_of B n q ≤ layer_of B n
    go true u e f h = let i : free_of B n (B n).first ≡ free_of B n q = ap (free_of B n) (eqb-true _ _ e) in let m = layer_free B n in omega arith
    go false true e f h = let i : free_of B n (B n).second ≡ free_of B n q = ap (free_of B n) (eqb-true _ _ f) in let m = layer_free B n in omega arith
    go false false e f h = let z : ◌≡◌ {A = ℕ} 0 1 = cc in absurd (omega arith)

pub free_next : (B : Program) (n q : ℕ) → free_of B (suc n) q ≡ cond (is_on (B n) q) (layer_of B n + 1) (free_of B n q)
unfolding free_of highest
free_next B n q = go (is_on (B n) q) refl
  where
    go : (t : Bool) → is_on (B n) q ≡ t → max (free_of B n q) (cond t (layer_of B n + 1) 0) ≡ cond t (layer_of B n + 1) (free_of B n q)
    go true e = let m = free_le B n q e in omega arith
    go false e = omega arith

-- ---- a number for each qubit

-- cs has these numbers for the qubits below m
pub record Free (B : Program) (m n : ℕ) (cs : List ℕ) : Type 0 where
  pub size : length cs ≡ m
  pub each : (q : ℕ) → q < m → get_or cs q 0 ≡ free_of B n q

-- both numbers of a block set to x
set_both : (cs : List ℕ) (p : Block) (x q : ℕ) → p.first < length cs → p.second < length cs → get_or (set (set cs p.first x) p.second x) q 0 ≡ cond (is_on p q) x (get_or cs q 0)
set_both cs p x q f s = go (eqb p.first q) (eqb p.second q) refl refl
  where
    once : List ℕ
    once = set cs p.first x

    go : (t u : Bool) → eqb p.first q ≡ t → eqb p.second q ≡ u → get_or (set once p.second x) q 0 ≡ cond (t || u) x (get_or cs q 0)
    go t true e g =
        let k = length-set cs p.first x in
        ap (λ r. get_or (set once p.second x) r 0) (sym (eqb-true _ _ g)) ∙ get_or-set_same once p.second x 0 (omega arith) ∙ yes t
      where
        yes : (t : Bool) → x ≡ cond (t || true) x (get_or cs q 0)
        yes true = refl
        yes false = refl
    go true false e g =
        get_or-set_other once p.second q x 0 (λ k. eqb-false _ _ g (sym k))
        ∙ ap (λ r. get_or once r 0) (sym (eqb-true _ _ e)) ∙ get_or-set_same cs p.first x 0 f
    go false false e g =
        get_or-set_other once p.second q x 0 (λ k. eqb-false _ _ g (sym k))
        ∙ get_or-set_other cs p.first q x 0 (λ k. eqb-false _ _ e (sym k))

-- a turn for a block whose qubits are below m
module _ (B : Program) (m n : ℕ) (cs : List ℕ) (h : Free B m n cs) (f : (B n).first < m) (s : (B n).second < m) where
  pub free_layer : max (get_or cs (B n).first 0) (get_or cs (B n).second 0) ≡ layer_of B n
  free_layer = ap₂ max (h.each (B n).first f) (h.each (B n).second s) ∙ sym (layer_free B n)

  pub free_again : Free B m (suc n) (set (set cs (B n).first (layer_of B n + 1)) (B n).second (layer_of B n + 1))
  free_again = record {
    size = simp length-set h.size;
    each = λ q l.
        let k = h.size in
        set_both cs (B n) (layer_of B n + 1) q (omega arith) (omega arith)
        ∙ ap (cond (is_on (B n) q) (layer_of B n + 1)) (h.each q l) ∙ sym (free_next B n q);
  }
