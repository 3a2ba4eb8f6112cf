-- A matrix whose minors at places 1 to 4 are those of a multiple of the identity is diagonal; with the minor at place 0 it is such a multiple.
use Rattle.std.specs.Prelude.{◌≡◌, refl, ◌≢◌, [], ◌∷◌, ℕ, zero, suc, ◌<◌, ◌≤◌, pos}
use Rattle.std.proofs.Math.Path.{sym}
use Rattle.std.proofs.Common.{◌∙◌, ap, ap₂, ⊎_elim, arith}
use Rattle.std.proofs.Math.Decide.{ℕ_discrete}
use Rattle.matrix.specs.Matrix.{δ}
use Rattle.matrix.specs.Laws.Ring.{var, num, ◌:-◌, ◌:*◌}
use Rattle.matrix.specs.Laws.Sum.{δ_same, δ_other}
use Rattle.gaussian.specs.declared.Gaussian.{Gaussian}
use Rattle.gaussian.specs.Gaussian.{real, ◌⊖◌, ◌⊗◌, Matrix, Same, identity, scaled}
use Rattle.unitary.specs.Form.{minor, compound}
use Rattle.gaussian.specs.Laws.Gaussian.{ringᴳ, ⊗-comm, ⊗-zero, zero-⊗, ⊗-unit-r, ⊗-cancel-l, no_zero_divisorsᴳ}

module _ (W : Matrix) where
  swap_zero : (a b c d : ℕ) → minor W a b c d ≡ real (pos 0) → minor W a b d c ≡ real (pos 0)
  swap_zero a b c d e =
      ringᴳ (W a c ∷ W b d ∷ W a d ∷ W b c ∷ []) (var 2 :* var 3 :- var 0 :* var 1) (num (pos 0) :- (var 0 :* var 1 :- var 2 :* var 3)) refl refl
      ∙ ap (λ x. real (pos 0) ⊖ x) e ∙ ringᴳ [] (num (pos 0) :- num (pos 0)) (num (pos 0)) refl refl

  -- a three-by-three determinant with a row twice
  both_zero : (a b t : ℕ) → minor W a b t b ≡ real (pos 0) → minor W a b t a ≡ real (pos 0) → minor W a b a b ≢ real (pos 0)
      → (W a t ≡ real (pos 0)) × (W b t ≡ real (pos 0))
  both_zero a b t e f nz = (out (W a t) (W a a) (W a b) first, out (W b t) (W b a) (W b b) second)
    where
      first : W a t ⊗ minor W a b a b ≡ W a a ⊗ minor W a b t b ⊖ W a b ⊗ minor W a b t a
      first = ringᴳ (W a t ∷ W a a ∷ W a b ∷ W b t ∷ W b a ∷ W b b ∷ [])
          (var 0 :* (var 1 :* var 5 :- var 2 :* var 4)) (var 1 :* (var 0 :* var 5 :- var 2 :* var 3) :- var 2 :* (var 0 :* var 4 :- var 1 :* var 3)) refl refl

      second : W b t ⊗ minor W a b a b ≡ W b a ⊗ minor W a b t b ⊖ W b b ⊗ minor W a b t a
      second = ringᴳ (W a t ∷ W a a ∷ W a b ∷ W b t ∷ W b a ∷ W b b ∷ [])
          (var 3 :* (var 1 :* var 5 :- var 2 :* var 4)) (var 4 :* (var 0 :* var 5 :- var 2 :* var 3) :- var 5 :* (var 0 :* var 4 :- var 1 :* var 3)) refl refl

      out : (x y z : Gaussian) → x ⊗ minor W a b a b ≡ y ⊗ minor W a b t b ⊖ z ⊗ minor W a b t a → x ≡ real (pos 0)
      out x y z h =
          ⊎_elim (λ p. p) (λ p. absurd (nz p))
          (no_zero_divisorsᴳ x (minor W a b a b)
          (h ∙ ap₂ (λ m n. y ⊗ m ⊖ z ⊗ n) e f ∙ ringᴳ (y ∷ z ∷ []) (var 0 :* num (pos 0) :- var 1 :* num (pos 0)) (num (pos 0)) refl refl))

  principal : (a b : ℕ) → W a b ≡ real (pos 0) → minor W a b a b ≡ W a a ⊗ W b b
  principal a b e = ap (λ x. W a a ⊗ W b b ⊖ x ⊗ W b a) e ∙ ringᴳ (W a a ∷ W b b ∷ W b a ∷ []) (var 0 :* var 1 :- num (pos 0) :* var 2) (var 0 :* var 1) refl refl

module _ (W : Matrix) (x y : Gaussian) (nx : x ≢ real (pos 0)) (ny : y ≢ real (pos 0))
    (h : (p q : ℕ) → 1 ≤ p → p ≤ 4 → q < 6 → x ⊗ compound W p q ≡ y ⊗ identity p q) where
  zero_at_lem : (p q : ℕ) → 1 ≤ p → p ≤ 4 → q < 6 → p ≢ q → compound W p q ≡ real (pos 0)
  zero_at_lem p q l u hq n =
      ⊗-cancel-l (compound W p q) (real (pos 0)) x nx (h p q l u hq ∙ ap (λ z. y ⊗ real z) (δ_other p q n) ∙ ⊗-zero y ∙ sym (⊗-zero x))

  diagonal_at : (p : ℕ) → 1 ≤ p → p ≤ 4 → x ⊗ compound W p p ≡ y
  diagonal_at p l u = h p p l u (omega arith) ∙ ap (λ z. y ⊗ real z) (δ_same p) ∙ ⊗-unit-r y

  nonzero_at : (p : ℕ) → 1 ≤ p → p ≤ 4 → compound W p p ≢ real (pos 0)
  nonzero_at p l u e = ny (sym (diagonal_at p l u) ∙ ap (λ z. x ⊗ z) e ∙ ⊗-zero x)

  pair_021 : (W 0 1 ≡ real (pos 0)) × (W 2 1 ≡ real (pos 0))
  unfolding compound
  pair_021 = both_zero W 0 2 1 (zero_at_lem 1 3 (omega arith) (omega arith) (omega arith) (omega arith)) (swap_zero W 0 2 0 1 (zero_at_lem 1 0 (omega arith) (omega arith) (omega arith) (omega arith))) (nonzero_at 1 (omega arith) (omega arith))

  pair_032 : (W 0 2 ≡ real (pos 0)) × (W 3 2 ≡ real (pos 0))
  unfolding compound
  pair_032 = both_zero W 0 3 2 (zero_at_lem 2 5 (omega arith) (omega arith) (omega arith) (omega arith)) (swap_zero W 0 3 0 2 (zero_at_lem 2 1 (omega arith) (omega arith) (omega arith) (omega arith))) (nonzero_at 2 (omega arith) (omega arith))

  pair_023 : (W 0 3 ≡ real (pos 0)) × (W 2 3 ≡ real (pos 0))
  unfolding compound
  pair_023 = both_zero W 0 2 3 (swap_zero W 0 2 2 3 (zero_at_lem 1 5 (omega arith) (omega arith) (omega arith) (omega arith))) (swap_zero W 0 2 0 3 (zero_at_lem 1 2 (omega arith) (omega arith) (omega arith) (omega arith))) (nonzero_at 1 (omega arith) (omega arith))

  pair_120 : (W 1 0 ≡ real (pos 0)) × (W 2 0 ≡ real (pos 0))
  unfolding compound
  pair_120 = both_zero W 1 2 0 (zero_at_lem 3 1 (omega arith) (omega arith) (omega arith) (omega arith)) (zero_at_lem 3 0 (omega arith) (omega arith) (omega arith) (omega arith)) (nonzero_at 3 (omega arith) (omega arith))

  pair_132 : (W 1 2 ≡ real (pos 0)) × (W 3 2 ≡ real (pos 0))
  unfolding compound
  pair_132 = both_zero W 1 3 2 (zero_at_lem 4 5 (omega arith) (omega arith) (omega arith) (omega arith)) (swap_zero W 1 3 1 2 (zero_at_lem 4 3 (omega arith) (omega arith) (omega arith) (omega arith))) (nonzero_at 4 (omega arith) (omega arith))

  pair_123 : (W 1 3 ≡ real (pos 0)) × (W 2 3 ≡ real (pos 0))
  unfolding compound
  pair_123 = both_zero W 1 2 3 (swap_zero W 1 2 2 3 (zero_at_lem 3 5 (omega arith) (omega arith) (omega arith) (omega arith))) (swap_zero W 1 2 1 3 (zero_at_lem 3 4 (omega arith) (omega arith) (omega arith) (omega arith))) (nonzero_at 3 (omega arith) (omega arith))

  pair_130 : (W 1 0 ≡ real (pos 0)) × (W 3 0 ≡ real (pos 0))
  unfolding compound
  pair_130 = both_zero W 1 3 0 (zero_at_lem 4 2 (omega arith) (omega arith) (omega arith) (omega arith)) (zero_at_lem 4 0 (omega arith) (omega arith) (omega arith) (omega arith)) (nonzero_at 4 (omega arith) (omega arith))

  pair_031 : (W 0 1 ≡ real (pos 0)) × (W 3 1 ≡ real (pos 0))
  unfolding compound
  pair_031 = both_zero W 0 3 1 (zero_at_lem 2 4 (omega arith) (omega arith) (omega arith) (omega arith)) (swap_zero W 0 3 0 1 (zero_at_lem 2 0 (omega arith) (omega arith) (omega arith) (omega arith))) (nonzero_at 2 (omega arith) (omega arith))

  off_diagonal : (i j : ℕ) → i < 4 → j < 4 → i ≢ j → W i j ≡ real (pos 0)
  off_diagonal zero zero hi hj n = absurd (n refl)
  off_diagonal zero (suc zero) hi hj n = pair_021.0
  off_diagonal zero (suc (suc zero)) hi hj n = pair_032.0
  off_diagonal zero (suc (suc (suc zero))) hi hj n = pair_023.0
  off_diagonal zero (suc (suc (suc (suc j)))) hi hj n = absurd (omega arith)
  off_diagonal (suc zero) zero hi hj n = pair_120.0
  off_diagonal (suc zero) (suc zero) hi hj n = absurd (n refl)
  off_diagonal (suc zero) (suc (suc zero)) hi hj n = pair_132.0
  off_diagonal (suc zero) (suc (suc (suc zero))) hi hj n = pair_123.0
  off_diagonal (suc zero) (suc (suc (suc (suc j)))) hi hj n = absurd (omega arith)
  off_diagonal (suc (suc zero)) zero hi hj n = pair_120.1
  off_diagonal (suc (suc zero)) (suc zero) hi hj n = pair_021.1
  off_diagonal (suc (suc zero)) (suc (suc zero)) hi hj n = absurd (n refl)
  off_diagonal (suc (suc zero)) (suc (suc (suc zero))) hi hj n = pair_023.1
  off_diagonal (suc (suc zero)) (suc (suc (suc (suc j)))) hi hj n = absurd (omega arith)
  off_diagonal (suc (suc (suc zero))) zero hi hj n = pair_130.1
  off_diagonal (suc (suc (suc zero))) (suc zero) hi hj n = pair_031.1
  off_diagonal (suc (suc (suc zero))) (suc (suc zero)) hi hj n = pair_032.1
  off_diagonal (suc (suc (suc zero))) (suc (suc (suc zero))) hi hj n = absurd (n refl)
  off_diagonal (suc (suc (suc zero))) (suc (suc (suc (suc j)))) hi hj n = absurd (omega arith)
  off_diagonal (suc (suc (suc (suc i)))) j hi hj n = absurd (omega arith)

  -- the products of two diagonal entries
  products : (W 0 0 ⊗ W 2 2 ≡ compound W 1 1) × (W 0 0 ⊗ W 3 3 ≡ compound W 2 2) × (W 1 1 ⊗ W 2 2 ≡ compound W 3 3)
  unfolding compound
  products = (sym (principal W 0 2 pair_032.0), sym (principal W 0 3 pair_023.0), sym (principal W 1 2 pair_132.0))

  first : compound W 0 0 ≡ W 0 0 ⊗ W 1 1
  unfolding compound
  first = principal W 0 1 pair_021.0

  nz_0 : W 0 0 ≢ real (pos 0)
  nz_0 e = nonzero_at 1 (omega arith) (omega arith) (sym products.0 ∙ ap (λ z. z ⊗ W 2 2) e ∙ zero-⊗ (W 2 2))

  nz_1 : W 1 1 ≢ real (pos 0)
  nz_1 e = nonzero_at 3 (omega arith) (omega arith) (sym products.2 ∙ ap (λ z. z ⊗ W 2 2) e ∙ zero-⊗ (W 2 2))

  -- the other sign in column 0 is not to be had
  pub no_mirror : x ⊗ compound W 0 0 ≡ real (pos 0) → ⊥
  no_mirror e =
      ⊎_elim (λ p. nx p) (λ p. ⊎_elim nz_0 nz_1 (no_zero_divisorsᴳ (W 0 0) (W 1 1) (sym first ∙ p))) (no_zero_divisorsᴳ x (compound W 0 0) e)

  module _ (e : x ⊗ compound W 0 0 ≡ y) where
    equal : (p : ℕ) (a b : Gaussian) → 1 ≤ p → p ≤ 4 → a ⊗ b ≡ compound W p p → a ⊗ b ≡ W 0 0 ⊗ W 1 1
    equal p a b l u f = f ∙ ⊗-cancel-l (compound W p p) (compound W 0 0) x nx (diagonal_at p l u ∙ sym e) ∙ first

    two_one : W 2 2 ≡ W 1 1
    two_one = ⊗-cancel-l (W 2 2) (W 1 1) (W 0 0) nz_0 (equal 1 (W 0 0) (W 2 2) (omega arith) (omega arith) products.0)

    three_one : W 3 3 ≡ W 1 1
    three_one = ⊗-cancel-l (W 3 3) (W 1 1) (W 0 0) nz_0 (equal 2 (W 0 0) (W 3 3) (omega arith) (omega arith) products.1)

    two_zero : W 2 2 ≡ W 0 0
    two_zero = ⊗-cancel-l (W 2 2) (W 0 0) (W 1 1) nz_1 (equal 3 (W 1 1) (W 2 2) (omega arith) (omega arith) products.2 ∙ ⊗-comm (W 0 0) (W 1 1))

    on_diagonal : (i : ℕ) → i < 4 → W i i ≡ W 0 0
    on_diagonal zero hi = refl
    on_diagonal (suc zero) hi = sym two_one ∙ two_zero
    on_diagonal (suc (suc zero)) hi = two_zero
    on_diagonal (suc (suc (suc zero))) hi = three_one ∙ sym two_one ∙ two_zero
    on_diagonal (suc (suc (suc (suc i)))) hi = absurd (omega arith)

    pub scalar : Same 4 W (scaled (W 0 0) identity)
    scalar i j hi hj = elim (ℕ_discrete i j) [
      | yes d ↦ ap (λ k. W i k) (sym d) ∙ on_diagonal i hi ∙ sym (ap (λ k. W 0 0 ⊗ real (δ i k)) (sym d) ∙ ap (λ z. W 0 0 ⊗ real z) (δ_same i) ∙ ⊗-unit-r (W 0 0))
      | no n ↦ off_diagonal i j hi hj n ∙ sym (ap (λ z. W 0 0 ⊗ real z) (δ_other i j n) ∙ ⊗-zero (W 0 0))
    ]
