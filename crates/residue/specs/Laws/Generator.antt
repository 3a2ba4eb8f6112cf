-- What a generator does to a matrix.
use Rattle.std.specs.Prelude.{◌≡◌, refl, ◌≢◌, Bool, true, not, ◌&&◌, ◌||◌, List, [], ◌∷◌, ℕ, suc, ◌+◌, ◌*◌, ◌<◌, ◌≤◌, T, eqb, ltb, pos, negsuc, ◌*ℤ◌, get_or}
use Rattle.std.proofs.Common.{ap, ap₂, subst, ◌∙◌, arith, eqb→eq, ltb→lt, T_not}
use Rattle.std.proofs.Math.Path.{fun_ext}
use Rattle.std.proofs.Math.Dec.{eqb_refl}
use Rattle.matrix.specs.Range.{sum, every_from, every}
use Rattle.matrix.specs.Integer.{equals}
use Rattle.matrix.specs.Matrix.{Matrix, Same, δ, replaced, product}
use Rattle.matrix.specs.Determinant.{det}
use Rattle.matrix.specs.Operator.{operator, Orthogonal}
use Rattle.matrix.specs.Array.{everywhere, is_orthogonal}
use Rattle.matrix.specs.Laws.Integer.{equals_eq}
use Rattle.matrix.specs.Laws.Range.{every_sound, first_cong}
use Rattle.matrix.specs.Laws.Ring.{var, num, ◌:*◌, ring}
use Rattle.matrix.specs.Laws.Matrix.{product_cong, product_id_l, same_refl}
use Rattle.matrix.specs.Laws.Determinant.{combined_product, combined_cong, det_minus_plus}
use Rattle.matrix.specs.Laws.Array.{everywhere_sound, orthogonal_sound}
use Rattle.residue.specs.Generator.{table, place, pair_rows, low, high, generator, turned_pair, turned, fits, first_fit}
use Rattle.matrix.specs.Laws.Test.{left, right, or_elim, T_true, true_T}
use Rattle.residue.specs.Masks.{AreRows, mask_at, pairs_fit}
use Rattle.residue.specs.Laws.Table.{numbered, row_at_lem}

-- ---- the rows of a pair

abbrev pairs_right : ℕ → ℕ → Bool
pairs_right g p = ltb (low g p) (high g p) && ltb (high g p) 6

abbrev apart : ℕ → ℕ → ℕ → Bool
apart g p q = eqb p q || (not (eqb (low g p) (low g q)) && (not (eqb (low g p) (high g q)) && (not (eqb (high g p) (low g q)) && not (eqb (high g p) (high g q)))))

all_right : every 15 (λ a. every 3 (pairs_right (suc a)) && every 3 (λ p. every 3 (apart (suc a) p))) ≡ true
unfolding place table every_from
all_right = refl

-- the six rows, as the code has them
rows_right : every 15 (λ a. every 6 (λ n. ltb (get_or (pair_rows (suc a)) n 0) 6)) ≡ true
unfolding table every_from
rows_right = refl

pub rows_fit : (masks : List ℕ) (g : ℕ) → pairs_fit masks (pair_rows g) ≡ fits (mask_at masks) g
unfolding fits
rows_fit masks g = ap (every 3) (fun_ext λ p. ap₂ (λ i j. eqb (mask_at masks i) (mask_at masks j)) (row_at_lem g (p * 2)) (row_at_lem g (p * 2 + 1)))

module _ (g : ℕ) (l : 1 ≤ g) (u : g ≤ 15) where
  pub are_rows : AreRows (pair_rows g)
  are_rows n h = ltb→lt _ 6 (true_T (every_sound 6 (λ n. ltb (get_or (pair_rows g) n 0) 6) (T_true _ (numbered (λ g. every 6 (λ n. ltb (get_or (pair_rows g) n 0) 6)) 15 rows_right g l u)) n h))

  right_of_lem : T (every 3 (pairs_right g) && every 3 (λ p. every 3 (apart g p)))
  right_of_lem = numbered (λ g. every 3 (pairs_right g) && every 3 (λ p. every 3 (apart g p))) 15 all_right g l u

  pair_right : (p : ℕ) → p < 3 → T (pairs_right g p)
  pair_right p h = true_T (every_sound 3 (pairs_right g) (T_true _ (left (every 3 (pairs_right g)) _ right_of_lem)) p h)

  pub low_high : (p : ℕ) → p < 3 → low g p < high g p
  low_high p h = ltb→lt _ _ (left (ltb (low g p) (high g p)) _ (pair_right p h))

  pub high_six : (p : ℕ) → p < 3 → high g p < 6
  high_six p h = ltb→lt _ _ (right (ltb (low g p) (high g p)) _ (pair_right p h))

  pub low_six : (p : ℕ) → p < 3 → low g p < 6
  low_six p h = let a = low_high p h in let b = high_six p h in omega arith

  pub low_not_high : (p : ℕ) → p < 3 → low g p ≢ high g p
  low_not_high p h = let a = low_high p h in λ e. omega arith

  -- no row stands in two pairs
  pub pairs_apart : (p q : ℕ) → p < 3 → q < 3 → p ≢ q → (low g p ≢ low g q) × (low g p ≢ high g q) × (high g p ≢ low g q) × (high g p ≢ high g q)
  pairs_apart p q hp hq w =
      or_elim (eqb p q) _ _
      (true_T (every_sound 3 (apart g p) (every_sound 3 (λ p. every 3 (apart g p)) (T_true _ (right (every 3 (pairs_right g)) _ right_of_lem)) p hp) q hq))
      (λ t. absurd (w (eqb→eq p q t)))
      (λ t. let t1 = right (not (eqb (low g p) (low g q))) _ t in
      let t2 = right (not (eqb (low g p) (high g q))) _ t1 in
      (differ (left (not (eqb (low g p) (low g q))) _ t), differ (left (not (eqb (low g p) (high g q))) _ t1), differ (left (not (eqb (high g p) (low g q))) _ t2), differ (right (not (eqb (high g p) (low g q))) _ t2)))
    where
      differ : {a b : ℕ} → T (not (eqb a b)) → a ≢ b
      differ {a} {b} t e = T_not (eqb a b) t (subst (λ x. T (eqb a x)) e (eqb_refl a))

  -- ---- the product with the matrix is the row operation

  pub turned_pair_cong : (p : ℕ) → p < 3 → (A B : Matrix) → Same 6 A B → Same 6 (turned_pair g p A) (turned_pair g p B)
  turned_pair_cong p h A B = combined_cong 6 (low g p) (high g p) (low_six p h) (high_six p h) (low_not_high p h) (pos 1) (negsuc 0) (pos 1) (pos 1) A B

  turned_pair_product : (p : ℕ) → p < 3 → (A M : Matrix) → Same 6 (product 6 (turned_pair g p A) M) (turned_pair g p (product 6 A M))
  turned_pair_product p h A M = combined_product 6 (low g p) (high g p) (low_six p h) (high_six p h) (low_not_high p h) (pos 1) (negsuc 0) (pos 1) (pos 1) A M

generator_turned : every 15 (λ a. everywhere (λ r c. equals (generator (suc a) r c) (turned (suc a) δ r c))) ≡ true
unfolding place table every_from generator sum δ replaced
generator_turned = refl

generators_orthogonal : every 15 (λ a. is_orthogonal 1 (generator (suc a))) ≡ true
unfolding place table every_from generator sum δ is_orthogonal
generators_orthogonal = refl

module _ (g : ℕ) (l : 1 ≤ g) (u : g ≤ 15) where
  pub generator_orthogonal : Orthogonal (operator 1 (generator g))
  generator_orthogonal = orthogonal_sound 1 (generator g) (T_true _ (numbered (λ g. is_orthogonal 1 (generator g)) 15 generators_orthogonal g l u))

  generator_is : Same 6 (generator g) (turned g δ)
  generator_is r c hr hc =
      equals_eq _ _
      (everywhere_sound (λ r c. equals (generator g r c) (turned g δ r c))
      (T_true _ (numbered (λ g. everywhere (λ r c. equals (generator g r c) (turned g δ r c))) 15 generator_turned g l u)) r c hr hc)

  -- the generator times M
  pub generator_product : (M : Matrix) → Same 6 (product 6 (generator g) M) (turned g M)
  generator_product M r c hr hc =
      product_cong generator_is (same_refl 6 M) r c hr hc
      ∙ turned_pair_product g l u 2 (omega arith) (turned_pair g 1 (turned_pair g 0 δ)) M r c hr hc
      ∙ turned_pair_cong g l u 2 (omega arith) _ _ inner r c hr hc
    where
      inner : Same 6 (product 6 (turned_pair g 1 (turned_pair g 0 δ)) M) (turned_pair g 1 (turned_pair g 0 M))
      inner r c hr hc =
          turned_pair_product g l u 1 (omega arith) (turned_pair g 0 δ) M r c hr hc
          ∙ turned_pair_cong g l u 1 (omega arith) _ _
          (λ r c hr hc. turned_pair_product g l u 0 (omega arith) δ M r c hr hc ∙ turned_pair_cong g l u 0 (omega arith) _ _ (product_id_l 6 M) r c hr hc)
          r c hr hc

  det_pair : (p : ℕ) → p < 3 → (M : Matrix) → det 6 (turned_pair g p M) ≡ pos 2 *ℤ det 6 M
  det_pair p h M = det_minus_plus 6 (low g p) (high g p) (low_six g l u p h) (high_six g l u p h) (low_not_high g l u p h) M

  -- and its determinant
  pub turned_det : (M : Matrix) → det 6 (turned g M) ≡ pos 8 *ℤ det 6 M
  turned_det M =
      rw (
        det_pair 2 (omega arith) (turned_pair g 1 (turned_pair g 0 M)),
        det_pair 1 (omega arith) (turned_pair g 0 M),
        det_pair 0 (omega arith) M,
      )
      (ring (det 6 M ∷ []) (num (pos 2) :* (num (pos 2) :* (num (pos 2) :* var 0))) (num (pos 8) :* var 0) refl)

-- ---- the choice depends on which of the six rows group together

-- f and f' put the same rows into one group
abbrev pub Alike : (ℕ → ℕ) → (ℕ → ℕ) → Type 0
Alike f f' = (r s : ℕ) → r < 6 → s < 6 → eqb (f r) (f s) ≡ eqb (f' r) (f' s)

module _ (f f' : ℕ → ℕ) (h : Alike f f') where
  pub fits_cong : (g : ℕ) → 1 ≤ g → g ≤ 15 → fits f g ≡ fits f' g
  unfolding fits every_from
  fits_cong g l u =
      rw (
        h (low g 0) (high g 0) (low_six g l u 0 (omega arith)) (high_six g l u 0 (omega arith)),
        h (low g 1) (high g 1) (low_six g l u 1 (omega arith)) (high_six g l u 1 (omega arith)),
        h (low g 2) (high g 2) (low_six g l u 2 (omega arith)) (high_six g l u 2 (omega arith)),
      )

  pub first_fit_cong : first_fit f ≡ first_fit f'
  unfolding first_fit
  first_fit_cong = first_cong (fits f) (fits f') 1 15 (λ g l u. fits_cong g l (omega arith))
