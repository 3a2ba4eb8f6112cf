-- One cut of a reduced orthogonal operator: the halves are exact, the operator is the generator times what is left, and what is left is
-- orthogonal and reduced, at an exponent one lower and with a determinant of the same sign.
use Rattle.std.specs.Prelude.{◌≡◌, ◌≢◌, true, ℕ, suc, ◌<◌, ◌≤◌, pos, ◌*ℤ◌}
use Rattle.std.proofs.Common.{sym, ap, ◌∙◌, arith, eqb-true}
use Rattle.std.proofs.Math.Dec.{eqb}
use Rattle.matrix.specs.Range.{sum}
use Rattle.matrix.specs.Integer.{parity, half}
use Rattle.matrix.specs.Matrix.{Matrix, Same, δ, product, transpose, scaled}
use Rattle.matrix.specs.Determinant.{det}
use Rattle.matrix.specs.Operator.{operator, times_operator, SameOperator, Orthogonal, AllEven, Reduced}
use Rattle.matrix.specs.Array.{row_mask, half_sums}
use Rattle.matrix.specs.Laws.Integer.{two-*ℤ, *ℤ-distr-l}
use Rattle.matrix.specs.Laws.Parity.{half_even, even_parity}
use Rattle.matrix.specs.Laws.Sum.{sum_cong, sum_add}
use Rattle.matrix.specs.Laws.Range.{every_sound}
use Rattle.matrix.specs.Laws.Matrix.{product_cong, product_assoc, product_scaled_l, same_refl, product_id_l}
use Rattle.matrix.specs.Laws.Determinant.{det_cong}
use Rattle.matrix.specs.Laws.Operator.{same_operator_of, same_orthogonal, times_orthogonal, inverse_orthogonal, halved_same}
use Rattle.matrix.specs.Laws.Array.{equal_masks, half_sums_other, half_sums_exact}
use Rattle.residue.specs.Generator.{low, high, generator, turned_pair, turned, fits, first_fit}
use Rattle.residue.specs.Laws.Generator.{low_not_high, pairs_apart, turned_pair_cong, generator_orthogonal, generator_product, turned_det}
use Rattle.grouping.proofs.Grouping.{grouped_rows}
use Rattle.reduction.specs.Reduction.{cut}

module _ (g : ℕ) (l : 1 ≤ g) (u : g ≤ 15) (M : Matrix) (f : fits (row_mask M) g ≡ true) where
  -- the rows of a pair have equal parities
  pair_parity : (p : ℕ) → p < 3 → (c : ℕ) → c < 6 → parity (M (low g p) c) ≡ parity (M (high g p) c)
  unfolding fits
  pair_parity p h = equal_masks M (low g p) (high g p) (eqb-true _ _ (every_sound 3 (λ p. eqb (row_mask M (low g p)) (row_mask M (high g p))) f p h))

  abbrev one : Matrix
  one = half_sums (low g 2) (high g 2) M

  abbrev two : Matrix
  two = half_sums (low g 1) (high g 1) one

  -- the rows of the other pairs are as they were
  kept : (p q : ℕ) → p < 3 → q < 3 → p ≢ q → (N : Matrix) (c : ℕ) → (half_sums (low g q) (high g q) N (low g p) c ≡ N (low g p) c) × (half_sums (low g q) (high g q) N (high g p) c ≡ N (high g p) c)
  kept p q hp hq w N c =
      let (a, b, d, e) = pairs_apart g l u p q hp hq w in
      (half_sums_other (low g q) (high g q) N (low_not_high g l u q hq) (low g p) c a b, half_sums_other (low g q) (high g q) N (low_not_high g l u q hq) (high g p) c d e)

  -- the generator times the cut is the matrix
  pub turned_cut : Same 6 (turned g (cut g M)) M
  turned_cut r c hr hc =
      turned_pair_cong g l u 2 (omega arith) _ _ (λ r c hr hc. turned_pair_cong g l u 1 (omega arith) _ _ first r c hr hc ∙ second r c hr hc) r c hr hc ∙ third r c hr hc
    where
      first : Same 6 (turned_pair g 0 (cut g M)) two
      first =
          half_sums_exact (low g 0) (high g 0) two (low_not_high g l u 0 (omega arith))
          (λ c h. ap parity ((kept 0 1 (omega arith) (omega arith) (omega arith) one c).0 ∙ (kept 0 2 (omega arith) (omega arith) (omega arith) M c).0)
          ∙ pair_parity 0 (omega arith) c h
          ∙ ap parity (sym ((kept 0 1 (omega arith) (omega arith) (omega arith) one c).1 ∙ (kept 0 2 (omega arith) (omega arith) (omega arith) M c).1)))

      second : Same 6 (turned_pair g 1 two) one
      second =
          half_sums_exact (low g 1) (high g 1) one (low_not_high g l u 1 (omega arith))
          (λ c h. ap parity (kept 1 2 (omega arith) (omega arith) (omega arith) M c).0 ∙ pair_parity 1 (omega arith) c h
          ∙ ap parity (sym (kept 1 2 (omega arith) (omega arith) (omega arith) M c).1))

      third : Same 6 (turned_pair g 2 one) M
      third = half_sums_exact (low g 2) (high g 2) M (low_not_high g l u 2 (omega arith)) (pair_parity 2 (omega arith))

  pub product_cut : Same 6 M (product 6 (generator g) (cut g M))
  product_cut r c hr hc = sym (generator_product g l u (cut g M) r c hr hc ∙ turned_cut r c hr hc)

  -- what is left, twice over, is the generator's inverse times the matrix
  pub doubled : Same 6 (product 6 (transpose (generator g)) M) (scaled (pos 2) (cut g M))
  doubled r c hr hc =
      product_cong (same_refl 6 (transpose (generator g))) product_cut r c hr hc
      ∙ ap (λ X. X r c) (sym (product_assoc 6 (transpose (generator g)) (generator g) (cut g M)))
      ∙ product_cong inverse (same_refl 6 (cut g M)) r c hr hc
      ∙ ap (λ X. X r c) (product_scaled_l 6 (pos 2) δ (cut g M))
      ∙ ap (λ x. pos 2 *ℤ x) (product_id_l 6 (cut g M) r c hr hc)
    where
      inverse : Same 6 (product 6 (transpose (generator g)) (generator g)) (scaled (pos 2) δ)
      inverse i j hi hj = (inverse_orthogonal (generator_orthogonal g l u)).rows i j hi hj

  pub cut_orthogonal : (k : ℕ) → Orthogonal (operator (suc k) M) → Orthogonal (operator k (cut g M))
  cut_orthogonal k o =
      same_orthogonal (halved_same k (product 6 (transpose (generator g)) M) (cut g M) (λ i j hi hj. doubled i j hi hj ∙ two-*ℤ (cut g M i j)))
      (same_orthogonal (same_operator_of (times_operator (operator 1 (transpose (generator g))) (operator (suc k) M)) (operator (suc (suc k)) (product 6 (transpose (generator g)) M)) (omega arith) (same_refl 6 (product 6 (transpose (generator g)) M)))
      (times_orthogonal (inverse_orthogonal (generator_orthogonal g l u)) o))

  -- were what is left all even, so would the matrix be
  pub cut_even : AllEven (cut g M) → AllEven M
  cut_even e i j hi hj = (
    sum 6 (λ t. generator g i t *ℤ half (cut g M t j)),
    product_cut i j hi hj
        ∙ sum_cong (λ t ht. ap (λ x. generator g i t *ℤ x) (sym (half_even (cut g M t j) (even_parity (cut g M t j) (e t j ht hj)))) ∙ *ℤ-distr-l (generator g i t) (half (cut g M t j)) (half (cut g M t j)))
        ∙ sum_add 6 (λ t. generator g i t *ℤ half (cut g M t j)) (λ t. generator g i t *ℤ half (cut g M t j)),
  )

  pub cut_det : det 6 M ≡ pos 8 *ℤ det 6 (cut g M)
  cut_det = sym (det_cong 6 _ _ turned_cut) ∙ turned_det g l u (cut g M)

-- ---- the theorem

pub record Step (k : ℕ) (M : Matrix) (g : ℕ) (N : Matrix) : Type 0 where
  pub number : (1 ≤ g) × (g ≤ 15)
  pub same : SameOperator (operator (suc k) M) (times_operator (operator 1 (generator g)) (operator k N))
  pub orthogonal : Orthogonal (operator k N)
  pub reduced : Reduced (operator k N)
  pub sign : det 6 M ≡ pos 8 *ℤ det 6 N

pub one_step : (k : ℕ) (M : Matrix) → Orthogonal (operator (suc k) M) → Reduced (operator (suc k) M) → Step k M (first_fit (row_mask M)) (cut (first_fit (row_mask M)) M)
one_step k M o r =
    let g = first_fit (row_mask M) in
    let fit = (grouped_rows k M o r).fit in
    let l : 1 ≤ g = fit.from in
    let u : g ≤ 15 = let v : g < 16 = fit.below in omega arith in
    record {
      number = (l, u);
      same = same_operator_of (operator (suc k) M) (times_operator (operator 1 (generator g)) (operator k (cut g M))) (omega arith) (product_cut g l u M fit.holds);
      orthogonal = cut_orthogonal g l u M fit.holds k o;
      reduced = record { small = λ e. let s : suc k ≤ 1 = r.small (cut_even g l u M fit.holds e) in omega arith };
      sign = cut_det g l u M fit.holds;
    }
