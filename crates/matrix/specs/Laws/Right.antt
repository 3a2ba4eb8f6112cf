-- A factor on the right that is orthogonal with exponent 0, as a Clifford is: it changes no exponent, and not which rows have equal bits.
use Rattle.std.specs.Prelude.{◌≡◌, refl, List, ℕ, zero, suc, ◌+◌, ◌*◌, ◌%◌, ◌<◌, eqb, ℤ, ◌*ℤ◌}
use Rattle.std.proofs.Common.{sym, ap, ap₂, ◌∙◌, arith, eq-eqb, ne_eqb}
use Rattle.std.proofs.Math.Decide.{dec_lt, ℕ_discrete}
use Rattle.matrix.specs.Range.{sum}
use Rattle.matrix.specs.Integer.{parity, half}
use Rattle.matrix.specs.Matrix.{Matrix, Same, δ, product, transpose, entry, listed}
use Rattle.matrix.specs.Operator.{operator, Orthogonal, AllEven, Reduced}
use Rattle.matrix.specs.Array.{row_mask, least, least_form}
use Rattle.matrix.specs.Laws.Integer.{*ℤ-distr-r, *ℤ-unit-l}
use Rattle.matrix.specs.Laws.Parity.{parity_add, parity_mul, half_even, even_parity}
use Rattle.matrix.specs.Laws.Sum.{sum_cong, sum_add}
use Rattle.matrix.specs.Laws.Matrix.{same_refl, product_cong, product_assoc, product_id_r}
use Rattle.matrix.specs.Laws.Array.{entry_listed, equal_masks, equal_parities, even_sound, least_odd, least_small}

-- an even matrix times any is even
even_times : (M D : Matrix) → AllEven M → AllEven (product 6 M D)
even_times M D e i j hi hj = (
  sum 6 (λ t. half (M i t) *ℤ D t j),
  sum_cong (λ t ht. ap (λ x. x *ℤ D t j) (sym (half_even (M i t) (even_parity (M i t) (e i t hi ht)))) ∙ *ℤ-distr-r (half (M i t)) (half (M i t)) (D t j))
      ∙ sum_add 6 (λ t. half (M i t) *ℤ D t j) (λ t. half (M i t) *ℤ D t j),
)

-- a reduced pair is its own least form
least_reduced : (k : ℕ) (m : List ℤ) → Reduced (operator k (entry m)) → least_form k m ≡ least k m
least_reduced k m r = elim (dec_lt k 2) [
  | yes h ↦ least_small k m h
  | no h ↦ least_odd k m (λ e. h (let s = r.small (even_sound (entry m) e) in omega arith))
]

-- the parity of a sum of products depends on the parities alone
parity_sum : (n : ℕ) (a b w : ℕ → ℤ) → ((t : ℕ) → t < n → parity (a t) ≡ parity (b t)) → parity (sum n (λ t. a t *ℤ w t)) ≡ parity (sum n (λ t. b t *ℤ w t))
unfolding sum
parity_sum zero a b w h = refl
parity_sum (suc n) a b w h =
    parity_add (sum n (λ t. a t *ℤ w t)) (a n *ℤ w n)
    ∙ ap₂ (λ x y. (x + y) % 2) (parity_sum n a b w (λ t u. h t (omega arith))) (parity_mul (a n) (w n) ∙ ap (λ x. x * parity (w n)) (h n (omega arith)) ∙ sym (parity_mul (b n) (w n)))
    ∙ sym (parity_add (sum n (λ t. b t *ℤ w t)) (b n *ℤ w n))

-- so rows of equal bits have equal bits in a product
masks_times : (M D : Matrix) (i j : ℕ) → row_mask M i ≡ row_mask M j → row_mask (product 6 M D) i ≡ row_mask (product 6 M D) j
masks_times M D i j e = equal_parities (product 6 M D) (product 6 M D) i j (λ c hc. parity_sum 6 (M i) (M j) (λ t. D t c) (equal_masks M i j e))

mask_cong : (M N : Matrix) → Same 6 M N → (r : ℕ) → r < 6 → row_mask M r ≡ row_mask N r
mask_cong M N h r hr = equal_parities M N r r (λ c hc. ap parity (h r c hr hc))

module _ (D : Matrix) (d : Orthogonal (operator 0 D)) where
  -- the factor can be taken off again
  taken_off : (M : Matrix) → Same 6 (product 6 (product 6 M D) (transpose D)) M
  taken_off M i j hi hj =
      ap (λ X. X i j) (product_assoc 6 M D (transpose D))
      ∙ product_cong (same_refl 6 M) (λ r c hr hc. d.rows r c hr hc ∙ *ℤ-unit-l (δ r c)) i j hi hj
      ∙ product_id_r 6 M i j hi hj

  -- so two rows have equal bits in a product exactly if they have them without the factor
  pub masks_right : (M : Matrix) (i j : ℕ) → i < 6 → j < 6
      → eqb (row_mask (entry (listed (product 6 M D))) i) (row_mask (entry (listed (product 6 M D))) j) ≡ eqb (row_mask M i) (row_mask M j)
  masks_right M i j hi hj = ap₂ eqb (array i hi) (array j hj) ∙ elim (ℕ_discrete (row_mask M i) (row_mask M j)) [
    | yes e ↦ eq-eqb (row_mask (product 6 M D) i) (row_mask (product 6 M D) j) (masks_times M D i j e) ∙ sym (eq-eqb (row_mask M i) (row_mask M j) e)
    | no n ↦ ne_eqb (row_mask (product 6 M D) i) (row_mask (product 6 M D) j) (λ e. n (sym (off i hi) ∙ masks_times (product 6 M D) (transpose D) i j e ∙ off j hj)) ∙ sym (ne_eqb (row_mask M i) (row_mask M j) n)
  ]
    where
      array : (r : ℕ) → r < 6 → row_mask (entry (listed (product 6 M D))) r ≡ row_mask (product 6 M D) r
      array = mask_cong (entry (listed (product 6 M D))) (product 6 M D) (entry_listed (product 6 M D))

      off : (r : ℕ) → r < 6 → row_mask (product 6 (product 6 M D) (transpose D)) r ≡ row_mask M r
      off = mask_cong (product 6 (product 6 M D) (transpose D)) M (taken_off M)

  -- and the product of a pair that cannot be halved cannot be halved either, and is its own least form
  pub least_right : (k : ℕ) (M : Matrix) → Reduced (operator k M) → least_form k (listed (product 6 M D)) ≡ least k (listed (product 6 M D))
  least_right k M r =
      least_reduced k (listed (product 6 M D))
      (record {
        small = λ e. r.small
            (λ i j hi hj.
            let (y, q) = even_times (product 6 M D) (transpose D) (λ r c hr hc. let (x, p) = e r c hr hc in (x, sym (entry_listed (product 6 M D) r c hr hc) ∙ p)) i j hi hj in
            (y, sym (taken_off M i j hi hj) ∙ q));
      })
