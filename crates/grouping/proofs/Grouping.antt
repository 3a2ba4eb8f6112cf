-- How the rows of a reduced orthogonal operator group, for every exponent: the theorems that rest on the enumeration of six rows.
use Rattle.std.specs.Prelude.{◌≡◌, refl, ◌↔◌, Bool, true, false, ◌||◌, ℕ, zero, suc, ◌%◌, ◌<◌, ◌≤◌, T, eqb, ℤ, pos, ◌*ℤ◌}
use Rattle.std.proofs.Common.{sym, ◌∙◌, subst, arith, eq-eqb, eqb-true}
use Rattle.std.proofs.Math.Bool.{cond}
use Rattle.std.specs.Int.Count.{ones}
use Rattle.matrix.specs.Range.{sum}
use Rattle.matrix.specs.Matrix.{Matrix}
use Rattle.matrix.specs.Operator.{operator, Orthogonal, Reduced}
use Rattle.matrix.specs.Array.{row_mask, row_weight}
use Rattle.matrix.specs.Laws.Range.{some_sound, some_complete}
use Rattle.matrix.specs.Laws.Array.{mask_ones, row_norm}
use Rattle.matrix.specs.Laws.Test.{imp_sound, true_T}
use Rattle.residue.specs.Masks.{has_even_row}
use Rattle.grouping.specs.Grouping.{is_loose, fitting}
use Rattle.grouping.specs.Laws.Grouping.{Row, weight, meet, paired, six_of, column_of, none_or_four, meet_evenly, not_zero, two, meet_in_two_or_none, shape4, run4, rows4, columns_of, enumerated, grouping_two}
use Rattle.grouping.specs.Laws.Residue.{Grouped, odd_bits, odd_row, only_two, none_or_four_lem, meet_le, column_odd, column_norm, row_meets, row_weight_two, all_zero, grouped_of}

-- for k of at least 2, of six rows of bits
pub grouping_four : (m : ℕ → Row) → ((i : ℕ) → i < 6 → T (none_or_four (m i))) → ((i j : ℕ) → i < j → j < 6 → T (meet_evenly (m i) (m j)))
    → ((c : ℕ) → c < 6 → T (none_or_four (column_of m c))) → T (not_zero (six_of m)) → T (paired (six_of m))
unfolding shape4
grouping_four m a e c n = imp_sound (not_zero (six_of m)) (paired (six_of m)) (enumerated shape4 run4 rows4 m a e (columns_of none_or_four m c)) n

-- the rows of a reduced orthogonal operator, of every exponent
pub grouped_rows : (k : ℕ) (M : Matrix) → Orthogonal (operator (suc k) M) → Reduced (operator (suc k) M) → Grouped (row_mask M)
grouped_rows zero M o r =
    grouped_of M
    (grouping_two (odd_row M) (λ i h. is_two (M i) (row_norm 1 M o i h)) (λ i j l h. meet_two i j l h)
    (λ c h. subst (λ x. T (two x)) (sym (column_odd M c h)) (is_two (λ r. M r c) (column_norm 1 M o c h))))
  where
    is_two : (v : ℕ → ℤ) → sum 6 (λ c. v c *ℤ v c) ≡ pos 2 → T (two (odd_bits v))
    is_two v e = true_T (eq-eqb _ _ (only_two v e))

    meet_two : (i j : ℕ) → i < j → j < 6 → T (meet_in_two_or_none (odd_row M i) (odd_row M j))
    meet_two i j l h =
        last (weight (meet (odd_row M i) (odd_row M j))) (row_meets 1 M o i j l h)
        (subst (λ n. weight (meet (odd_row M i) (odd_row M j)) ≤ n) (only_two (M i) (row_norm 1 M o i (omega arith))) (meet_le (odd_row M i) (odd_row M j)))
      where
        last : (w : ℕ) → w % 2 ≡ 0 → w ≤ 2 → T (eqb w 0 || eqb w 2)
        last zero m h = tt
        last (suc zero) m h = absurd (omega arith)
        last (suc (suc zero)) m h = tt
        last (suc (suc (suc w))) m h = absurd (omega arith)
grouped_rows (suc k) M o r =
    grouped_of M
    (grouping_four (odd_row M) (λ i h. none_or_four_lem k (M i) (row_norm (suc (suc k)) M o i h)) (λ i j l h. true_T (eq-eqb _ _ (row_meets (suc (suc k)) M o i j l h)))
    (λ c h. subst (λ x. T (none_or_four x)) (sym (column_odd M c h)) (none_or_four_lem k (λ r. M r c) (column_norm (suc (suc k)) M o c h)))
    (go (not_zero (six_of (odd_row M))) refl))
  where
    go : (t : Bool) → not_zero (six_of (odd_row M)) ≡ t → T t
    go true e = tt
    go false e = let small : suc (suc k) ≤ 1 = r.small (all_zero M e) in absurd (omega arith)

-- the rows of a reduced orthogonal operator of exponent 1 or more group as 2 and 4 exactly if some row has no odd entry
pub loose_even_row : (k : ℕ) (M : Matrix) → Orthogonal (operator (suc k) M) → Reduced (operator (suc k) M) → (is_loose (row_mask M) ≡ true) ↔ ((i : ℕ) × (i < 6) × (row_weight M i ≡ 0))
unfolding has_even_row
loose_even_row k M o r =
    let e = (grouped_rows k M o r).loose in (
      λ t. let (i, h, w) = some_sound 6 (λ i. eqb (ones (row_mask M i)) 0) (sym e ∙ t) in (i, h, sym (mask_ones M i) ∙ eqb-true _ _ w),
      λ (i, h, w). e ∙ some_complete 6 (λ i. eqb (ones (row_mask M i)) 0) i h (eq-eqb _ _ (mask_ones M i ∙ w)),
    )

-- then three generators fit; any other cut is forced, for one alone fits it
pub choices : (k : ℕ) (M : Matrix) → Orthogonal (operator (suc k) M) → Reduced (operator (suc k) M) → fitting (row_mask M) ≡ cond (is_loose (row_mask M)) 3 1
choices k M o r = (grouped_rows k M o r).choices

-- for k = 1 no row has none: the last cut is forced
pub forced_at_one : (M : Matrix) → Orthogonal (operator 1 M) → is_loose (row_mask M) ≡ false
forced_at_one M o = go (is_loose (row_mask M)) refl
  where
    go : (t : Bool) → is_loose (row_mask M) ≡ t → t ≡ false
    go false e = refl
    go true e = let (i, h, w) = (loose_even_row 0 M o (record { small = λ _. omega arith })).0 e in let two = row_weight_two M o i h in absurd (omega arith)
