-- The odd entries of an orthogonal operator (document 01, "The rule of cutting"; source document 001, section 4): how many a row and a column
-- have, how two rows meet, how the rows group, and that some generator fits. For every exponent.
use Rattle.std.specs.Prelude.{◌≡◌, refl, ◌⊎◌, Bool, true, false, not, cond, ◌&&◌, ◌||◌, List, [], ◌∷◌, ℕ, zero, suc, ◌+◌, ◌*◌, ◌%◌, ◌^◌, ◌<◌, ◌≤◌, T, eqb, ℤ, pos, nat_abs, ◌+ℤ◌, ◌*ℤ◌}
use Rattle.std.proofs.Common.{sym, ap, ap₂, ◌∙◌, subst, inl, inr, zero-add, arith, eqb→eq, eq-eqb, ne_eqb, eqb-true}
use Rattle.std.specs.Bool.{beq}
use Rattle.std.specs.Int.Count.{ones}
use Rattle.matrix.specs.Range.{sum, every_from, bits, total, first_from}
use Rattle.matrix.specs.Integer.{parity}
use Rattle.matrix.specs.Matrix.{Matrix, transpose}
use Rattle.matrix.specs.Operator.{operator, Orthogonal, AllEven}
use Rattle.matrix.specs.Array.{row_mask, row_weight}
use Rattle.matrix.specs.Laws.Parity.{parity_add, parity_mul, parity_lt, parity_even}
use Rattle.matrix.specs.Laws.Range.{First, first_found, total_cong, total_some}
use Rattle.matrix.specs.Laws.Operator.{inverse_orthogonal}
use Rattle.matrix.specs.Laws.Array.{mask_ones, equal_masks, norm_total, row_norm, row_other}
use Rattle.residue.specs.Generator.{low, high, fits, first_fit}
use Rattle.residue.specs.Masks.{has_even_row}
use Rattle.grouping.specs.Grouping.{group_size, in_groups_of, is_loose, fitting}
use Rattle.matrix.specs.Laws.Test.{left, right, or_elim, T_true, true_T}
use Rattle.residue.specs.Laws.Generator.{low_six, high_six}
use Rattle.grouping.specs.Laws.Grouping.{Row, row, bit, weight, meet, same_row, beq_sound, same_row_sound, same_row_refl, column, nth, agrees, size, rows_in_groups_of, two_and_four, grouped, has_zero, agreeing, paired, six_of, column_of, none_or_four, not_zero, two}

-- ---- vectors of six numbers

abbrev pub odd : ℤ → Bool
odd z = eqb (parity z) 1

-- the odd entries of a vector as bits
abbrev pub odd_bits : (ℕ → ℤ) → Row
odd_bits v = row (odd (v 0)) (odd (v 1)) (odd (v 2)) (odd (v 3)) (odd (v 4)) (odd (v 5))

bit_odd : (z : ℤ) → bit (odd z) ≡ parity z
bit_odd z = go (parity z) (parity_lt z)
  where
    go : (n : ℕ) → n < 2 → bit (eqb n 1) ≡ n
    go zero h = refl
    go (suc zero) h = refl
    go (suc (suc n)) h = absurd (omega arith)

weight_odd : (v : ℕ → ℤ) → weight (odd_bits v) ≡ parity (v 0) + parity (v 1) + parity (v 2) + parity (v 3) + parity (v 4) + parity (v 5)
weight_odd v = rw (bit_odd (v 0), bit_odd (v 1), bit_odd (v 2), bit_odd (v 3), bit_odd (v 4), bit_odd (v 5))

abbrev pub square : (ℕ → ℤ) → ℕ → ℕ
square v c = nat_abs (v c) * nat_abs (v c)

square_mod_four : (n : ℕ) → (n * n) % 4 ≡ n % 2
square_mod_four zero = refl
square_mod_four (suc zero) = refl
square_mod_four (suc (suc n)) = omega (arith, square_mod_four n)

-- a square leaves its parity, and so does a sum of squares
leaves : (z : ℤ) → (nat_abs z * nat_abs z) % 4 ≡ parity z % 4
unfolding parity
leaves z = omega (arith, square_mod_four (nat_abs z))

leaves_sum : (a b p q : ℕ) → a % 4 ≡ p % 4 → b % 4 ≡ q % 4 → (a + b) % 4 ≡ (p + q) % 4
leaves_sum a b p q e f = omega arith

norm_leaves : (v : ℕ → ℤ) → total (square v) 0 6 % 4 ≡ weight (odd_bits v) % 4
unfolding total
norm_leaves v =
    rw (weight_odd v)
    (leaves_sum _ _ _ _ (leaves (v 0))
    (leaves_sum _ _ _ _ (leaves (v 1)) (leaves_sum _ _ _ _ (leaves (v 2)) (leaves_sum _ _ _ _ (leaves (v 3)) (leaves_sum _ _ _ _ (leaves (v 4)) (leaves_sum _ _ _ _ (leaves (v 5)) refl)))))
    ∙ ap (λ n. n % 4) (rearranged (parity (v 0)) (parity (v 1)) (parity (v 2)) (parity (v 3)) (parity (v 4)) (parity (v 5))))
  where
    rearranged : (a b c d e f : ℕ) → a + (b + (c + (d + (e + (f + 0))))) ≡ a + b + c + d + e + f
    rearranged a b c d e f = omega arith

weight_le : (r : Row) → weight r ≤ 6
weight_le (row a b c d e f) = let p = le a in let q = le b in let s = le c in let t = le d in let u = le e in let w = le f in omega arith
  where
    le : (b : Bool) → bit b ≤ 1
    le true = omega arith
    le false = omega arith

-- "For k of at least 2 the odd entries of a row, as six bits, number none or four"
pub none_or_four_lem : (k : ℕ) (v : ℕ → ℤ) → sum 6 (λ c. v c *ℤ v c) ≡ pos (2 ^ suc (suc k)) → T (none_or_four (odd_bits v))
none_or_four_lem k v e =
    last (weight (odd_bits v)) (sym (norm_leaves v) ∙ ap (λ n. n % 4) (norm_total v (2 ^ suc (suc k)) e) ∙ four (2 ^ k)) (weight_le (odd_bits v))
  where
    four : (n : ℕ) → 2 ^ suc (suc k) % 4 ≡ 0
    four n = omega arith

    last : (w : ℕ) → w % 4 ≡ 0 → w ≤ 6 → T (eqb w 0 || eqb w 4)
    last zero m h = tt
    last (suc zero) m h = absurd (omega arith)
    last (suc (suc zero)) m h = absurd (omega arith)
    last (suc (suc (suc zero))) m h = absurd (omega arith)
    last (suc (suc (suc (suc zero)))) m h = tt
    last (suc (suc (suc (suc (suc w))))) m h = absurd (omega arith)

-- "for k = 1, two"
small_square : (z : ℤ) → nat_abs z * nat_abs z ≤ 2 → nat_abs z * nat_abs z ≡ parity z
unfolding parity
small_square z h = go (nat_abs z) h
  where
    go : (n : ℕ) → n * n ≤ 2 → n * n ≡ n % 2
    go zero h = refl
    go (suc zero) h = refl
    go (suc (suc n)) h = absurd (omega arith)

pub only_two : (v : ℕ → ℤ) → sum 6 (λ c. v c *ℤ v c) ≡ pos 2 → weight (odd_bits v) ≡ 2
unfolding total
only_two v e =
    weight_odd v
    ∙ rw (sym (unit 0 (omega (arith, n))), sym (unit 1 (omega (arith, n))), sym (unit 2 (omega (arith, n))), sym (unit 3 (omega (arith, n))), sym (unit 4 (omega (arith, n))), sym (unit 5 (omega (arith, n)))) (omega (arith, n))
  where
    n : square v 0 + (square v 1 + (square v 2 + (square v 3 + (square v 4 + (square v 5 + 0))))) ≡ 2
    n = norm_total v 2 e

    unit : (c : ℕ) → square v c ≤ 2 → square v c ≡ parity (v c)
    unit c h = small_square (v c) h

-- ---- two vectors

bit_both : (y z : ℤ) → bit (odd y && odd z) ≡ parity (y *ℤ z)
bit_both y z = go (parity y) (parity z) (parity_lt y) (parity_lt z) ∙ sym (parity_mul y z)
  where
    go : (m n : ℕ) → m < 2 → n < 2 → bit (eqb m 1 && eqb n 1) ≡ m * n
    go zero zero h l = refl
    go zero (suc zero) h l = refl
    go (suc zero) zero h l = refl
    go (suc zero) (suc zero) h l = refl
    go zero (suc (suc n)) h l = absurd (omega arith)
    go (suc zero) (suc (suc n)) h l = absurd (omega arith)
    go (suc (suc m)) n h l = absurd (omega arith)

zero_even : parity (pos 0) ≡ 0
unfolding parity
zero_even = refl

more : (x y : ℤ) (n : ℕ) → parity x ≡ n % 2 → parity (x +ℤ y) ≡ (n + parity y) % 2
more x y n e = omega (arith, parity_add x y)

-- two rows whose product is 0 have an even number of places where both are odd
meets_evenly : (u v : ℕ → ℤ) → sum 6 (λ c. u c *ℤ v c) ≡ pos 0 → weight (meet (odd_bits u) (odd_bits v)) % 2 ≡ 0
unfolding sum
meets_evenly u v e =
    rw (bit_both (u 0) (v 0), bit_both (u 1) (v 1), bit_both (u 2) (v 2), bit_both (u 3) (v 3), bit_both (u 4) (v 4), bit_both (u 5) (v 5))
    (sym sums ∙ ap parity e ∙ zero_even)
  where
    p : ℕ → ℤ
    p c = u c *ℤ v c

    sums : parity (((((pos 0 +ℤ p 0 +ℤ p 1) +ℤ p 2) +ℤ p 3) +ℤ p 4) +ℤ p 5) ≡ (parity (p 0) + parity (p 1) + parity (p 2) + parity (p 3) + parity (p 4) + parity (p 5)) % 2
    sums = more _ (p 5) _ (more _ (p 4) _ (more _ (p 3) _ (more _ (p 2) _ (more _ (p 1) _ (more (pos 0) (p 0) 0 zero_even ∙ ap (λ n. n % 2) (zero-add (parity (p 0))))))))

pub meet_le : (r s : Row) → weight (meet r s) ≤ weight r
meet_le (row a b c d e f) (row a' b' c' d' e' f') =
    let p = le a a' in let q = le b b' in let s = le c c' in let t = le d d' in let u = le e e' in let w = le f f' in omega arith
  where
    le : (a b : Bool) → bit (a && b) ≤ bit a
    le true true = omega arith
    le true false = omega arith
    le false b = omega arith

-- ---- the masks and the rows of bits

-- row i of M as bits
abbrev pub odd_row : Matrix → ℕ → Row
odd_row M i = odd_bits (M i)

pub column_odd : (M : Matrix) (c : ℕ) → c < 6 → column_of (odd_row M) c ≡ odd_bits (λ r. M r c)
column_odd M zero h = refl
column_odd M (suc zero) h = refl
column_odd M (suc (suc zero)) h = refl
column_odd M (suc (suc (suc zero))) h = refl
column_odd M (suc (suc (suc (suc zero)))) h = refl
column_odd M (suc (suc (suc (suc (suc zero))))) h = refl
column_odd M (suc (suc (suc (suc (suc (suc c)))))) h = absurd (omega arith)

nth_six : (m : ℕ → Row) (i : ℕ) → i < 6 → nth (six_of m) i ≡ m i
nth_six m zero h = refl
nth_six m (suc zero) h = refl
nth_six m (suc (suc zero)) h = refl
nth_six m (suc (suc (suc zero))) h = refl
nth_six m (suc (suc (suc (suc zero)))) h = refl
nth_six m (suc (suc (suc (suc (suc zero))))) h = refl
nth_six m (suc (suc (suc (suc (suc (suc i)))))) h = absurd (omega arith)

odd_parity : (y z : ℤ) → odd y ≡ odd z → parity y ≡ parity z
odd_parity y z e = sym (bit_odd y) ∙ ap bit e ∙ bit_odd z

-- rows of bits are equal exactly if the masks are
masks_equal : (M : Matrix) (i j : ℕ) → odd_row M i ≡ odd_row M j → row_mask M i ≡ row_mask M j
unfolding row_mask bits
masks_equal M i j e =
    rw (
      odd_parity (M i 0) (M j 0) (ap (column 0) e),
      odd_parity (M i 1) (M j 1) (ap (column 1) e),
      odd_parity (M i 2) (M j 2) (ap (column 2) e),
      odd_parity (M i 3) (M j 3) (ap (column 3) e),
      odd_parity (M i 4) (M j 4) (ap (column 4) e),
      odd_parity (M i 5) (M j 5) (ap (column 5) e),
    )

rows_equal : (M : Matrix) (i j : ℕ) → row_mask M i ≡ row_mask M j → odd_row M i ≡ odd_row M j
rows_equal M i j e =
    rw (
      equal_masks M i j e 0 (omega arith),
      equal_masks M i j e 1 (omega arith),
      equal_masks M i j e 2 (omega arith),
      equal_masks M i j e 3 (omega arith),
      equal_masks M i j e 4 (omega arith),
      equal_masks M i j e 5 (omega arith),
    )

-- the two tests of equality are one
same_tests : (M : Matrix) (i j : ℕ) → same_row (odd_row M i) (odd_row M j) ≡ eqb (row_mask M i) (row_mask M j)
same_tests M i j = go (same_row (odd_row M i) (odd_row M j)) refl
  where
    go : (t : Bool) → same_row (odd_row M i) (odd_row M j) ≡ t → t ≡ eqb (row_mask M i) (row_mask M j)
    go true e = sym (eq-eqb _ _ (masks_equal M i j (same_row_sound (odd_row M i) (odd_row M j) (true_T e))))
    go false e = sym (ne_eqb _ _ (λ m. subst T (sym (T_true _ (subst (λ r. T (same_row (odd_row M i) r)) (rows_equal M i j m) (same_row_refl (odd_row M i)))) ∙ e) tt))

-- so is what the rows of bits say of a generator and of the groups
fits_is : (M : Matrix) (g : ℕ) → 1 ≤ g → g ≤ 15 → agrees (six_of (odd_row M)) g ≡ fits (row_mask M) g
unfolding agrees fits every_from
fits_is M g l u = rw (at 0 (omega arith), at 1 (omega arith), at 2 (omega arith))
  where
    at : (p : ℕ) → p < 3 → same_row (nth (six_of (odd_row M)) (low g p)) (nth (six_of (odd_row M)) (high g p)) ≡ eqb (row_mask M (low g p)) (row_mask M (high g p))
    at p h = ap₂ same_row (nth_six (odd_row M) (low g p) (low_six g l u p h)) (nth_six (odd_row M) (high g p) (high_six g l u p h)) ∙ same_tests M (low g p) (high g p)

fitting_is : (M : Matrix) → agreeing (six_of (odd_row M)) ≡ fitting (row_mask M)
unfolding fitting
fitting_is M = total_cong 1 15 (λ g l u. ap bit (fits_is M g l (omega arith)))

size_is : (M : Matrix) (r : ℕ) → size (odd_row M r) (six_of (odd_row M)) ≡ group_size (row_mask M) r
unfolding group_size total
size_is M r = rw (same_tests M 0 r, same_tests M 1 r, same_tests M 2 r, same_tests M 3 r, same_tests M 4 r, same_tests M 5 r)

in_groups_is : (M : Matrix) (n : ℕ) → rows_in_groups_of n (six_of (odd_row M)) (six_of (odd_row M)) ≡ in_groups_of n (row_mask M)
unfolding in_groups_of total
in_groups_is M n = rw (size_is M 0, size_is M 1, size_is M 2, size_is M 3, size_is M 4, size_is M 5)

-- a row of bits weighs what the row has odd entries, and what its mask has bits
weight_is : (M : Matrix) (i : ℕ) → weight (odd_row M i) ≡ row_weight M i
unfolding row_weight total
weight_is M i = let e = weight_odd (M i) in omega arith

weight_ones : (M : Matrix) (i : ℕ) → weight (odd_row M i) ≡ ones (row_mask M i)
weight_ones M i = weight_is M i ∙ sym (mask_ones M i)

zero_row_is : (M : Matrix) → has_zero (six_of (odd_row M)) ≡ has_even_row (row_mask M)
unfolding has_even_row first_from
zero_row_is M = rw (weight_ones M 0, weight_ones M 1, weight_ones M 2, weight_ones M 3, weight_ones M 4, weight_ones M 5)

-- ---- the theorem

-- how rows group by the numbers f, and that a generator fits
pub record Grouped (f : ℕ → ℕ) : Type 0 where
  -- "Rows with equal bits group as 2, 2, 2 or as 2 and 4"
  pub groups : (in_groups_of 2 f ≡ 6) ⊎ ((in_groups_of 2 f ≡ 2) × (in_groups_of 4 f ≡ 4))
  -- as 2 and 4 exactly if some row has no odd entry
  pub loose : is_loose f ≡ has_even_row f
  -- then three generators fit, and else one
  pub choices : fitting f ≡ cond (is_loose f) 3 1
  -- "the lowest-numbered generator whose every pair lies inside a group"
  pub fit : First (fits f) 1 16 (first_fit f)

-- three or one is some
fits_some : (f : ℕ → ℕ) (t : Bool) → fitting f ≡ cond t 3 1 → (g : ℕ) × (1 ≤ g) × (g < 1 + 15) × (fits f g ≡ true)
unfolding fitting
fits_some f true e = total_some (fits f) 1 15 (omega arith)
fits_some f false e = total_some (fits f) 1 15 (omega arith)

pub grouped_of : (M : Matrix) → T (paired (six_of (odd_row M))) → Grouped (row_mask M)
unfolding paired grouped first_fit is_loose
grouped_of M t =
    let m = six_of (odd_row M) in
    let free = right (grouped m) _ t in
    let is_loose_lem : two_and_four m ≡ is_loose (row_mask M) = rw (in_groups_is M 2, in_groups_is M 4) in
    let count = sym (fitting_is M) ∙ eqb→eq _ _ (right (beq (two_and_four m) (has_zero m)) _ free) in
    let (g, from, below, holds) = fits_some (row_mask M) (two_and_four m) count in
    record {
      groups = or_elim (eqb (rows_in_groups_of 2 m m) 6) _ _ (left (grouped m) _ t)
          (λ a. inl (sym (in_groups_is M 2) ∙ eqb→eq _ _ a))
          (λ a. inr (sym (in_groups_is M 2) ∙ eqb→eq _ _ (left (eqb (rows_in_groups_of 2 m m) 2) _ a), sym (in_groups_is M 4) ∙ eqb→eq _ _ (right (eqb (rows_in_groups_of 2 m m) 2) _ a)));
      loose = sym is_loose_lem ∙ beq_sound (two_and_four m) (has_zero m) (left (beq (two_and_four m) (has_zero m)) _ free) ∙ zero_row_is M;
      choices = count ∙ ap (λ t. cond t 3 1) is_loose_lem;
      fit = first_found (fits (row_mask M)) 1 15 g holds from below;
    }

pub column_norm : (k : ℕ) (M : Matrix) → Orthogonal (operator k M) → (c : ℕ) → c < 6 → sum 6 (λ r. M r c *ℤ M r c) ≡ pos (2 ^ k)
column_norm k M o c h = row_norm k (transpose M) (inverse_orthogonal o) c h

pub row_meets : (k : ℕ) (M : Matrix) → Orthogonal (operator k M) → (i j : ℕ) → i < j → j < 6 → weight (meet (odd_row M i) (odd_row M j)) % 2 ≡ 0
row_meets k M o i j l h = meets_evenly (M i) (M j) (row_other k M o i j (omega arith) h (omega arith))

-- "For k of at least 2 the odd entries of a row, as six bits, number none or four; for k = 1, two", and of a column
pub row_weight_four : (k : ℕ) (M : Matrix) → Orthogonal (operator (suc (suc k)) M) → (i : ℕ) → i < 6 → (row_weight M i ≡ 0) ⊎ (row_weight M i ≡ 4)
row_weight_four k M o i h =
    or_elim (eqb (weight (odd_row M i)) 0) _ _ (none_or_four_lem k (M i) (row_norm (suc (suc k)) M o i h))
    (λ t. inl (sym (weight_is M i) ∙ eqb→eq _ _ t)) (λ t. inr (sym (weight_is M i) ∙ eqb→eq _ _ t))

pub row_weight_two : (M : Matrix) → Orthogonal (operator 1 M) → (i : ℕ) → i < 6 → row_weight M i ≡ 2
row_weight_two M o i h = sym (weight_is M i) ∙ only_two (M i) (row_norm 1 M o i h)

-- two rows share an even number of odd places
pub rows_meet : (k : ℕ) (M : Matrix) → Orthogonal (operator k M) → (i j : ℕ) → i < j → j < 6 → total (λ c. parity (M i c *ℤ M j c)) 0 6 % 2 ≡ 0
unfolding total
rows_meet k M o i j l h =
    let e : weight (meet (odd_row M i) (odd_row M j)) ≡ parity (M i 0 *ℤ M j 0) + parity (M i 1 *ℤ M j 1) + parity (M i 2 *ℤ M j 2) + parity (M i 3 *ℤ M j 3) + parity (M i 4 *ℤ M j 4) + parity (M i 5 *ℤ M j 5) =
    rw (bit_both (M i 0) (M j 0), bit_both (M i 1) (M j 1), bit_both (M i 2) (M j 2), bit_both (M i 3) (M j 3), bit_both (M i 4) (M j 4), bit_both (M i 5) (M j 5)) in
    let m = row_meets k M o i j l h in
    go _ _ _ _ _ _ (ap (λ n. n % 2) (sym e) ∙ m)
  where
    go : (a b c d e f : ℕ) → (a + b + c + d + e + f) % 2 ≡ 0 → (a + (b + (c + (d + (e + (f + 0)))))) % 2 ≡ 0
    go a b c d e f h = let s : a + (b + (c + (d + (e + (f + 0))))) ≡ a + b + c + d + e + f = omega arith in rw s h

-- a matrix whose rows of bits are all zero is even
neither : (a b : Bool) → (not a || b) ≡ false → (a ≡ true) × (b ≡ false)
neither true b e = (refl, e)
neither false b e = absurd (subst T e tt)

zero_rows : (m : List Row) → not_zero m ≡ false → (i : ℕ) → weight (nth m i) ≡ 0
zero_rows [] e i = refl
zero_rows (r ∷ rs) e zero = eqb-true _ _ (neither (eqb (weight r) 0) (not_zero rs) e).0
zero_rows (r ∷ rs) e (suc i) = zero_rows rs (neither (eqb (weight r) 0) (not_zero rs) e).1 i

zero_bits : (v : ℕ → ℤ) → weight (odd_bits v) ≡ 0 → (c : ℕ) → c < 6 → parity (v c) ≡ 0
zero_bits v e zero h = omega (arith, weight_odd v)
zero_bits v e (suc zero) h = omega (arith, weight_odd v)
zero_bits v e (suc (suc zero)) h = omega (arith, weight_odd v)
zero_bits v e (suc (suc (suc zero))) h = omega (arith, weight_odd v)
zero_bits v e (suc (suc (suc (suc zero)))) h = omega (arith, weight_odd v)
zero_bits v e (suc (suc (suc (suc (suc zero))))) h = omega (arith, weight_odd v)
zero_bits v e (suc (suc (suc (suc (suc (suc c)))))) h = absurd (omega arith)

pub all_zero : (M : Matrix) → not_zero (six_of (odd_row M)) ≡ false → AllEven M
all_zero M e i j hi hj =
    parity_even (M i j) (zero_bits (M i) (ap weight (sym (nth_six (odd_row M) i hi)) ∙ zero_rows (six_of (odd_row M)) e i) j hj)
