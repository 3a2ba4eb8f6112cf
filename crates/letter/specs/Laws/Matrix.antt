-- The matrix of a product of signed permutations, and of a word.
use Rattle.std.specs.Prelude.{◌≡◌, refl, ◌≢◌, Bool, true, false, cond, ◌||◌, List, [], ◌∷◌, ℕ, ◌+◌, ◌<◌, eqb, ℤ, pos, negsuc, neg_ℤ, ◌*ℤ◌, get_or, length}
use Rattle.std.proofs.Common.{sym, ap, ap₂, ◌∙◌, arith, ne_eqb}
use Rattle.std.proofs.Math.IntN.{*ℤ-zero, *ℤ_comm}
use Rattle.matrix.specs.Range.{sum, every, every_from}
use Rattle.matrix.specs.Integer.{equals}
use Rattle.matrix.specs.Matrix.{Same, δ, product}
use Rattle.matrix.specs.Laws.Integer.{equals_eq, *ℤ-unit-r, minus_one-*ℤ}
use Rattle.matrix.specs.Laws.Range.{every_sound}
use Rattle.matrix.specs.Laws.Sum.{sum_only}
use Rattle.matrix.specs.Laws.Matrix.{same_refl, product_cong}
use Rattle.matrix.specs.Operator.{operator, times_operator}
use Rattle.matrix.specs.Laws.Operator.{same_operator_of, same_orthogonal, times_orthogonal}
use Rattle.clifford.specs.Columns.{column_entry, columns_matrix, are_permutation}
use Rattle.clifford.specs.Laws.Columns.{permutation_sound, permutation_complete, columns_orthogonal, orthogonal_permutation}
use Rattle.letter.specs.Composition.{composed}
use Rattle.letter.specs.declared.Gate.{Gate}
use Rattle.letter.specs.declared.Gate.TheVariants.{H1, H2, S1, S2, Cz, Cs}
use Rattle.letter.specs.Gate.{columns, word_matrix, is_cs, number}
use Rattle.letter.specs.Laws.Signed.{Axis, e1, e2, e3, e4, e5, e6, Column, col, Perm, perm, image, turned, apply, times, unit, row_number, axis_at, to_byte, bytes, from_bytes, evaluated, image_times}
use Rattle.letter.specs.Laws.Every.{every_bool, every_axis, every_column, every_column_lem}
use Rattle.letter.specs.Laws.Bytes.{axis_of, below_six, bytes_from, bytes_valid, byte_in, composed_bytes, six}

-- ---- the entries of one column

turned? : ℕ → Column → Bool
turned? i c = equals (column_entry (to_byte (turned false c)) i) (neg_ℤ (column_entry (to_byte c) i))

entry_turned : (c : Column) (i : ℕ) → i < 6 → column_entry (to_byte (turned false c)) i ≡ neg_ℤ (column_entry (to_byte c) i)
unfolding every_from every_column every_axis every_bool turned?
entry_turned c i h = equals_eq _ _ (every_column_lem (turned? i) (every_sound 6 (λ i. every_column (turned? i)) refl i h) c)

other? : ℕ → Column → Bool
other? i c = eqb i (row_number (axis_of c)) || equals (column_entry (to_byte c) i) (pos 0)

entry_other : (c : Column) (i : ℕ) → i < 6 → i ≢ row_number (axis_of c) → column_entry (to_byte c) i ≡ pos 0
unfolding every_from every_column every_axis every_bool other?
entry_other c i h n =
    equals_eq _ _ (rw (ne_eqb i (row_number (axis_of c)) n) at (every_column_lem (other? i) (every_sound 6 (λ i. every_column (other? i)) refl i h) c))

abbrev signed_one : Bool → ℤ
signed_one s = cond s (pos 1) (negsuc 0)

same? : Column → Bool
same? (col s a) = equals (column_entry (to_byte (col s a)) (row_number a)) (signed_one s)

entry_same : (s : Bool) (a : Axis) → column_entry (to_byte (col s a)) (row_number a) ≡ signed_one s
unfolding every_column every_axis every_bool same?
entry_same s a = equals_eq _ _ (every_column_lem same? refl (col s a))

-- ---- columns by their number

axis_lt : (a : Axis) → row_number a < 6
axis_lt e1 = omega arith
axis_lt e2 = omega arith
axis_lt e3 = omega arith
axis_lt e4 = omega arith
axis_lt e5 = omega arith
axis_lt e6 = omega arith

byte_at : (g : Perm) (a : Axis) → get_or (bytes g) (row_number a) 0 ≡ to_byte (image g a)
byte_at (perm a b c d e f) e1 = refl
byte_at (perm a b c d e f) e2 = refl
byte_at (perm a b c d e f) e3 = refl
byte_at (perm a b c d e f) e4 = refl
byte_at (perm a b c d e f) e5 = refl
byte_at (perm a b c d e f) e6 = refl

byte_number : (g : Perm) (k : ℕ) → k < 6 → get_or (bytes g) k 0 ≡ to_byte (image g (axis_at k))
byte_number (perm a b c d e f) = below_six (λ k. get_or (bytes (perm a b c d e f)) k 0 ≡ to_byte (image (perm a b c d e f) (axis_at k))) refl refl refl refl refl refl

-- ---- products

apply_entry : (g : Perm) (c : Column) (i : ℕ) → i < 6
    → sum 6 (λ j. column_entry (get_or (bytes g) j 0) i *ℤ column_entry (to_byte c) j) ≡ column_entry (to_byte (apply g c)) i
apply_entry g (col s a) i h =
    sum_only 6 (row_number a) (λ j. column_entry (get_or (bytes g) j 0) i *ℤ column_entry (to_byte (col s a)) j) (axis_lt a)
    (λ j l n. ap (λ x. column_entry (get_or (bytes g) j 0) i *ℤ x) (entry_other (col s a) j l n) ∙ *ℤ-zero (column_entry (get_or (bytes g) j 0) i))
    ∙ ap₂ (λ b x. column_entry b i *ℤ x) (byte_at g a) (entry_same s a)
    ∙ sign s (image g a)
  where
    sign : (s : Bool) (c : Column) → column_entry (to_byte c) i *ℤ signed_one s ≡ column_entry (to_byte (turned s c)) i
    sign true c = *ℤ-unit-r (column_entry (to_byte c) i)
    sign false c = *ℤ_comm (column_entry (to_byte c) i) (negsuc 0) ∙ minus_one-*ℤ (column_entry (to_byte c) i) ∙ sym (entry_turned c i h)

product_bytes : (g h : Perm) → Same 6 (product 6 (columns_matrix (bytes g)) (columns_matrix (bytes h))) (columns_matrix (bytes (times g h)))
product_bytes g h i k hi hk =
    ap (λ b. sum 6 (λ j. column_entry (get_or (bytes g) j 0) i *ℤ column_entry b j)) (byte_number h k hk)
    ∙ apply_entry g (image h (axis_at k)) i hi
    ∙ ap (λ c. column_entry (to_byte c) i) (sym (image_times g h (axis_at k)))
    ∙ ap (λ b. column_entry b i) (sym (byte_number (times g h) k hk))

composed_of : (bs cs : List ℕ) → are_permutation bs ≡ true → are_permutation cs ≡ true → composed bs cs ≡ bytes (times (from_bytes bs) (from_bytes cs))
composed_of bs cs p q = ap₂ composed (sym (bytes_from bs p)) (sym (bytes_from cs q)) ∙ composed_bytes (from_bytes bs) (from_bytes cs)

pub composed_matrix : (bs cs : List ℕ) → are_permutation bs ≡ true → are_permutation cs ≡ true
    → Same 6 (product 6 (columns_matrix bs) (columns_matrix cs)) (columns_matrix (composed bs cs))
composed_matrix bs cs p q i j hi hj =
    ap₂ (λ x y. product 6 (columns_matrix x) (columns_matrix y) i j) (sym (bytes_from bs p)) (sym (bytes_from cs q))
    ∙ product_bytes (from_bytes bs) (from_bytes cs) i j hi hj
    ∙ ap (λ x. columns_matrix x i j) (sym (composed_of bs cs p q))

pub composed_permutation : (bs cs : List ℕ) → are_permutation bs ≡ true → are_permutation cs ≡ true → are_permutation (composed bs cs) ≡ true
composed_permutation bs cs p q =
    let e = composed_of bs cs p q in
    let l : length (composed bs cs) ≡ 6 = ap length e ∙ six (times (from_bytes bs) (from_bytes cs)) in
    permutation_complete (composed bs cs)
    (orthogonal_permutation (composed bs cs) l
    (λ c hc. byte_in (composed bs cs) (rw e (bytes_valid (times (from_bytes bs) (from_bytes cs)))) c (omega arith))
    (same_orthogonal (same_operator_of (times_operator (operator 0 (columns_matrix bs)) (operator 0 (columns_matrix cs))) (operator 0 (columns_matrix (composed bs cs))) refl (composed_matrix bs cs p q))
    (times_orthogonal (columns_orthogonal bs (permutation_sound bs p)) (columns_orthogonal cs (permutation_sound cs q)))))

-- ---- words

unit? : ℕ → ℕ → Bool
unfolding δ
unit? i j = equals (δ i j) (columns_matrix (bytes unit) i j)

pub unit_matrix : Same 6 δ (columns_matrix (bytes unit))
unfolding every_from unit?
unit_matrix i j hi hj = equals_eq _ _ (every_sound 6 (unit? i) (every_sound 6 (λ i. every 6 (unit? i)) refl i hi) j hj)

gate_bytes : (x : Gate) → is_cs x ≡ false → columns x ≡ bytes (from_bytes (columns x))
gate_bytes H1 n = refl
gate_bytes H2 n = refl
gate_bytes S1 n = refl
gate_bytes S2 n = refl
gate_bytes Cz n = refl
gate_bytes Cs n = cc

pub evaluated_matrix : (w : List Gate) → number is_cs w ≡ 0 → Same 6 (word_matrix w) (columns_matrix (bytes (evaluated w)))
unfolding word_matrix
evaluated_matrix [] n i j hi hj = unit_matrix i j hi hj
evaluated_matrix (x ∷ w) n i j hi hj = go (is_cs x) refl n (evaluated_matrix w)
  where
    go : (t : Bool) → is_cs x ≡ t → cond t 1 0 + number is_cs w ≡ 0 → (number is_cs w ≡ 0 → Same 6 (word_matrix w) (columns_matrix (bytes (evaluated w))))
        → product 6 (columns_matrix (columns x)) (word_matrix w) i j ≡ columns_matrix (bytes (evaluated (x ∷ w))) i j
    go true e n ih = absurd (omega arith)
    go false e n ih =
        ap (λ m. product 6 (columns_matrix m) (word_matrix w) i j) (gate_bytes x e)
        ∙ product_cong (same_refl 6 (columns_matrix (bytes (from_bytes (columns x))))) (ih (omega arith)) i j hi hj
        ∙ product_bytes (from_bytes (columns x)) (evaluated w) i j hi hj
