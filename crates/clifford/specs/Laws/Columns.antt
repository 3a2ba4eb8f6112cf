-- Column bytes and the matrices that they stand for: a signed permutation is exactly an orthogonal operator of exponent 0, and its six bytes
-- are its own.
use Rattle.std.proofs.Math.Path.{◌≡◌, ap}
use Rattle.std.specs.Prelude.{refl, ◌≢◌, ◌⊎◌, true, false, cond, ◌&&◌, List, [], ◌∷◌, map, eqb, leb, ℤ, ◌*ℤ◌, length, get_or}
use Rattle.std.proofs.Common.{sym, ap₂, ◌∙◌, subst, inl, inr, ⊎_elim, zero-add, eqb→eq, leb→le, ext_get_or, eq-eqb, ne_eqb, le-leb}
use Rattle.std.proofs.Math.Bool.{Bool, not}
use Prim.Native.Nat.{ℕ, zero, suc, ◌+◌, ◌*◌, ◌-◌, ◌<◌, ◌≤◌}
use native.Mathlib.Omega.{arith}
use Rattle.std.proofs.Math.Decide.{ℕ_discrete, dec_lt}
use Rattle.std.proofs.Math.Dec.{T}
use Rattle.std.proofs.Math.IntN.{pos, negsuc, nat_abs, *ℤ-zero, zero-*ℤ, pos-ne-negsuc}
use Rattle.std.proofs.lemmas.List.{length-map}
use Rattle.std.proofs.Math.ListN.{get_or-map}
use Rattle.std.proofs.lemmas.Bool.{eqb-false, lt-leb, not-true}
use Rattle.matrix.specs.Range.{sum, total}
use Rattle.matrix.specs.Integer.{equals}
use Rattle.matrix.specs.Matrix.{Matrix, Same, δ, transpose, OrthogonalRows}
use Rattle.matrix.specs.Operator.{operator, Orthogonal, Proper}
use Rattle.matrix.specs.Laws.Test.{left, right, or_elim, and_left, and_right, T_true, true_T}
use Rattle.matrix.specs.Laws.Integer.{pos_nz, *ℤ-unit-r, equals_yes, equals_no, prodℤ}
use Rattle.matrix.specs.Laws.Sum.{sum_cong, sum_only, δ_same, δ_other, sum_δ}
use Rattle.matrix.specs.Laws.Range.{first_found, get_d_tabulate, tabulate_is, length_tabulate}
use Rattle.matrix.specs.Laws.Matrix.{orthogonal_columns}
use Rattle.matrix.specs.Laws.Operator.{inverse_orthogonal}
use Rattle.matrix.specs.Laws.Array.{norm_total, row_norm, row_other}
use Rattle.clifford.specs.Columns.{column_entry, columns_matrix, is_column_byte, row_of, is_minus, differs, different, are_column_bytes, are_permutation, column_row, column_byte, column_bytes, OneUnit, Clifford}

-- ---- one byte

-- the entry of a column's byte
abbrev pub entry_of : ℕ → ℤ
entry_of b = cond (is_minus b) (negsuc 0) (pos 1)

-- what a column byte is
pub byte_cases : (b : ℕ) → is_column_byte b ≡ true → ((1 ≤ b) × (b ≤ 6)) ⊎ ((129 ≤ b) × (b ≤ 134))
byte_cases b e =
    or_elim (leb 1 b && leb b 6) (leb 129 b && leb b 134) _ (true_T e)
    (λ t. inl (leb→le 1 b (left (leb 1 b) _ t), leb→le b 6 (right (leb 1 b) _ t)))
    (λ t. inr (leb→le 129 b (left (leb 129 b) _ t), leb→le b 134 (right (leb 129 b) _ t)))

module _ (b : ℕ) (l : 1 ≤ b) (u : b ≤ 6) where
  small_row : row_of b ≡ b - 1
  small_row = rw (le-leb b 128 (omega arith))

  small_minus : is_minus b ≡ false
  small_minus = lt-leb 129 b (omega arith)

module _ (b : ℕ) (l : 129 ≤ b) (u : b ≤ 134) where
  large_row : row_of b ≡ b - 129
  large_row = rw (lt-leb b 128 (omega arith))

  large_minus : is_minus b ≡ true
  large_minus = le-leb 129 b l

pub row_lt : (b : ℕ) → is_column_byte b ≡ true → row_of b < 6
row_lt b e = ⊎_elim (λ (l, u). rw (small_row b l u) (omega arith)) (λ (l, u). rw (large_row b l u) (omega arith)) (byte_cases b e)

-- the byte is given by its row and its entry
pub byte_is : (b : ℕ) → is_column_byte b ≡ true → b ≡ row_of b + cond (is_minus b) 129 1
byte_is b e =
    ⊎_elim (λ (l, u). rw (small_row b l u, small_minus b l u) (omega arith)) (λ (l, u). rw (large_row b l u, large_minus b l u) (omega arith)) (byte_cases b e)

pub column_entry_lem : (b : ℕ) → is_column_byte b ≡ true → (r : ℕ) → r < 6 → column_entry b r ≡ entry_of b *ℤ δ r (row_of b)
column_entry_lem b e r h = ⊎_elim small large (byte_cases b e)
  where
    small : (1 ≤ b) × (b ≤ 6) → column_entry b r ≡ entry_of b *ℤ δ r (row_of b)
    small (l, u) = elim (ℕ_discrete r (b - 1)) [
      | yes q ↦ rw (eq-eqb b (r + 1) (omega arith), small_minus b l u, small_row b l u, q, δ_same (b - 1))
      | no q ↦ rw (ne_eqb b (r + 1) (omega arith), ne_eqb b (r + 129) (omega arith), small_minus b l u, small_row b l u, δ_other r (b - 1) q)
    ]

    large : (129 ≤ b) × (b ≤ 134) → column_entry b r ≡ entry_of b *ℤ δ r (row_of b)
    large (l, u) = elim (ℕ_discrete r (b - 129)) [
      | yes q ↦ rw (ne_eqb b (r + 1) (omega arith), eq-eqb b (r + 129) (omega arith), large_minus b l u, large_row b l u, q, δ_same (b - 129))
      | no q ↦ rw (ne_eqb b (r + 1) (omega arith), ne_eqb b (r + 129) (omega arith), large_minus b l u, large_row b l u, δ_other r (b - 129) q)
    ]

-- the product of two columns
bytes_product : (b b' : ℕ) → is_column_byte b ≡ true → is_column_byte b' ≡ true → sum 6 (λ r. column_entry b r *ℤ column_entry b' r) ≡ entry_of b *ℤ (entry_of b' *ℤ δ (row_of b) (row_of b'))
bytes_product b b' p q =
    sum_cong (λ r hr. ap₂ (λ x y. x *ℤ y) (column_entry_lem b p r hr) (column_entry_lem b' q r hr) ∙ move (entry_of b) (δ r (row_of b)) (entry_of b') (δ r (row_of b')))
    ∙ sum_δ 6 (row_of b) (λ r. entry_of b *ℤ (entry_of b' *ℤ δ r (row_of b'))) (row_lt b p)
  where
    move : (a x b y : ℤ) → a *ℤ x *ℤ (b *ℤ y) ≡ x *ℤ (a *ℤ (b *ℤ y))
    move a x b y = simp prodℤ

-- ---- six bytes

differs_sound : (r : ℕ) (ss : List ℕ) → differs r ss ≡ true → (i : ℕ) → i < length ss → get_or ss i 0 ≢ r
differs_sound r [] e i h = absurd (omega arith)
differs_sound r (s ∷ ss) e zero h = λ z. eqb-false r s (not-true (eqb r s) (T_true _ (left (not (eqb r s)) _ (true_T e)))) (sym z)
differs_sound r (s ∷ ss) e (suc i) h = differs_sound r ss (T_true _ (right (not (eqb r s)) _ (true_T e))) i (omega arith)

different_sound : (rs : List ℕ) → different rs ≡ true → (i j : ℕ) → i < j → j < length rs → get_or rs j 0 ≢ get_or rs i 0
different_sound [] e i j l h = absurd (omega arith)
different_sound (r ∷ rs) e zero zero l h = absurd (omega arith)
different_sound (r ∷ rs) e zero (suc j) l h = differs_sound r rs (T_true _ (left (differs r rs) _ (true_T e))) j (omega arith)
different_sound (r ∷ rs) e (suc i) zero l h = absurd (omega arith)
different_sound (r ∷ rs) e (suc i) (suc j) l h = different_sound rs (T_true _ (right (differs r rs) _ (true_T e))) i j (omega arith) (omega arith)

differs_complete : (r : ℕ) (ss : List ℕ) → ((i : ℕ) → i < length ss → get_or ss i 0 ≢ r) → differs r ss ≡ true
differs_complete r [] h = refl
differs_complete r (s ∷ ss) h = rw (ne_eqb r s (λ z. h 0 (omega arith) (sym z))) (differs_complete r ss (λ i l. h (suc i) (omega arith)))

different_complete : (rs : List ℕ) → ((i j : ℕ) → i < j → j < length rs → get_or rs j 0 ≢ get_or rs i 0) → different rs ≡ true
different_complete [] h = refl
different_complete (r ∷ rs) h =
    rw (differs_complete r rs (λ i l. h 0 (suc i) (omega arith) (omega arith)))
    (different_complete rs (λ i j l u. h (suc i) (suc j) (omega arith) (omega arith)))

bytes_sound : (bs : List ℕ) → are_column_bytes bs ≡ true → (i : ℕ) → i < length bs → is_column_byte (get_or bs i 0) ≡ true
bytes_sound [] e i h = absurd (omega arith)
bytes_sound (b ∷ bs) e zero h = T_true _ (left (is_column_byte b) _ (true_T e))
bytes_sound (b ∷ bs) e (suc i) h = bytes_sound bs (T_true _ (right (is_column_byte b) _ (true_T e))) i (omega arith)

bytes_complete : (bs : List ℕ) → ((i : ℕ) → i < length bs → is_column_byte (get_or bs i 0) ≡ true) → are_column_bytes bs ≡ true
bytes_complete [] h = refl
bytes_complete (b ∷ bs) h = rw (h 0 (omega arith)) (bytes_complete bs (λ i l. h (suc i) (omega arith)))

-- six column bytes of different rows
pub record Permutation (bs : List ℕ) : Type 0 where
  pub long : length bs ≡ 6
  pub bytes : (c : ℕ) → c < 6 → is_column_byte (get_or bs c 0) ≡ true
  pub rows : (c d : ℕ) → c < d → d < 6 → row_of (get_or bs d 0) ≢ row_of (get_or bs c 0)

row_at_lem : (bs : List ℕ) (c : ℕ) → get_or (map row_of bs) c 0 ≡ row_of (get_or bs c 0)
row_at_lem bs c = get_or-map row_of bs c 0

pub permutation_sound : (bs : List ℕ) → are_permutation bs ≡ true → Permutation bs
unfolding are_permutation
permutation_sound bs e =
    let six : length bs ≡ 6 = eqb→eq (length bs) 6 (left (eqb (length bs) 6) _ (true_T e)) in
    let rest = right (eqb (length bs) 6) _ (true_T e) in
    record {
      long = six;
      bytes = λ c h. bytes_sound bs (T_true _ (left (are_column_bytes bs) _ rest)) c (omega arith);
      rows = λ c d l h z. different_sound (map row_of bs) (T_true _ (right (are_column_bytes bs) _ rest)) c d l (rw (length-map bs row_of) (omega arith)) (row_at_lem bs d ∙ z ∙ sym (row_at_lem bs c));
    }

pub rows_different : (bs : List ℕ) → Permutation bs → different (map row_of bs) ≡ true
rows_different bs p =
    let six = p.long in
    different_complete (map row_of bs)
    (λ i j l h z. p.rows i j l (let k : j < length bs = rw length-map at h in omega arith) (sym (row_at_lem bs j) ∙ z ∙ row_at_lem bs i))

pub permutation_complete : (bs : List ℕ) → Permutation bs → are_permutation bs ≡ true
unfolding are_permutation
permutation_complete bs p =
    let six = p.long in
    rw (
      eq-eqb (length bs) 6 six,
      bytes_complete bs (λ i h. p.bytes i (omega arith)),
      rows_different bs p,
    )

pub columns_valid : (bs : List ℕ) → are_permutation bs ≡ true → are_column_bytes bs ≡ true
unfolding are_permutation
columns_valid bs p = and_left (are_column_bytes bs) _ (and_right (eqb (length bs) 6) _ p)

-- ---- the matrix of six bytes

abbrev pub signed_matrix : List ℕ → Matrix
signed_matrix bs r c = entry_of (get_or bs c 0) *ℤ δ r (row_of (get_or bs c 0))

pub columns_signed : (bs : List ℕ) → Permutation bs → Same 6 (columns_matrix bs) (signed_matrix bs)
columns_signed bs p r c hr hc = column_entry_lem (get_or bs c 0) (p.bytes c hc) r hr

entry_square : (b : ℕ) → entry_of b *ℤ entry_of b ≡ pos 1
entry_square b = go (is_minus b)
  where
    go : (t : Bool) → cond t (negsuc 0) (pos 1) *ℤ cond t (negsuc 0) (pos 1) ≡ pos 1
    go true = refl
    go false = refl

pub columns_orthogonal : (bs : List ℕ) → Permutation bs → Orthogonal (operator 0 (columns_matrix bs))
columns_orthogonal bs p = record { rows = orthogonal_columns 6 (pos 1) (transpose (columns_matrix bs)) turned }
  where
    other : (c d : ℕ) → c < 6 → d < 6 → c ≢ d → row_of (get_or bs c 0) ≢ row_of (get_or bs d 0)
    other c d hc hd w = elim (dec_lt c d) [ yes l ↦ λ z. p.rows c d l hd (sym z) | no l ↦ λ z. p.rows d c (omega arith) hc z ]

    turned : OrthogonalRows 6 (pos 1) (transpose (columns_matrix bs))
    turned c d hc hd = bytes_product (get_or bs c 0) (get_or bs d 0) (p.bytes c hc) (p.bytes d hd) ∙ elim (ℕ_discrete c d) [
      | yes e ↦ rw (e, δ_same (row_of (get_or bs d 0)), δ_same d) (ap (λ x. entry_of (get_or bs d 0) *ℤ x) (*ℤ-unit-r (entry_of (get_or bs d 0))) ∙ entry_square (get_or bs d 0))
      | no w ↦ rw (δ_other (row_of (get_or bs c 0)) (row_of (get_or bs d 0)) (other c d hc hd w), δ_other c d w) (ap (λ x. entry_of (get_or bs c 0) *ℤ x) (*ℤ-zero (entry_of (get_or bs d 0))) ∙ *ℤ-zero (entry_of (get_or bs c 0)))
    ]

-- ---- the bytes of a matrix of exponent 0

none_of : (q : ℕ → ℕ) (a k : ℕ) → total q a k ≡ 0 → (s : ℕ) → a ≤ s → s < a + k → q s ≡ 0
unfolding total
none_of q a zero e s l u = absurd (omega arith)
none_of q a (suc k) e s l u = elim (ℕ_discrete a s) [
  | yes d ↦ rw (sym d) (omega arith)
  | no d ↦ none_of q (suc a) k (omega arith) s (omega arith) (omega arith)
]

-- natural numbers whose sum is 1: one of them is 1, the others are 0
one_of : (q : ℕ → ℕ) (a k : ℕ) → total q a k ≡ 1 → (r : ℕ) × (a ≤ r) × (r < a + k) × (q r ≡ 1) × ((s : ℕ) → a ≤ s → s < a + k → s ≢ r → q s ≡ 0)
unfolding total
one_of q a zero e = absurd (omega arith)
one_of q a (suc k) e = go (q a) refl (one_of q (suc a) k)
  where
    Out : Type 0
    Out = (r : ℕ) × (a ≤ r) × (r < a + suc k) × (q r ≡ 1) × ((s : ℕ) → a ≤ s → s < a + suc k → s ≢ r → q s ≡ 0)

    go : (x : ℕ) → q a ≡ x → (total q (suc a) k ≡ 1 → (r : ℕ) × (suc a ≤ r) × (r < suc a + k) × (q r ≡ 1) × ((s : ℕ) → suc a ≤ s → s < suc a + k → s ≢ r → q s ≡ 0)) → Out
    go zero p rec =
        let (r, l, u, h, o) = rec (omega arith) in
        (r, omega arith, omega arith, h, λ s x y w. elim (ℕ_discrete a s) [ yes d ↦ rw (sym d) p | no d ↦ o s (omega arith) (omega arith) w ])
    go (suc x) p rec =
        let z : total q (suc a) k ≡ 0 = omega arith in
        (a, omega arith, omega arith, omega arith, λ s l u w. none_of q (suc a) k z s (omega arith) (omega arith))

-- a byte that is made of a row and a sign
module _ (r : ℕ) (h : r < 6) where
  plus_byte : (is_column_byte (r + 1) ≡ true) × (row_of (r + 1) ≡ r) × (entry_of (r + 1) ≡ pos 1)
  plus_byte =
      (rw (le-leb 1 (r + 1) (omega arith), le-leb (r + 1) 6 (omega arith)), small_row (r + 1) (omega arith) (omega arith) ∙ omega arith, rw (small_minus (r + 1) (omega arith) (omega arith)))

  minus_byte : (is_column_byte (r + 129) ≡ true) × (row_of (r + 129) ≡ r) × (entry_of (r + 129) ≡ negsuc 0)
  minus_byte =
      (rw (le-leb 1 (r + 129) (omega arith), lt-leb (r + 129) 6 (omega arith), le-leb 129 (r + 129) (omega arith), le-leb (r + 129) 134 (omega arith)), large_row (r + 129) (omega arith) (omega arith) ∙ omega arith, rw (large_minus (r + 129) (omega arith) (omega arith)))

unit : (z : ℤ) → nat_abs z * nat_abs z ≡ 1 → (z ≡ pos 1) ⊎ (z ≡ negsuc 0)
unit (pos zero) e = absurd (omega arith)
unit (pos (suc zero)) e = inl refl
unit (pos (suc (suc n))) e = absurd (omega arith)
unit (negsuc zero) e = inr refl
unit (negsuc (suc n)) e = absurd (omega arith)

byte_at : (M : Matrix) (c : ℕ) → c < 6 → get_or (column_bytes M) c 0 ≡ column_byte M c
byte_at M c h = get_d_tabulate (column_byte M) 0 6 c 0 h ∙ ap (column_byte M) (zero-add c)

-- a vector of square norm 1
norm_unit : (v : ℕ → ℤ) → sum 6 (λ c. v c *ℤ v c) ≡ pos 1 → OneUnit v
norm_unit v e =
    let (r, _, hr, one, others) = one_of (λ s. nat_abs (v s) * nat_abs (v s)) 0 6 (norm_total v 1 e) in
    (r, omega arith, unit (v r) one, λ s h w. zero_square (v s) (others s (omega arith) (omega arith) w))
  where
    zero_square : (z : ℤ) → nat_abs z * nat_abs z ≡ 0 → z ≡ pos 0
    zero_square (pos zero) e = refl
    zero_square (pos (suc n)) e = absurd (omega arith)
    zero_square (negsuc n) e = absurd (omega arith)

unit_norm : (v : ℕ → ℤ) → OneUnit v → sum 6 (λ c. v c *ℤ v c) ≡ pos 1
unit_norm v (r, hr, u, others) =
    sum_only 6 r (λ c. v c *ℤ v c) hr (λ s h w. ap (λ x. x *ℤ v s) (others s h w) ∙ zero-*ℤ (v s)) ∙ ⊎_elim (λ e. ap (λ x. x *ℤ x) e) (λ e. ap (λ x. x *ℤ x) e) u

-- what the byte of column c says
record Column (M : Matrix) (c b : ℕ) : Type 0 where
  valid : is_column_byte b ≡ true
  is : (s : ℕ) → s < 6 → column_entry b s ≡ M s c

module _ (M : Matrix) (o : Orthogonal (operator 0 M)) (c : ℕ) (hc : c < 6) where
  column : Column M c (column_byte M c)
  unfolding column_byte
  column =
      let (r, hr, u, zeros) = norm_unit (λ s. M s c) (row_norm 0 (transpose M) (inverse_orthogonal o) c hc) in
      rw (row_is r hr u zeros) (⊎_elim (plus r hr zeros) (minus r hr zeros) u)
    where
      row_is : (r : ℕ) → r < 6 → (M r c ≡ pos 1) ⊎ (M r c ≡ negsuc 0) → ((s : ℕ) → s < 6 → s ≢ r → M s c ≡ pos 0) → column_row M c ≡ r
      row_is r hr u zeros =
          let f : ℕ → Bool = λ s. not (equals (M s c) (pos 0)) in
          let found = first_found f 0 6 r (ap not (equals_no {a = M r c} {b = pos 0} (λ z. not_zero_lem u z))) (omega arith) (omega arith) in
          elim (ℕ_discrete (column_row M c) r) [
            | yes e ↦ e
            | no w ↦ absurd (subst T (sym found.holds ∙ ap not (equals_yes {a = M (column_row M c) c} {b = pos 0} (zeros (column_row M c) (let v = found.below in omega arith) w))) tt)
          ]
        where
          not_zero_lem : (M r c ≡ pos 1) ⊎ (M r c ≡ negsuc 0) → M r c ≢ pos 0
          not_zero_lem (inl p) z = let q : ◌≡◌ {A = ℕ} 1 0 = ap nat_abs (sym p ∙ z) in omega arith
          not_zero_lem (inr p) z = let q : ◌≡◌ {A = ℕ} 1 0 = ap nat_abs (sym p ∙ z) in omega arith

      at : (r b : ℕ) → r < 6 → ((s : ℕ) → s < 6 → s ≢ r → M s c ≡ pos 0) → is_column_byte b ≡ true → row_of b ≡ r → entry_of b ≡ M r c → Column M c b
      at r b hr zeros v p q = record {
        valid = v;
        is = λ s hs. column_entry_lem b v s hs ∙ ap₂ (λ x y. x *ℤ δ s y) q p ∙ elim (ℕ_discrete s r) [
          | yes e ↦ rw (e, δ_same r) (*ℤ-unit-r (M r c))
          | no w ↦ rw (δ_other s r w, zeros s hs w) (*ℤ-zero (M r c))
        ];
      }

      plus : (r : ℕ) → r < 6 → ((s : ℕ) → s < 6 → s ≢ r → M s c ≡ pos 0) → M r c ≡ pos 1 → Column M c (r + cond (equals (M r c) (pos 1)) 1 129)
      plus r hr zeros p = let (v, w, x) = plus_byte r hr in rw (equals_yes {a = M r c} {b = pos 1} p) (at r (r + 1) hr zeros v w (x ∙ sym p))

      minus : (r : ℕ) → r < 6 → ((s : ℕ) → s < 6 → s ≢ r → M s c ≡ pos 0) → M r c ≡ negsuc 0 → Column M c (r + cond (equals (M r c) (pos 1)) 1 129)
      minus r hr zeros p = let (v, w, x) = minus_byte r hr in rw (equals_no {a = M r c} {b = pos 1} (λ z. negative (sym p ∙ z))) (at r (r + 129) hr zeros v w (x ∙ sym p))
        where
          negative : negsuc 0 ≡ pos 1 → ⊥
          negative z = pos-ne-negsuc 1 0 (sym z)

-- an orthogonal operator of exponent 0 is a signed permutation, and the matrix of its column bytes
pub matrix_columns : (M : Matrix) → Orthogonal (operator 0 M) → Same 6 (columns_matrix (column_bytes M)) M
matrix_columns M o r c hr hc = ap (λ b. column_entry b r) (byte_at M c hc) ∙ (column M o c hc).is r hr

pub matrix_permutation : (M : Matrix) → Orthogonal (operator 0 M) → Permutation (column_bytes M)
matrix_permutation M o = record {
  long = length_tabulate (column_byte M) 0 6;
  bytes = λ c hc. ap is_column_byte (byte_at M c hc) ∙ (column M o c hc).valid;
  rows = λ c d l hd z. apart c d l hd (ap row_of (sym (byte_at M d hd)) ∙ z ∙ ap row_of (byte_at M c (omega arith)));
}
  where
    signs : (s t : Bool) → cond s (negsuc 0) (pos 1) *ℤ (cond t (negsuc 0) (pos 1) *ℤ pos 1) ≡ pos 0 → ⊥
    signs true true e = pos_nz 1 (omega arith) e
    signs true false e = let q : ◌≡◌ {A = ℕ} 1 0 = ap nat_abs e in omega arith
    signs false true e = let q : ◌≡◌ {A = ℕ} 1 0 = ap nat_abs e in omega arith
    signs false false e = pos_nz 1 (omega arith) e

    -- two columns with one row would have a product of 1 or −1
    apart : (c d : ℕ) → c < d → d < 6 → row_of (column_byte M d) ≢ row_of (column_byte M c)
    apart c d l hd z =
        let b = column_byte M c in
        let b' = column_byte M d in
        let hc : c < 6 = omega arith in
        let v = column M o c hc in
        let w = column M o d hd in
        let p : entry_of b *ℤ (entry_of b' *ℤ δ (row_of b) (row_of b')) ≡ pos 0 =
        sym (bytes_product b b' v.valid w.valid) ∙ sum_cong (λ s hs. ap₂ (λ x y. x *ℤ y) (v.is s hs) (w.is s hs))
        ∙ row_other 0 (transpose M) (inverse_orthogonal o) c d hc hd (omega arith) in
        signs (is_minus b) (is_minus b') (rw (z, δ_same (row_of b)) at p)

-- equal columns have equal bytes: the entry in a byte's own row is its sign
same_byte : (b b' : ℕ) → is_column_byte b ≡ true → is_column_byte b' ≡ true → ((s : ℕ) → s < 6 → column_entry b' s ≡ column_entry b s) → b ≡ b'
same_byte b b' v w h =
    let at : entry_of b' *ℤ δ (row_of b) (row_of b') ≡ entry_of b =
    sym (column_entry_lem b' w (row_of b) (row_lt b v)) ∙ h (row_of b) (row_lt b v) ∙ column_entry_lem b v (row_of b) (row_lt b v)
    ∙ ap (λ x. entry_of b *ℤ x) (δ_same (row_of b)) ∙ *ℤ-unit-r (entry_of b) in
    elim (ℕ_discrete (row_of b) (row_of b')) [
      | yes e ↦ byte_is b v ∙ ap₂ (λ r t. r + cond t 129 1) e (signs (is_minus b) (is_minus b') (sym (rw (e, δ_same (row_of b'), *ℤ-unit-r (entry_of b')) at at))) ∙ sym (byte_is b' w)
      | no n ↦ absurd (nonzero (is_minus b) (sym (rw (δ_other (row_of b) (row_of b') n, *ℤ-zero (entry_of b')) at at)))
    ]
  where
    signs : (s t : Bool) → cond s (negsuc 0) (pos 1) ≡ cond t (negsuc 0) (pos 1) → s ≡ t
    signs true true e = refl
    signs true false e = absurd (pos-ne-negsuc 1 0 (sym e))
    signs false true e = absurd (pos-ne-negsuc 1 0 e)
    signs false false e = refl

    nonzero : (s : Bool) → cond s (negsuc 0) (pos 1) ≡ pos 0 → ⊥
    nonzero true e = pos-ne-negsuc 0 0 (sym e)
    nonzero false e = pos_nz 1 (omega arith) e

-- one matrix has one set of column bytes
pub columns_unique : (bs cs : List ℕ) → Permutation bs → Permutation cs → Same 6 (columns_matrix bs) (columns_matrix cs) → bs ≡ cs
columns_unique bs cs p q h =
    let l = p.long in
    ext_get_or 0 bs cs (p.long ∙ sym q.long) (λ i u. same_byte (get_or bs i 0) (get_or cs i 0) (p.bytes i (omega arith)) (q.bytes i (omega arith)) (λ r hr. sym (h r i hr (omega arith))))

-- six bytes of columns whose matrix is orthogonal are the bytes of that matrix
bytes_of : (bs : List ℕ) → length bs ≡ 6 → ((c : ℕ) → c < 6 → is_column_byte (get_or bs c 0) ≡ true) → Orthogonal (operator 0 (columns_matrix bs)) → column_bytes (columns_matrix bs) ≡ bs
bytes_of bs l v o =
    sym
    (tabulate_is (column_byte (columns_matrix bs)) 6 0 bs l
    (λ c hc. let d = column (columns_matrix bs) o c hc in same_byte (get_or bs c 0) (column_byte (columns_matrix bs) c) (v c hc) d.valid d.is))

pub columns_matrix_lem : (bs : List ℕ) → Permutation bs → column_bytes (columns_matrix bs) ≡ bs
columns_matrix_lem bs p = bytes_of bs p.long p.bytes (columns_orthogonal bs p)

pub orthogonal_permutation : (bs : List ℕ) → length bs ≡ 6 → ((c : ℕ) → c < 6 → is_column_byte (get_or bs c 0) ≡ true) → Orthogonal (operator 0 (columns_matrix bs)) → Permutation bs
orthogonal_permutation bs l v o = subst Permutation (bytes_of bs l v o) (matrix_permutation (columns_matrix bs) o)

-- ---- Cliffords

pub orthogonal_clifford : (M : Matrix) → Orthogonal (operator 0 M) → Proper (operator 0 M) → Clifford (operator 0 M)
orthogonal_clifford M o p = record {
  exponent_zero = refl;
  row = λ r h. norm_unit (M r) (row_norm 0 M o r h);
  column = λ c h. norm_unit (λ r. M r c) (row_norm 0 (transpose M) (inverse_orthogonal o) c h);
  proper = p;
}

pub clifford_orthogonal : (M : Matrix) → Clifford (operator 0 M) → Orthogonal (operator 0 M)
clifford_orthogonal M k = record {
  rows = λ i j hi hj. elim (ℕ_discrete i j) [
    | yes e ↦ rw (e, δ_same j) (unit_norm (M j) (k.row j hj))
    | no w ↦ rw (δ_other i j w) (apart i j hi hj w)
  ];
}
  where
    -- where row i has its entry, row j has none
    apart : (i j : ℕ) → i < 6 → j < 6 → i ≢ j → sum 6 (λ c. M i c *ℤ M j c) ≡ pos 0
    apart i j hi hj w =
        let (c, hc, u, zeros) = k.row i hi in
        let (r, hr, v, others) = k.column c hc in
        sum_only 6 c (λ c. M i c *ℤ M j c) hc (λ d h z. ap (λ x. x *ℤ M j d) (zeros d h z) ∙ zero-*ℤ (M j d))
        ∙ ap (λ x. M i c *ℤ x) (others j hj (λ e. nonzero (M i c) u (others i hi (λ z. w (z ∙ sym e))))) ∙ *ℤ-zero (M i c)
      where
        nonzero : (z : ℤ) → (z ≡ pos 1) ⊎ (z ≡ negsuc 0) → z ≢ pos 0
        nonzero z (inl p) e = pos_nz 1 (omega arith) (sym p ∙ e)
        nonzero z (inr p) e = pos-ne-negsuc 0 0 (sym e ∙ p)
