-- Column bytes times a sign: the matrix is multiplied by it, and it can be taken off again.
use Rattle.std.specs.Prelude.{◌≡◌, refl, Bool, true, false, not, cond, ◌&&◌, List, [], ◌∷◌, ℕ, zero, suc, ◌<◌, T, eqb, pos, negsuc, ◌*ℤ◌, length, get_or}
use Rattle.std.proofs.Common.{sym, ap, ap₂, ◌∙◌, ⊎_elim, map-id, arith, eqb→eq, ext_get_or}
use Rattle.std.specs.Bool.{beq}
use Rattle.std.proofs.lemmas.List.{length-map}
use Rattle.matrix.specs.Range.{every_from, every}
use Rattle.matrix.specs.Matrix.{Same, δ, scaled}
use Rattle.matrix.specs.Laws.Test.{left, right, imp, imp_sound, T_true, true_T}
use Rattle.matrix.specs.Laws.Integer.{*ℤ-unit-l, *ℤ-assoc}
use Rattle.matrix.specs.Laws.Range.{every_sound}
use Rattle.clifford.specs.Columns.{column_entry, columns_matrix, is_column_byte, row_of, is_minus, negated, sign_of, signed_byte, signed}
use Rattle.clifford.specs.Laws.Columns.{entry_of, byte_cases, column_entry_lem, Permutation}

-- ---- one byte

-- what negating does to a column's byte: a fact of the bytes up to the last that can be a column's
negates : ℕ → Bool
negates b =
    imp (is_column_byte b)
    (is_column_byte (negated b) && (eqb (row_of (negated b)) (row_of b) && (eqb (negated (negated b)) b && beq (is_minus (negated b)) (not (is_minus b)))))

all_negate : every 135 negates ≡ true
unfolding every_from negates
all_negate = refl

record Negates (b : ℕ) : Type 0 where
  byte : is_column_byte (negated b) ≡ true
  row : row_of (negated b) ≡ row_of b
  twice : negated (negated b) ≡ b
  minus : is_minus (negated b) ≡ not (is_minus b)

negates_of : (b : ℕ) → is_column_byte b ≡ true → Negates b
unfolding negates
negates_of b e =
    let t = imp_sound (is_column_byte b) _ (true_T (every_sound 135 negates all_negate b below)) (true_T e) in
    let t1 = right (is_column_byte (negated b)) _ t in
    let t2 = right (eqb (row_of (negated b)) (row_of b)) _ t1 in
    record {
      byte = T_true _ (left (is_column_byte (negated b)) _ t);
      row = eqb→eq _ _ (left (eqb (row_of (negated b)) (row_of b)) _ t1);
      twice = eqb→eq _ _ (left (eqb (negated (negated b)) b) _ t2);
      minus = beq_sound _ _ (right (eqb (negated (negated b)) b) _ t2);
    }
  where
    below : b < 135
    below = ⊎_elim (λ (l, u). omega arith) (λ (l, u). omega arith) (byte_cases b e)

    beq_sound : (a b : Bool) → T (beq a b) → a ≡ b
    beq_sound true true t = refl
    beq_sound true false t = absurd t
    beq_sound false true t = absurd t
    beq_sound false false t = refl

pub negated_minus : (b : ℕ) → is_column_byte b ≡ true → is_minus (negated b) ≡ not (is_minus b)
negated_minus b e = (negates_of b e).minus

record Signed (s b : ℕ) : Type 0 where
  byte : is_column_byte (signed_byte s b) ≡ true
  row : row_of (signed_byte s b) ≡ row_of b
  twice : signed_byte s (signed_byte s b) ≡ b
  unit : entry_of (signed_byte s b) ≡ sign_of s *ℤ entry_of b

signed_of : (s b : ℕ) → is_column_byte b ≡ true → Signed s b
signed_of s b e = record { byte = by (eqb s 0); row = rows (eqb s 0); twice = again (eqb s 0); unit = units (eqb s 0) }
  where
    n : Negates b
    n = negates_of b e

    by : (t : Bool) → is_column_byte (cond t b (negated b)) ≡ true
    by true = e
    by false = n.byte

    rows : (t : Bool) → row_of (cond t b (negated b)) ≡ row_of b
    rows true = refl
    rows false = n.row

    again : (t : Bool) → cond t (cond t b (negated b)) (negated (cond t b (negated b))) ≡ b
    again true = refl
    again false = n.twice

    units : (t : Bool) → entry_of (cond t b (negated b)) ≡ cond t (pos 1) (negsuc 0) *ℤ entry_of b
    units true = sym (*ℤ-unit-l (entry_of b))
    units false = ap (λ t. cond t (negsuc 0) (pos 1)) n.minus ∙ go (is_minus b)
      where
        go : (t : Bool) → cond (not t) (negsuc 0) (pos 1) ≡ negsuc 0 *ℤ cond t (negsuc 0) (pos 1)
        go true = refl
        go false = refl

-- ---- six bytes

pub signed_at : (s : ℕ) (bs : List ℕ) (c : ℕ) → c < length bs → get_or (signed s bs) c 0 ≡ signed_byte s (get_or bs c 0)
signed_at s [] c h = absurd (omega arith)
signed_at s (b ∷ bs) zero h = refl
signed_at s (b ∷ bs) (suc c) h = signed_at s bs c (omega arith)

-- the sign 0 is none
pub signed_none : (bs : List ℕ) → signed 0 bs ≡ bs
signed_none bs = map-id bs

module _ (s : ℕ) (bs : List ℕ) (p : Permutation bs) where
  at : (c : ℕ) → c < 6 → get_or (signed s bs) c 0 ≡ signed_byte s (get_or bs c 0)
  at c h = let l = p.long in signed_at s bs c (omega arith)

  row_at_lem : (c : ℕ) → c < 6 → row_of (get_or (signed s bs) c 0) ≡ row_of (get_or bs c 0)
  row_at_lem c h = ap row_of (at c h) ∙ (signed_of s (get_or bs c 0) (p.bytes c h)).row

  pub signed_permutation : Permutation (signed s bs)
  signed_permutation = record {
    long = length-map bs (signed_byte s) ∙ p.long;
    bytes = λ c h. ap is_column_byte (at c h) ∙ (signed_of s (get_or bs c 0) (p.bytes c h)).byte;
    rows = λ c d l h z. p.rows c d l h (sym (row_at_lem d h) ∙ z ∙ row_at_lem c (omega arith));
  }

  pub signed_matrix_lem : Same 6 (columns_matrix (signed s bs)) (scaled (sign_of s) (columns_matrix bs))
  signed_matrix_lem r c hr hc =
      let b = get_or bs c 0 in
      let v = p.bytes c hc in
      let w = signed_of s b v in
      ap (λ x. column_entry x r) (at c hc) ∙ column_entry_lem (signed_byte s b) w.byte r hr
      ∙ ap₂ (λ x y. x *ℤ δ r y) w.unit w.row
      ∙ *ℤ-assoc (sign_of s) (entry_of b) (δ r (row_of b))
      ∙ ap (λ x. sign_of s *ℤ x) (sym (column_entry_lem b v r hr))

-- a sign twice is none
pub signed_twice : (s : ℕ) (bs : List ℕ) → Permutation bs → signed s (signed s bs) ≡ bs
signed_twice s bs p =
    let q = signed_permutation s bs p in
    let l = (signed_permutation s (signed s bs) q).long in
    ext_get_or 0 (signed s (signed s bs)) bs (l ∙ sym p.long)
    (λ i u. at s (signed s bs) q i (omega arith) ∙ ap (signed_byte s) (at s bs p i (omega arith)) ∙ (signed_of s (get_or bs i 0) (p.bytes i (omega arith))).twice)
