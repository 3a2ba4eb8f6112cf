-- A word over H, h, S, s, Z takes no more indices across than it has letters Z: H, h, S and s keep the halves 1 to 3 and 4 to 6, and Z changes the
-- number by at most one. So every word with an image up to sign has at least the image's crossing number of letters Z.
use Rattle.std.specs.Prelude.{◌≡◌, refl, Bool, true, false, not, cond, List, [], ◌∷◌, ℕ, zero, suc, ◌+◌, ◌<◌, ◌≤◌, eqb, ltb, ℤ, pos, negsuc, neg_ℤ, ◌*ℤ◌}
use Rattle.std.proofs.Common.{sym, ap, ◌∙◌, arith, eqb-true, ne_eqb}
use Rattle.matrix.specs.Range.{first_from}
use Rattle.matrix.specs.Integer.{equals}
use Rattle.matrix.specs.Matrix.{Matrix, Same, scaled}
use Rattle.matrix.specs.Operator.{raised, Operator, operator, times_operator, SameOperator, SameUpToSign}
use Rattle.matrix.specs.Laws.Integer.{*ℤ-unit-l, minus_one-*ℤ}
use Rattle.matrix.specs.Laws.Range.{first_cong}
use Rattle.matrix.specs.Laws.Operator.{same_operator_sym}
use Rattle.clifford.specs.Columns.{column_entry, columns_matrix, column_row, sign_of, times_sign}
use Rattle.clifford.specs.Laws.Sign.{sign_other, sign_of_both}
use Rattle.letter.specs.declared.Gate.{Gate}
use Rattle.letter.specs.declared.Gate.TheVariants.{H1, H2, S1, S2, Cz, Cs}
use Rattle.letter.specs.Gate.{columns, word_matrix, is_cz, number}
use Rattle.letter.specs.Laws.Signed.{Column, Perm, perm, turned, times, unit, row_number, to_byte, bytes, from_bytes, evaluated, times_assoc, times_unit, unit_times}
use Rattle.letter.specs.Laws.Every.{every_bool, every_axis, every_column, every_column_lem}
use Rattle.letter.specs.Laws.Bytes.{axis_of, axis_turned}
use Rattle.letter.specs.Laws.Matrix.{evaluated_matrix}
use Rattle.gate.specs.Product.{image, product_of, cs_gates}
use Rattle.crossing.specs.Crossing.{crossing_number}

-- ---- where a matrix that is a signed permutation up to sign sends an index

-- 0 alone is 0 with either sign
zero_signed : (s : ℕ) (x : ℤ) → equals (sign_of s *ℤ x) (pos 0) ≡ equals x (pos 0)
zero_signed s x = go (eqb s 0)
  where
    negated : (x : ℤ) → equals (neg_ℤ x) (pos 0) ≡ equals x (pos 0)
    negated (pos zero) = refl
    negated (pos (suc n)) = sym (ne_eqb (suc n) 0 (λ e. omega arith))
    negated (negsuc n) = ne_eqb (suc n) 0 (λ e. omega arith)

    go : (t : Bool) → equals (cond t (pos 1) (negsuc 0) *ℤ x) (pos 0) ≡ equals x (pos 0)
    go true = ap (λ y. equals y (pos 0)) (*ℤ-unit-l x)
    go false = ap (λ y. equals y (pos 0)) (minus_one-*ℤ x) ∙ negated x

row_of_lem : (c : Column) → first_from (λ r. not (equals (column_entry (to_byte c) r) (pos 0))) 0 6 ≡ row_number (axis_of c)
unfolding first_from every_column every_axis every_bool
row_of_lem c = eqb-true _ _ (every_column_lem (λ c. eqb (first_from (λ r. not (equals (column_entry (to_byte c) r) (pos 0))) 0 6) (row_number (axis_of c))) refl c)

sent : (s : ℕ) (M : Matrix) (j : ℕ) (c : Column) → ((i : ℕ) → i < 6 → M i j ≡ sign_of s *ℤ column_entry (to_byte c) i) → column_row M j ≡ row_number (axis_of c)
sent s M j c h =
    first_cong (λ r. not (equals (M r j) (pos 0))) (λ r. not (equals (column_entry (to_byte c) r) (pos 0))) 0 6
    (λ i l u. ap (λ x. not (equals x (pos 0))) (h i (omega arith)) ∙ ap not (zero_signed s (column_entry (to_byte c) i)))
    ∙ row_of_lem c

-- ---- the crossing number of a signed permutation

abbrev pub crossed : Column → ℕ
crossed c = cond (ltb (row_number (axis_of c)) 3) 0 1

abbrev pub crossings_of : Perm → ℕ
crossings_of (perm a b c d e f) = crossed a + crossed b + crossed c

pub crossing_of : (s : ℕ) (M : Matrix) (g : Perm) → Same 6 M (scaled (sign_of s) (columns_matrix (bytes g))) → crossing_number M ≡ crossings_of g
crossing_of s M (perm a b c d e f) h =
    let p = sent s M 0 a (λ i u. h i 0 u (omega arith)) in
    let q = sent s M 1 b (λ i u. h i 1 u (omega arith)) in
    let r = sent s M 2 c (λ i u. h i 2 u (omega arith)) in
    rw (p, q, r)

-- ---- one letter more, on the right

crossed_turned : (c : Column) → crossed (turned false c) ≡ crossed c
crossed_turned c = ap (λ a. cond (ltb (row_number a) 3) 0 1) (axis_turned false c)

crossed_le : (c : Column) → crossed c ≤ 1
crossed_le c = go (ltb (row_number (axis_of c)) 3)
  where
    go : (t : Bool) → cond t 0 1 ≤ 1
    go true = omega arith
    go false = omega arith

crossing_gate : (g : Perm) (x : Gate) → cs_gates (x ∷ []) ≡ 0 → crossings_of (times g (from_bytes (columns x))) ≤ crossings_of g + number is_cz (x ∷ [])
crossing_gate (perm a b c d e f) H1 n = let t = crossed_turned b in omega arith
crossing_gate (perm a b c d e f) H2 n = omega arith
crossing_gate (perm a b c d e f) S1 n = let t = crossed_turned a in omega arith
crossing_gate (perm a b c d e f) S2 n = omega arith
crossing_gate (perm a b c d e f) Cz n = let t = crossed_turned a in let l = crossed_le f in omega arith
crossing_gate (perm a b c d e f) Cs n = absurd (omega arith)

crossing_word : (g : Perm) (w : List Gate) → cs_gates w ≡ 0 → crossings_of (times g (evaluated w)) ≤ crossings_of g + number is_cz w
crossing_word g [] n = let e : crossings_of (times g unit) ≡ crossings_of g = ap crossings_of (times_unit g) in omega arith
crossing_word g (x ∷ w) n =
    let y = from_bytes (columns x) in
    let a = crossing_gate g x (omega arith) in
    let b = crossing_word (times g y) w (omega arith) in
    let e : crossings_of (times g (times y (evaluated w))) ≡ crossings_of (times (times g y) (evaluated w)) = ap crossings_of (sym (times_assoc g y (evaluated w))) in
    omega arith

crossing_evaluated : (w : List Gate) → cs_gates w ≡ 0 → crossings_of (evaluated w) ≤ number is_cz w
crossing_evaluated w n =
    let a = crossing_word unit w n in
    let e : crossings_of (times unit (evaluated w)) ≡ crossings_of (evaluated w) = ap crossings_of (unit_times (evaluated w)) in
    let z : crossings_of unit ≡ 0 = refl in
    omega arith

-- ---- the theorem

-- the product of a list without C
pub stretch_product : (w : List Gate) → cs_gates w ≡ 0 → product_of w ≡ operator 0 (word_matrix w)
unfolding product_of word_matrix image
stretch_product [] n = refl
stretch_product (H1 ∷ w) n = ap (times_operator (image H1)) (stretch_product w (omega arith))
stretch_product (H2 ∷ w) n = ap (times_operator (image H2)) (stretch_product w (omega arith))
stretch_product (S1 ∷ w) n = ap (times_operator (image S1)) (stretch_product w (omega arith))
stretch_product (S2 ∷ w) n = ap (times_operator (image S2)) (stretch_product w (omega arith))
stretch_product (Cz ∷ w) n = ap (times_operator (image Cz)) (stretch_product w (omega arith))
stretch_product (Cs ∷ w) n = absurd (omega arith)

-- a list without C that multiplies to what v multiplies to, times a sign, sends as many indices across
same_crossing : (t : ℕ) (s v : List Gate) → cs_gates s ≡ 0 → cs_gates v ≡ 0 → SameOperator (product_of s) (times_sign t (product_of v))
    → crossing_number (product_of s).matrix ≡ crossings_of (evaluated v)
unfolding raised
same_crossing t s v z n k =
    let l : SameOperator (operator 0 (word_matrix s)) (times_sign t (operator 0 (word_matrix v))) = rw (stretch_product s z, stretch_product v n) at k in
    ap (λ (A : Operator). crossing_number A.matrix) (stretch_product s z)
    ∙ crossing_of t (word_matrix s) (evaluated v)
    (λ i j hi hj. ap (λ x. x.0) (l.entries i j hi hj) ∙ ap (λ x. sign_of t *ℤ x) (evaluated_matrix v n i j hi hj))

-- "No stretch over H, h, S, s, Z with that image up to sign has fewer": v is any word over them, of whatever length
pub fewest_z : (v s : List Gate) → cs_gates v ≡ 0 → cs_gates s ≡ 0 → SameUpToSign (product_of v) (product_of s) → crossing_number (product_of s).matrix ≤ number is_cz v
fewest_z v s n z u =
    let (t, h) = sign_of_both u in
    let e = same_crossing t s v z n (same_operator_sym (sign_other t h)) in
    let b = crossing_evaluated v n in
    omega arith
