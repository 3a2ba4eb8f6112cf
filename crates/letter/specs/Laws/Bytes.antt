-- Signed permutations and the bytes of their columns: six bytes that are a permutation come from the data type, and the product by bytes
-- is the product.
use Rattle.std.specs.Prelude.{◌≡◌, refl, Bool, true, false, cond, ◌&&◌, ◌||◌, List, [], ◌∷◌, ℕ, zero, suc, ◌+◌, ◌-◌, ◌<◌, ◌≤◌, eqb, leb, get_or, length}
use Rattle.std.proofs.Common.{sym, subst, arith, eqb-true, leb-true}
use Rattle.clifford.specs.Laws.Columns.{columns_valid}
use Rattle.clifford.specs.Columns.{row_of, negated, signed, is_column_byte, are_column_bytes, are_permutation}
use Rattle.letter.specs.Composition.{image_of, composed}
use Rattle.letter.specs.Laws.Signed.{Axis, e1, e2, e3, e4, e5, e6, Column, col, Perm, perm, turned, apply, times, row_number, to_byte, from_byte, bytes, from_bytes, turned_all}
use Rattle.matrix.specs.Laws.Test.{and_left, and_right}
use Rattle.letter.specs.Laws.Every.{every_bool, every_axis, every_column, every_column_lem}

abbrev pub axis_of : Column → Axis
axis_of (col s a) = a

abbrev pub sign_of : Column → Bool
sign_of (col s a) = s

pub axis_turned : (s : Bool) (c : Column) → axis_of (turned s c) ≡ axis_of c
axis_turned true c = refl
axis_turned false (col s a) = refl

-- ---- one byte

pub row_byte : (c : Column) → row_of (to_byte c) ≡ row_number (axis_of c)
unfolding every_column every_axis every_bool
row_byte c = eqb-true _ _ (every_column_lem (λ c. eqb (row_of (to_byte c)) (row_number (axis_of c))) refl c)

negated_byte : (c : Column) → negated (to_byte c) ≡ to_byte (turned false c)
unfolding every_column every_axis every_bool
negated_byte c = eqb-true _ _ (every_column_lem (λ c. eqb (negated (to_byte c)) (to_byte (turned false c))) refl c)

byte_valid : (c : Column) → is_column_byte (to_byte c) ≡ true
unfolding every_column every_axis every_bool
byte_valid = every_column_lem (λ c. is_column_byte (to_byte c)) refl

from_to : (c : Column) → from_byte (to_byte c) ≡ c
from_to (col true e1) = refl
from_to (col true e2) = refl
from_to (col true e3) = refl
from_to (col true e4) = refl
from_to (col true e5) = refl
from_to (col true e6) = refl
from_to (col false e1) = refl
from_to (col false e2) = refl
from_to (col false e3) = refl
from_to (col false e4) = refl
from_to (col false e5) = refl
from_to (col false e6) = refl

-- a fact of the six numbers below 6
pub below_six : (P : ℕ → Type 0) → P 0 → P 1 → P 2 → P 3 → P 4 → P 5 → (k : ℕ) → k < 6 → P k
below_six P a b c d e f zero h = a
below_six P a b c d e f (suc zero) h = b
below_six P a b c d e f (suc (suc zero)) h = c
below_six P a b c d e f (suc (suc (suc zero))) h = d
below_six P a b c d e f (suc (suc (suc (suc zero)))) h = e
below_six P a b c d e f (suc (suc (suc (suc (suc zero))))) h = f
below_six P a b c d e f (suc (suc (suc (suc (suc (suc k)))))) h = absurd (omega arith)

to_from : (b : ℕ) → is_column_byte b ≡ true → to_byte (from_byte b) ≡ b
to_from b v = go (leb 1 b && leb b 6) refl v
  where
    P : ℕ → Type 0
    P b = to_byte (from_byte b) ≡ b

    plus : 1 ≤ b → b ≤ 6 → P b
    plus l u = let e : b - 1 + 1 ≡ b = omega arith in subst P e (below_six (λ k. P (k + 1)) refl refl refl refl refl refl (b - 1) (omega arith))

    less : 129 ≤ b → b ≤ 134 → P b
    less l u = let e : b - 129 + 129 ≡ b = omega arith in subst P e (below_six (λ k. P (k + 129)) refl refl refl refl refl refl (b - 129) (omega arith))

    go : (t : Bool) → (leb 1 b && leb b 6) ≡ t → (t || (leb 129 b && leb b 134)) ≡ true → P b
    go true e w = plus (leb-true 1 b (and_left (leb 1 b) (leb b 6) e)) (leb-true b 6 (and_right (leb 1 b) (leb b 6) e))
    go false e w = less (leb-true 129 b (and_left (leb 129 b) (leb b 134) w)) (leb-true b 134 (and_right (leb 129 b) (leb b 134) w))

pub byte_in : (bs : List ℕ) → are_column_bytes bs ≡ true → (k : ℕ) → k < length bs → is_column_byte (get_or bs k 0) ≡ true
byte_in [] v k h = absurd (omega arith)
byte_in (b ∷ bs) v zero h = and_left (is_column_byte b) (are_column_bytes bs) v
byte_in (b ∷ bs) v (suc k) h = byte_in bs (and_right (is_column_byte b) (are_column_bytes bs) v) k (omega arith)

-- ---- six bytes

pub from_bytes_lem : (g : Perm) → from_bytes (bytes g) ≡ g
from_bytes_lem (perm a b c d e f) = λ i. perm (from_to a i) (from_to b i) (from_to c i) (from_to d i) (from_to e i) (from_to f i)

pub bytes_from : (bs : List ℕ) → are_permutation bs ≡ true → bytes (from_bytes bs) ≡ bs
unfolding are_permutation
bytes_from bs p = go bs (eqb-true (length bs) 6 (and_left (eqb (length bs) 6) _ p)) (columns_valid bs p)
  where
    go : (bs : List ℕ) → length bs ≡ 6 → are_column_bytes bs ≡ true → bytes (from_bytes bs) ≡ bs
    go [] l v = absurd (omega arith)
    go (a ∷ []) l v = absurd (omega arith)
    go (a ∷ b ∷ []) l v = absurd (omega arith)
    go (a ∷ b ∷ c ∷ []) l v = absurd (omega arith)
    go (a ∷ b ∷ c ∷ d ∷ []) l v = absurd (omega arith)
    go (a ∷ b ∷ c ∷ d ∷ e ∷ []) l v = absurd (omega arith)
    go (a ∷ b ∷ c ∷ d ∷ e ∷ f ∷ []) l v =
        let v2 = and_right (is_column_byte a) _ v in
        let v3 = and_right (is_column_byte b) _ v2 in
        let v4 = and_right (is_column_byte c) _ v3 in
        let v5 = and_right (is_column_byte d) _ v4 in
        let v6 = and_right (is_column_byte e) _ v5 in
        let p1 = to_from a (and_left (is_column_byte a) _ v) in
        let p2 = to_from b (and_left (is_column_byte b) _ v2) in
        let p3 = to_from c (and_left (is_column_byte c) _ v3) in
        let p4 = to_from d (and_left (is_column_byte d) _ v4) in
        let p5 = to_from e (and_left (is_column_byte e) _ v5) in
        let p6 = to_from f (and_left (is_column_byte f) _ v6) in
        λ i. p1 i ∷ p2 i ∷ p3 i ∷ p4 i ∷ p5 i ∷ p6 i ∷ []
    go (a ∷ b ∷ c ∷ d ∷ e ∷ f ∷ g ∷ bs) l v = absurd (omega arith)

pub six : (g : Perm) → length (bytes g) ≡ 6
six (perm a b c d e f) = refl

-- all columns times a sign
pub turned_bytes : (s : Bool) (g : Perm) → bytes (turned_all s g) ≡ signed (cond s 0 1) (bytes g)
turned_bytes true (perm a b c d e f) = refl
turned_bytes false (perm a b c d e f) =
    sym λ i. negated_byte a i ∷ negated_byte b i ∷ negated_byte c i ∷ negated_byte d i ∷ negated_byte e i ∷ negated_byte f i ∷ []

pub bytes_valid : (g : Perm) → are_column_bytes (bytes g) ≡ true
bytes_valid (perm a b c d e f) = simp byte_valid

-- ---- the product

image_byte : (g : Perm) (c : Column) → image_of (bytes g) (to_byte c) ≡ to_byte (apply g c)
image_byte (perm a b c d e f) (col true e1) = refl
image_byte (perm a b c d e f) (col true e2) = refl
image_byte (perm a b c d e f) (col true e3) = refl
image_byte (perm a b c d e f) (col true e4) = refl
image_byte (perm a b c d e f) (col true e5) = refl
image_byte (perm a b c d e f) (col true e6) = refl
image_byte (perm a b c d e f) (col false e1) = negated_byte a
image_byte (perm a b c d e f) (col false e2) = negated_byte b
image_byte (perm a b c d e f) (col false e3) = negated_byte c
image_byte (perm a b c d e f) (col false e4) = negated_byte d
image_byte (perm a b c d e f) (col false e5) = negated_byte e
image_byte (perm a b c d e f) (col false e6) = negated_byte f

pub composed_bytes : (g h : Perm) → composed (bytes g) (bytes h) ≡ bytes (times g h)
composed_bytes g (perm a b c d e f) =
    λ i. image_byte g a i ∷ image_byte g b i ∷ image_byte g c i ∷ image_byte g d i ∷ image_byte g e i ∷ image_byte g f i ∷ []
