-- Signed permutations as a small data type, on which finite facts can be computed: their product and its laws, their bytes, and what a
-- word of Clifford gates multiplies to.
use Rattle.std.specs.Prelude.{◌≡◌, refl, Bool, true, false, not, List, [], ◌∷◌, ◌++◌, ℕ, zero, suc, ◌+◌, get_or}
use Rattle.std.proofs.Common.{sym, ap, ◌∙◌}
use Rattle.clifford.specs.Columns.{row_of, is_minus}
use Rattle.letter.specs.declared.Gate.{Gate}
use Rattle.letter.specs.Gate.{columns}

pub data Axis : Type 0 where
  e1 e2 e3 e4 e5 e6 : Axis

-- a column: its sign, true for +, and the axis of its row
pub data Column : Type 0 where
  col : Bool → Axis → Column

pub data Perm : Type 0 where
  perm : Column → Column → Column → Column → Column → Column → Perm

abbrev pub image : Perm → Axis → Column
image (perm a b c d e f) e1 = a
image (perm a b c d e f) e2 = b
image (perm a b c d e f) e3 = c
image (perm a b c d e f) e4 = d
image (perm a b c d e f) e5 = e
image (perm a b c d e f) e6 = f

-- a sign times a column
abbrev pub turned : Bool → Column → Column
turned true c = c
turned false (col s a) = col (not s) a

abbrev pub apply : Perm → Column → Column
apply g (col s a) = turned s (image g a)

abbrev pub times : Perm → Perm → Perm
times g (perm a b c d e f) = perm (apply g a) (apply g b) (apply g c) (apply g d) (apply g e) (apply g f)

abbrev pub unit : Perm
unit = perm (col true e1) (col true e2) (col true e3) (col true e4) (col true e5) (col true e6)

-- ---- bytes

abbrev pub row_number : Axis → ℕ
row_number e1 = 0
row_number e2 = 1
row_number e3 = 2
row_number e4 = 3
row_number e5 = 4
row_number e6 = 5

abbrev pub axis_at : ℕ → Axis
axis_at zero = e1
axis_at (suc zero) = e2
axis_at (suc (suc zero)) = e3
axis_at (suc (suc (suc zero))) = e4
axis_at (suc (suc (suc (suc zero)))) = e5
axis_at (suc (suc (suc (suc (suc n))))) = e6

abbrev pub to_byte : Column → ℕ
to_byte (col true a) = row_number a + 1
to_byte (col false a) = row_number a + 129

abbrev pub from_byte : ℕ → Column
from_byte b = col (not (is_minus b)) (axis_at (row_of b))

abbrev pub bytes : Perm → List ℕ
bytes (perm a b c d e f) = to_byte a ∷ to_byte b ∷ to_byte c ∷ to_byte d ∷ to_byte e ∷ to_byte f ∷ []

abbrev pub from_bytes : List ℕ → Perm
from_bytes bs = perm (from_byte (get_or bs 0 0)) (from_byte (get_or bs 1 0)) (from_byte (get_or bs 2 0)) (from_byte (get_or bs 3 0)) (from_byte (get_or bs 4 0)) (from_byte (get_or bs 5 0))

-- what a word without the letter C multiplies to
abbrev pub evaluated : List Gate → Perm
evaluated [] = unit
evaluated (x ∷ w) = times (from_bytes (columns x)) (evaluated w)

-- ---- the laws of the product

perm_path : {a b c d e f a' b' c' d' e' f' : Column} → a ≡ a' → b ≡ b' → c ≡ c' → d ≡ d' → e ≡ e' → f ≡ f' → perm a b c d e f ≡ perm a' b' c' d' e' f'
perm_path p q r s t u = λ i. perm (p i) (q i) (r i) (s i) (t i) (u i)

turned_twice : (c : Column) → turned false (turned false c) ≡ c
turned_twice (col true a) = refl
turned_twice (col false a) = refl

apply_turned : (g : Perm) (s : Bool) (c : Column) → apply g (turned s c) ≡ turned s (apply g c)
apply_turned g true c = refl
apply_turned g false (col true a) = refl
apply_turned g false (col false a) = sym (turned_twice (image g a))

pub image_times : (g h : Perm) (a : Axis) → image (times g h) a ≡ apply g (image h a)
image_times g (perm a b c d e f) e1 = refl
image_times g (perm a b c d e f) e2 = refl
image_times g (perm a b c d e f) e3 = refl
image_times g (perm a b c d e f) e4 = refl
image_times g (perm a b c d e f) e5 = refl
image_times g (perm a b c d e f) e6 = refl

apply_times : (g h : Perm) (c : Column) → apply (times g h) c ≡ apply g (apply h c)
apply_times g h (col s a) = ap (turned s) (image_times g h a) ∙ sym (apply_turned g s (image h a))

pub times_assoc : (g h k : Perm) → times (times g h) k ≡ times g (times h k)
times_assoc g h (perm a b c d e f) =
    perm_path (apply_times g h a) (apply_times g h b) (apply_times g h c) (apply_times g h d) (apply_times g h e) (apply_times g h f)

pub times_unit : (g : Perm) → times g unit ≡ g
times_unit (perm a b c d e f) = refl

apply_unit : (c : Column) → apply unit c ≡ c
apply_unit (col s a) = ap (turned s) (same a) ∙ plus s
  where
    same : (a : Axis) → image unit a ≡ col true a
    same e1 = refl
    same e2 = refl
    same e3 = refl
    same e4 = refl
    same e5 = refl
    same e6 = refl

    plus : (s : Bool) → turned s (col true a) ≡ col s a
    plus true = refl
    plus false = refl

pub unit_times : (g : Perm) → times unit g ≡ g
unit_times (perm a b c d e f) = perm_path (apply_unit a) (apply_unit b) (apply_unit c) (apply_unit d) (apply_unit e) (apply_unit f)

pub evaluated_append : (u v : List Gate) → evaluated (u ++ v) ≡ times (evaluated u) (evaluated v)
evaluated_append [] v = sym (unit_times (evaluated v))
evaluated_append (x ∷ u) v =
    ap (times (from_bytes (columns x))) (evaluated_append u v) ∙ sym (times_assoc (from_bytes (columns x)) (evaluated u) (evaluated v))

-- ---- a sign

abbrev pub turned_all : Bool → Perm → Perm
turned_all s (perm a b c d e f) = perm (turned s a) (turned s b) (turned s c) (turned s d) (turned s e) (turned s f)

pub image_turned : (s : Bool) (g : Perm) (a : Axis) → image (turned_all s g) a ≡ turned s (image g a)
image_turned s (perm a b c d e f) e1 = refl
image_turned s (perm a b c d e f) e2 = refl
image_turned s (perm a b c d e f) e3 = refl
image_turned s (perm a b c d e f) e4 = refl
image_turned s (perm a b c d e f) e5 = refl
image_turned s (perm a b c d e f) e6 = refl

-- it comes out of a product, on either side
pub times_turned : (s : Bool) (g h : Perm) → times (turned_all s g) h ≡ turned_all s (times g h)
times_turned s g (perm a b c d e f) = perm_path (at a) (at b) (at c) (at d) (at e) (at f)
  where
    both : (t : Bool) (s : Bool) (c : Column) → turned t (turned s c) ≡ turned s (turned t c)
    both true s c = refl
    both false true c = refl
    both false false c = refl

    at : (c : Column) → apply (turned_all s g) c ≡ turned s (apply g c)
    at (col t a) = ap (turned t) (image_turned s g a) ∙ both t s (image g a)

pub times_turned_r : (s : Bool) (g h : Perm) → times g (turned_all s h) ≡ turned_all s (times g h)
times_turned_r s g (perm a b c d e f) = perm_path (apply_turned g s a) (apply_turned g s b) (apply_turned g s c) (apply_turned g s d) (apply_turned g s e) (apply_turned g s f)
