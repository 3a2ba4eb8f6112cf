-- The finite facts behind the words, each a test that antt computes: the parts of the tables and their inverses, which rows and signs are
-- left when the parts are taken off, and the rotations of either half.
use Rattle.std.specs.Prelude.{◌≡◌, Bool, true, false, not, ◌&&◌, List, [], ◌∷◌, map, ℕ, ◌+◌, ◌*◌, ◌%◌, ◌<◌, ◌≤◌, eqb, ltb, get_or}
use Rattle.std.proofs.Math.Path.{refl, fun_ext}
use Rattle.std.proofs.Common.{sym, ap, subst, ◌∙◌, arith, eqb-true}
use Rattle.matrix.specs.Range.{every, every_from}
use Rattle.matrix.specs.Laws.Range.{every_sound}
use Rattle.clifford.specs.Columns.{row_of, is_minus, are_column_bytes, different, inversions, minuses, is_even}
use Rattle.word.specs.Word.{bit, part_words, part_inverses, rotation_words, rotation_of, on_second}
use Rattle.letter.specs.Laws.Signed.{Axis, e1, e2, e3, e4, e5, e6, Column, col, Perm, perm, image, turned, apply, times, unit, row_number, to_byte, bytes, from_bytes, evaluated, image_times}
use Rattle.matrix.specs.List.{same_list}
use Rattle.matrix.specs.Laws.Test.{and_left, and_right, same_list_lem}
use Rattle.letter.specs.Laws.Every.{implied, every_bool, every_axis, every_column, every_column_lem, every_signs, every_signs_lem, by_six, by_six_lem, arrangements, every_arrangement}
use Rattle.letter.specs.Laws.Bytes.{axis_of, sign_of, axis_turned, row_byte, from_bytes_lem, bytes_valid}

same_perm : (g h : Perm) → same_list (bytes g) (bytes h) ≡ true → g ≡ h
same_perm g h t = sym (from_bytes_lem g) ∙ ap from_bytes (same_list_lem (bytes g) (bytes h) t) ∙ from_bytes_lem h

pub bit_le : (t : Bool) → bit t ≤ 1
bit_le true = omega arith
bit_le false = omega arith

pub minus_byte : (c : Column) → bit (is_minus (to_byte c)) ≡ bit (not (sign_of c))
unfolding every_column every_axis every_bool
minus_byte c = eqb-true _ _ (every_column_lem (λ c. eqb (bit (is_minus (to_byte c))) (bit (not (sign_of c)))) refl c)

-- ---- the axes and the signs of a permutation

abbrev pub axes : Perm → Axis → Axis
axes g a = axis_of (image g a)

abbrev pub signs : Perm → Axis → Bool
signs g a = sign_of (image g a)

abbrev sign_times : Bool → Bool → Bool
sign_times true s = s
sign_times false s = not s

abbrev pub rows : (Axis → Axis) → List ℕ
rows π = row_number (π e1) ∷ row_number (π e2) ∷ row_number (π e3) ∷ row_number (π e4) ∷ row_number (π e5) ∷ row_number (π e6) ∷ []

-- how many signs are −
abbrev pub minus_signs : (Axis → Bool) → ℕ
minus_signs σ = bit (not (σ e1)) + (bit (not (σ e2)) + (bit (not (σ e3)) + (bit (not (σ e4)) + (bit (not (σ e5)) + (bit (not (σ e6)) + 0)))))

pub rows_bytes : (g : Perm) → map row_of (bytes g) ≡ rows (axes g)
rows_bytes (perm a b c d e f) = λ i. row_byte a i ∷ row_byte b i ∷ row_byte c i ∷ row_byte d i ∷ row_byte e i ∷ row_byte f i ∷ []

pub minuses_bytes : (g : Perm) → minuses (bytes g) ≡ minus_signs (signs g)
minuses_bytes (perm a b c d e f) =
    λ i. minus_byte a i + (minus_byte b i + (minus_byte c i + (minus_byte d i + (minus_byte e i + (minus_byte f i + 0)))))

pub axes_times : (g h : Perm) → axes (times g h) ≡ (λ a. axes g (axes h a))
axes_times g h = fun_ext λ a. ap axis_of (image_times g h a) ∙ at (image h a)
  where
    at : (c : Column) → axis_of (apply g c) ≡ axes g (axis_of c)
    at (col s a) = axis_turned s (image g a)

signs_times : (g h : Perm) → signs (times g h) ≡ (λ a. sign_times (signs h a) (signs g (axes h a)))
signs_times g h = fun_ext λ a. ap sign_of (image_times g h a) ∙ at (image h a)
  where
    turn : (s : Bool) (c : Column) → sign_of (turned s c) ≡ sign_times s (sign_of c)
    turn true c = refl
    turn false (col s a) = refl

    at : (c : Column) → sign_of (apply g c) ≡ sign_times (sign_of c) (signs g (axis_of c))
    at (col s a) = turn s (image g a)

-- ---- the parts

unfoldable pub inverse : ℕ → Perm
unfolding part_inverses
inverse k = from_bytes (get_or part_inverses k [])

part? : ℕ → Bool
unfolding inverse part_words part_inverses
part? k = same_list (bytes (inverse k)) (get_or part_inverses k []) && same_list (bytes (times (inverse k) (evaluated (get_or part_words k [])))) (bytes unit)

module _ (k : ℕ) (h : k < 16) where
  parts_pass : part? k ≡ true
  unfolding every_from part?
  parts_pass = every_sound 16 part? refl k h

  pub inverse_bytes : bytes (inverse k) ≡ get_or part_inverses k []
  unfolding part?
  inverse_bytes = same_list_lem (bytes (inverse k)) (get_or part_inverses k []) (and_left _ _ parts_pass)

  pub inverse_valid : are_column_bytes (get_or part_inverses k []) ≡ true
  inverse_valid = subst (λ bs. are_column_bytes bs ≡ true) inverse_bytes (bytes_valid (inverse k))

  pub inverse_part : times (inverse k) (evaluated (get_or part_words k [])) ≡ unit
  unfolding part?
  inverse_part = same_perm _ _ (and_right (same_list (bytes (inverse k)) (get_or part_inverses k [])) _ parts_pass)

-- ---- signs: as many − as in both factors, up to an even number

kept? : ℕ → (Axis → Bool) → Bool
unfolding inverse
kept? k σ = eqb (minus_signs (λ a. sign_times (signs (inverse k) a) (σ (axes (inverse k) a))) % 2) ((minus_signs σ + minus_signs (signs (inverse k))) % 2)

kept_every : ℕ → Bool
kept_every k = every_signs (kept? k)

signs_pass : every 16 kept_every ≡ true
unfolding every_from kept_every every_signs every_bool kept? inverse
signs_pass = refl

pub minus_signs_lem : (g : Perm) (k : ℕ) → k < 16 → minus_signs (signs (times g (inverse k))) % 2 ≡ (minus_signs (signs g) + minus_signs (signs (inverse k))) % 2
unfolding kept? kept_every
minus_signs_lem g k h =
    ap (λ σ. minus_signs σ % 2) (signs_times g (inverse k))
    ∙ eqb-true _ _ (every_signs_lem (kept? k) (every_sound 16 kept_every signs_pass k h) (signs g))

-- ---- rows: the halves are kept apart, and the parity is that of the signs

abbrev pub low_axis : Axis → Bool
low_axis a = ltb (row_number a) 3

abbrev pub low_axes : Axis → Axis → Axis → ℕ
low_axes a b c = 4 * bit (low_axis a) + 2 * bit (low_axis b) + bit (low_axis c)

abbrev pub first_axes : (Axis → Axis) → ℕ
first_axes π = low_axes (π e1) (π e2) (π e3)

abbrev pub second_axes : (Axis → Axis) → ℕ
second_axes π = 8 + low_axes (π e4) (π e5) (π e6)

-- the axes that are left
unfoldable pub local_axes : (Axis → Axis) → Axis → Axis
unfolding inverse
local_axes π a = π (axes (inverse (second_axes π)) (axes (inverse (first_axes π)) a))

abbrev pub is_low_half : Axis → Axis → Axis → Bool
is_low_half a b c = low_axis a && (low_axis b && (low_axis c && different (row_number a ∷ row_number b ∷ row_number c ∷ [])))

abbrev pub is_high_half : Axis → Axis → Axis → Bool
is_high_half a b c = not (low_axis a) && (not (low_axis b) && (not (low_axis c) && different (row_number a ∷ row_number b ∷ row_number c ∷ [])))

abbrev pub inversions3 : Axis → Axis → Axis → ℕ
inversions3 a b c = inversions (row_number a ∷ row_number b ∷ row_number c ∷ [])

abbrev splits : (Axis → Axis) → Axis → Axis → Axis → Axis → Axis → Axis → Bool
splits π a b c d e f =
    is_low_half a b c
    && (is_high_half d e f
    && eqb ((inversions (rows π) + inversions3 a b c + inversions3 d e f + minus_signs (signs (inverse (second_axes π))) + minus_signs (signs (inverse (first_axes π)))) % 2) 0)

split? : (Axis → Axis) → Bool
unfolding local_axes
split? π = splits π (local_axes π e1) (local_axes π e2) (local_axes π e3) (local_axes π e4) (local_axes π e5) (local_axes π e6)

abbrev from_list : List Axis → Axis → Axis
from_list l = by_six (get_or l 0 e1) (get_or l 1 e1) (get_or l 2 e1) (get_or l 3 e1) (get_or l 4 e1) (get_or l 5 e1)

rows_pass : arrangements 6 (λ l. split? (from_list l)) [] ≡ true
unfolding arrangements every_axis split? local_axes inverse
rows_pass = refl

every_split : (π : Axis → Axis) → different (rows π) ≡ true → split? π ≡ true
every_split π d =
    subst (λ x. split? x ≡ true) (by_six_lem π)
    (every_arrangement (λ l. split? (from_list l)) (π e1 ∷ π e2 ∷ π e3 ∷ π e4 ∷ π e5 ∷ π e6 ∷ []) rows_pass d)

pub record Split (π : Axis → Axis) (a b c d e f : Axis) : Type 0 where
  pub low : is_low_half a b c ≡ true
  pub high : is_high_half d e f ≡ true
  pub parity : (inversions (rows π) + inversions3 a b c + inversions3 d e f + minus_signs (signs (inverse (second_axes π))) + minus_signs (signs (inverse (first_axes π)))) % 2 ≡ 0

pub split : (π : Axis → Axis) → different (rows π) ≡ true
    → Split π (local_axes π e1) (local_axes π e2) (local_axes π e3) (local_axes π e4) (local_axes π e5) (local_axes π e6)
unfolding split?
split π d =
    let t = every_split π d in
    let u = and_right (is_low_half (local_axes π e1) (local_axes π e2) (local_axes π e3)) _ t in
    record {
      low = and_left (is_low_half (local_axes π e1) (local_axes π e2) (local_axes π e3)) _ t;
      high = and_left (is_high_half (local_axes π e4) (local_axes π e5) (local_axes π e6)) _ u;
      parity = eqb-true _ _ (and_right (is_high_half (local_axes π e4) (local_axes π e5) (local_axes π e6)) _ u);
    }

-- ---- the rotations of either half, after its sign is taken out

abbrev pub is_even3 : Column → Column → Column → Bool
is_even3 a b c = is_even (to_byte a ∷ to_byte b ∷ to_byte c ∷ [])

abbrev pub low_rotation : Column → Column → Column → Perm
low_rotation a b c = perm a b c (col true e4) (col true e5) (col true e6)

abbrev pub high_rotation : Column → Column → Column → Perm
high_rotation a b c = perm (col true e1) (col true e2) (col true e3) a b c

abbrev every_three : (Column → Column → Column → Bool) → Bool
every_three f = every_column (λ a. every_column (λ b. every_column (λ c. f a b c)))

every_three_lem : (f : Column → Column → Column → Bool) → every_three f ≡ true → (a b c : Column) → f a b c ≡ true
every_three_lem f t a b c = every_column_lem (λ c. f a b c) (every_column_lem (λ b. every_column (λ c. f a b c)) (every_column_lem (λ a. every_column (λ b. every_column (λ c. f a b c))) t a) b) c

abbrev is_low_word : Bool → Column → Column → Column → Bool
is_low_word s a b c = same_list (bytes (evaluated (rotation_of s (to_byte a) (to_byte b)))) (bytes (low_rotation (turned s a) (turned s b) (turned s c)))

low? : Column → Column → Column → Bool
unfolding is_even rotation_words
low? a b c = elim (is_low_half (axis_of a) (axis_of b) (axis_of c)) [ true ↦ is_low_word (is_even3 a b c) a b c | false ↦ true ]

low_pass : every_three low? ≡ true
unfolding every_column every_axis every_bool low?
low_pass = refl

pub low_rotation_lem : (a b c : Column) → is_low_half (axis_of a) (axis_of b) (axis_of c) ≡ true
    → evaluated (rotation_of (is_even3 a b c) (to_byte a) (to_byte b)) ≡ low_rotation (turned (is_even3 a b c) a) (turned (is_even3 a b c) b) (turned (is_even3 a b c) c)
unfolding low?
low_rotation_lem a b c h =
    same_perm _ _
    (implied (is_low_half (axis_of a) (axis_of b) (axis_of c)) (is_low_word (is_even3 a b c) a b c) (every_three_lem low? low_pass a b c) h)

abbrev is_high_word : Bool → Column → Column → Column → Bool
is_high_word s a b c = same_list (bytes (evaluated (map on_second (rotation_of s (to_byte a) (to_byte b))))) (bytes (high_rotation (turned s a) (turned s b) (turned s c)))

high? : Column → Column → Column → Bool
unfolding is_even rotation_words
high? a b c = elim (is_high_half (axis_of a) (axis_of b) (axis_of c)) [ true ↦ is_high_word (is_even3 a b c) a b c | false ↦ true ]

high_pass : every_three high? ≡ true
unfolding every_column every_axis every_bool high?
high_pass = refl

pub high_rotation_lem : (a b c : Column) → is_high_half (axis_of a) (axis_of b) (axis_of c) ≡ true
    → evaluated (map on_second (rotation_of (is_even3 a b c) (to_byte a) (to_byte b))) ≡ high_rotation (turned (is_even3 a b c) a) (turned (is_even3 a b c) b) (turned (is_even3 a b c) c)
unfolding high?
high_rotation_lem a b c h =
    same_perm _ _
    (implied (is_high_half (axis_of a) (axis_of b) (axis_of c)) (is_high_word (is_even3 a b c) a b c) (every_three_lem high? high_pass a b c) h)
