-- Every proper signed permutation is what its word multiplies to, times a sign.
use Rattle.std.specs.Prelude.{◌≡◌, refl, Bool, true, false, not, List, [], ◌++◌, map, ℕ, ◌+◌, ◌%◌, ◌<◌, eqb, get_or}
use Rattle.std.proofs.Common.{sym, ap, ap₂, subst, ◌∙◌, arith}
use Rattle.clifford.specs.Columns.{different, inversions, is_even}
use Rattle.letter.specs.declared.Gate.{Gate}
use Rattle.word.specs.Word.{bit, first_part, second_part, part_words, part_inverses, local_columns, rotation_of, on_second, is_even_half, halves_even, rotations_of, clifford_word}
use Rattle.letter.specs.Composition.{composed}
use Rattle.letter.specs.Laws.Signed.{Axis, e1, e2, e3, e4, e5, e6, Column, col, Perm, perm, turned, apply, times, to_byte, bytes, evaluated, times_assoc, times_unit, unit_times, evaluated_append, turned_all, times_turned}
use Rattle.matrix.specs.Laws.Test.{and_left, and_right}
use Rattle.letter.specs.Laws.Bytes.{axis_of, sign_of, axis_turned, row_byte, composed_bytes}
use Rattle.word.specs.Laws.Finite.{minus_byte, bit_le, axes, signs, rows, minus_signs, axes_times, inverse, inverse_bytes, inverse_part, minus_signs_lem, low_axis, low_axes, first_axes, second_axes, local_axes, is_low_half, is_high_half, inversions3, Split, split, is_even3, low_rotation, high_rotation, low_rotation_lem, high_rotation_lem}

-- ---- the columns that are left

low_axes_lt : (a b c : Axis) → low_axes a b c < 8
low_axes_lt a b c = let p = bit_le (low_axis a) in let q = bit_le (low_axis b) in let r = bit_le (low_axis c) in omega arith

first_lt : (π : Axis → Axis) → first_axes π < 16
first_lt π = let h = low_axes_lt (π e1) (π e2) (π e3) in omega arith

second_lt : (π : Axis → Axis) → second_axes π < 16
second_lt π = let h = low_axes_lt (π e4) (π e5) (π e6) in omega arith

pub first_part_lem : (g : Perm) → first_part (bytes g) ≡ first_axes (axes g)
first_part_lem (perm a b c d e f) = rw (row_byte a, row_byte b, row_byte c)

pub second_part_lem : (g : Perm) → second_part (bytes g) ≡ second_axes (axes g)
second_part_lem (perm a b c d e f) = rw (row_byte d, row_byte e, row_byte f)

abbrev pub local : Perm → Perm
local g = times (times g (inverse (second_axes (axes g)))) (inverse (first_axes (axes g)))

pub local_bytes : (g : Perm) → local_columns (bytes g) ≡ bytes (local g)
unfolding local_columns
local_bytes g =
    ap₂ (λ j k. composed (composed (bytes g) (get_or part_inverses j [])) (get_or part_inverses k [])) (second_part_lem g) (first_part_lem g)
    ∙ ap₂ (λ x y. composed (composed (bytes g) x) y) (sym (inverse_bytes _ (second_lt (axes g)))) (sym (inverse_bytes _ (first_lt (axes g))))
    ∙ ap (λ x. composed x (bytes (inverse (first_axes (axes g))))) (composed_bytes g (inverse (second_axes (axes g))))
    ∙ composed_bytes (times g (inverse (second_axes (axes g)))) (inverse (first_axes (axes g)))

local_axes_lem : (g : Perm) → axes (local g) ≡ local_axes (axes g)
unfolding local_axes
local_axes_lem g =
    axes_times (times g (inverse (second_axes (axes g)))) (inverse (first_axes (axes g)))
    ∙ ap (λ π a. π (axes (inverse (first_axes (axes g))) a)) (axes_times g (inverse (second_axes (axes g))))

-- ---- the two halves of what is left

-- a rotation of the first half leaves the second
high_fixed : (a b c d : Column) → not (low_axis (axis_of d)) ≡ true → apply (low_rotation a b c) d ≡ d
high_fixed a b c (col s e1) h = cc
high_fixed a b c (col s e2) h = cc
high_fixed a b c (col s e3) h = cc
high_fixed a b c (col true e4) h = refl
high_fixed a b c (col false e4) h = refl
high_fixed a b c (col true e5) h = refl
high_fixed a b c (col false e5) h = refl
high_fixed a b c (col true e6) h = refl
high_fixed a b c (col false e6) h = refl

high_turned : (s : Bool) (d : Column) → not (low_axis (axis_of d)) ≡ true → not (low_axis (axis_of (turned s d))) ≡ true
high_turned s d h = rw axis_turned h

module _ (a b c d e f : Column) (low : is_low_half (axis_of a) (axis_of b) (axis_of c) ≡ true) (high : is_high_half (axis_of d) (axis_of e) (axis_of f) ≡ true) where
  together : (s : Bool) → times (low_rotation (turned s a) (turned s b) (turned s c)) (high_rotation (turned s d) (turned s e) (turned s f)) ≡ turned_all s (perm a b c d e f)
  together s =
      let h2 = and_right (not (low_axis (axis_of d))) _ high in
      let h3 = and_right (not (low_axis (axis_of e))) _ h2 in
      let p = high_fixed (turned s a) (turned s b) (turned s c) (turned s d) (high_turned s d (and_left (not (low_axis (axis_of d))) _ high)) in
      let q = high_fixed (turned s a) (turned s b) (turned s c) (turned s e) (high_turned s e (and_left (not (low_axis (axis_of e))) _ h2)) in
      let r = high_fixed (turned s a) (turned s b) (turned s c) (turned s f) (high_turned s f (and_left (not (low_axis (axis_of f))) _ h3)) in
      λ i. perm (turned s a) (turned s b) (turned s c) (p i) (q i) (r i)

  halves : is_even3 a b c ≡ is_even3 d e f
      → times (evaluated (rotation_of (is_even3 a b c) (to_byte a) (to_byte b))) (evaluated (map on_second (rotation_of (is_even3 a b c) (to_byte d) (to_byte e))))
      ≡ turned_all (is_even3 a b c) (perm a b c d e f)
  halves p =
      ap₂ times (low_rotation_lem a b c low)
      (subst (λ s. evaluated (map on_second (rotation_of s (to_byte d) (to_byte e))) ≡ high_rotation (turned s d) (turned s e) (turned s f)) (sym p) (high_rotation_lem d e f high))
      ∙ together (is_even3 a b c)

-- ---- the halves have one determinant

abbrev pub minus3 : Column → Column → Column → ℕ
minus3 a b c = bit (not (sign_of a)) + (bit (not (sign_of b)) + (bit (not (sign_of c)) + 0))

pub even3 : (a b c : Column) → is_even3 a b c ≡ eqb ((inversions3 (axis_of a) (axis_of b) (axis_of c) + minus3 a b c) % 2) 0
unfolding is_even
even3 a b c = rw (row_byte a, row_byte b, row_byte c, minus_byte a, minus_byte b, minus_byte c)

-- ---- the theorem

pub record Proper (g : Perm) : Type 0 where
  pub permutes : different (rows (axes g)) ≡ true
  pub even : (inversions (rows (axes g)) + minus_signs (signs g)) % 2 ≡ 0

minus_signs_local : (g : Perm) → minus_signs (signs (local g)) % 2 ≡ (minus_signs (signs g) + minus_signs (signs (inverse (second_axes (axes g)))) + minus_signs (signs (inverse (first_axes (axes g))))) % 2
minus_signs_local g =
    let p = minus_signs_lem g (second_axes (axes g)) (second_lt (axes g)) in
    let q = minus_signs_lem (times g (inverse (second_axes (axes g)))) (first_axes (axes g)) (first_lt (axes g)) in
    omega arith

-- both rotations, from the columns that are left
rotations_local : (g r : Perm) → Proper g → local g ≡ r → evaluated (rotations_of (is_even_half (bytes r)) (bytes r)) ≡ turned_all (is_even_half (bytes r)) r
rotations_local g (perm a b c d e f) w l =
    let π = axes g in
    let s : Split π (axis_of a) (axis_of b) (axis_of c) (axis_of d) (axis_of e) (axis_of f) =
    subst (λ ρ. Split π (ρ e1) (ρ e2) (ρ e3) (ρ e4) (ρ e5) (ρ e6)) (sym (local_axes_lem g) ∙ ap axes l) (split π w.permutes) in
    let m : (minus3 a b c + minus3 d e f) % 2 ≡ (minus_signs (signs g) + minus_signs (signs (inverse (second_axes π))) + minus_signs (signs (inverse (first_axes π)))) % 2 =
    let t : minus_signs (signs (perm a b c d e f)) % 2 ≡ (minus_signs (signs g) + minus_signs (signs (inverse (second_axes π))) + minus_signs (signs (inverse (first_axes π)))) % 2 =
    ap (λ x. minus_signs (signs x) % 2) (sym l) ∙ minus_signs_local g in
    omega arith in
    let p = s.parity in
    let v = w.even in
    let o : (inversions3 (axis_of a) (axis_of b) (axis_of c) + minus3 a b c) % 2 ≡ (inversions3 (axis_of d) (axis_of e) (axis_of f) + minus3 d e f) % 2 = omega arith in
    evaluated_append (rotation_of (is_even3 a b c) (to_byte a) (to_byte b)) (map on_second (rotation_of (is_even3 a b c) (to_byte d) (to_byte e)))
    ∙ halves a b c d e f s.low s.high (even3 a b c ∙ ap (λ x. eqb x 0) o ∙ sym (even3 d e f))

-- both parts come off again
parts_back : (g : Perm) → times (local g) (times (evaluated (get_or part_words (first_axes (axes g)) [])) (evaluated (get_or part_words (second_axes (axes g)) []))) ≡ g
parts_back g =
    let a : Perm = inverse (first_axes (axes g)) in
    let b : Perm = inverse (second_axes (axes g)) in
    let p : Perm = evaluated (get_or part_words (first_axes (axes g)) []) in
    let q : Perm = evaluated (get_or part_words (second_axes (axes g)) []) in
    times_assoc (times g b) a (times p q)
    ∙ ap (times (times g b)) (sym (times_assoc a p q) ∙ ap (λ x. times x q) (inverse_part _ (first_lt (axes g))) ∙ unit_times q)
    ∙ times_assoc g b q
    ∙ ap (times g) (inverse_part _ (second_lt (axes g)))
    ∙ times_unit g

-- the word, from the columns that are left and its two parts
abbrev word_with : List ℕ → List Gate → List Gate → List Gate
word_with l p q = rotations_of (is_even_half l) l ++ (p ++ q)

pub decomposes : (g : Perm) → Proper g → evaluated (clifford_word (bytes g)) ≡ turned_all (halves_even (bytes g)) g
unfolding clifford_word
decomposes g w =
    let p : List Gate = get_or part_words (first_axes (axes g)) [] in
    let q : List Gate = get_or part_words (second_axes (axes g)) [] in
    let l : List ℕ = bytes (local g) in
    ap₂ (λ j k. evaluated (word_with (local_columns (bytes g)) (get_or part_words j []) (get_or part_words k []))) (first_part_lem g) (second_part_lem g)
    ∙ ap (λ l. evaluated (word_with l p q)) (local_bytes g)
    ∙ evaluated_append (rotations_of (is_even_half l) l) (p ++ q)
    ∙ ap₂ times (rotations_local g (local g) w refl) (evaluated_append p q)
    ∙ times_turned (is_even_half l) (local g) (times (evaluated p) (evaluated q))
    ∙ ap (turned_all (is_even_half l)) (parts_back g)
    ∙ ap (λ l. turned_all (is_even_half l) g) (sym (local_bytes g))
