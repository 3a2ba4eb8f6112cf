-- The word of the negative of a Clifford has the same letters and the other sign.
use Rattle.std.specs.Prelude.{◌≡◌, refl, Bool, true, false, not, cond, List, [], ◌++◌, ℕ, zero, suc, ◌+◌, ◌%◌, eqb, get_or}
use Rattle.std.proofs.Common.{sym, ◌∙◌, arith, eqb-true}
use Rattle.std.proofs.Math.Path.{ap, ap₂, fun_ext}
use Rattle.clifford.specs.Columns.{signed, are_permutation}
use Rattle.letter.specs.Laws.Signed.{Column, col, Perm, perm, image, turned, times, to_byte, bytes, from_bytes, turned_all, image_turned, times_turned}
use Rattle.letter.specs.Laws.Every.{every_bool, every_axis, every_column, every_bool_lem, every_column_lem}
use Rattle.letter.specs.Laws.Bytes.{axis_of, sign_of, axis_turned, bytes_from, turned_bytes}
use Rattle.word.specs.Word.{bit, axis_number, is_even_half, local_columns, part_words, rotations_of, parts_of, halves_even, clifford_word, word_sign}
use Rattle.word.specs.Laws.Finite.{axes, inverse, first_axes, second_axes, inversions3, is_even3}
use Rattle.word.specs.Laws.Decomposition.{first_part_lem, second_part_lem, local, local_bytes, minus3, even3}

abbrev negated : Perm → Perm
negated g = turned_all false g

-- ---- the parts: where the columns have their entries does not change

axes_negated : (g : Perm) → axes (negated g) ≡ axes g
axes_negated g = fun_ext λ a. ap axis_of (image_turned false g a) ∙ axis_turned false (image g a)

local_negated : (g : Perm) → local (negated g) ≡ negated (local g)
local_negated g =
    let a : Perm = inverse (second_axes (axes g)) in
    let b : Perm = inverse (first_axes (axes g)) in
    ap (λ π. times (times (negated g) (inverse (second_axes π))) (inverse (first_axes π))) (axes_negated g)
    ∙ ap (λ x. times x b) (times_turned false g a)
    ∙ times_turned false (times g a) b

parts_negated : (g : Perm) → parts_of (bytes (negated g)) ≡ parts_of (bytes g)
parts_negated g =
    ap₂ (λ j k. get_or part_words j [] ++ get_or part_words k [])
    (first_part_lem (negated g) ∙ ap first_axes (axes_negated g) ∙ sym (first_part_lem g))
    (second_part_lem (negated g) ∙ ap second_axes (axes_negated g) ∙ sym (second_part_lem g))

-- ---- the rotations: a half's determinant changes its sign, and so do its columns

axis? : Bool → Column → Bool
axis? even c = eqb (axis_number (not even) (to_byte (turned false c))) (axis_number even (to_byte c))

axis_negated : (even : Bool) (c : Column) → axis_number (not even) (to_byte (turned false c)) ≡ axis_number even (to_byte c)
unfolding every_column every_axis every_bool axis?
axis_negated even c = eqb-true _ _ (every_column_lem (axis? even) (every_bool_lem (λ even. every_column (axis? even)) refl even) c)

sign_negated : (c : Column) → bit (not (sign_of (turned false c))) + bit (not (sign_of c)) ≡ 1
sign_negated (col true a) = refl
sign_negated (col false a) = refl

parity_negated : (i m n : ℕ) → n + m ≡ 3 → eqb ((i + n) % 2) 0 ≡ not (eqb ((i + m) % 2) 0)
parity_negated i m n e = other ((i + m) % 2) ((i + n) % 2) (omega arith)
  where
    other : (x y : ℕ) → x + y ≡ 1 → eqb y 0 ≡ not (eqb x 0)
    other zero zero e = absurd (omega arith)
    other zero (suc zero) e = refl
    other zero (suc (suc y)) e = absurd (omega arith)
    other (suc zero) zero e = refl
    other (suc zero) (suc y) e = absurd (omega arith)
    other (suc (suc x)) y e = absurd (omega arith)

even_negated : (a b c : Column) → is_even3 (turned false a) (turned false b) (turned false c) ≡ not (is_even3 a b c)
even_negated a b c =
    let n = minus3 (turned false a) (turned false b) (turned false c) in
    let m : n + minus3 a b c ≡ 3 = let p = sign_negated a in let q = sign_negated b in let r = sign_negated c in omega arith in
    even3 (turned false a) (turned false b) (turned false c)
    ∙ rw (axis_turned false a, axis_turned false b, axis_turned false c) (parity_negated (inversions3 (axis_of a) (axis_of b) (axis_of c)) (minus3 a b c) n m)
    ∙ ap not (sym (even3 a b c))

halves_negated : (r : Perm) → is_even_half (bytes (negated r)) ≡ not (is_even_half (bytes r))
halves_negated (perm a b c d e f) = even_negated a b c

rotations_negated : (r : Perm) → rotations_of (is_even_half (bytes (negated r))) (bytes (negated r)) ≡ rotations_of (is_even_half (bytes r)) (bytes r)
rotations_negated (perm a b c d e f) =
    let s = is_even3 a b c in
    rw (even_negated a b c, axis_negated s a, axis_negated s b, axis_negated s d, axis_negated s e)

-- ---- the theorem

local_columns_negated : (g : Perm) → local_columns (bytes (negated g)) ≡ bytes (negated (local g))
local_columns_negated g = local_bytes (negated g) ∙ ap bytes (local_negated g)

module _ (bs : List ℕ) (p : are_permutation bs ≡ true) where
  as_bytes : signed 1 bs ≡ bytes (negated (from_bytes bs))
  as_bytes = ap (signed 1) (sym (bytes_from bs p)) ∙ sym (turned_bytes false (from_bytes bs))

  pub word_negated : clifford_word (signed 1 bs) ≡ clifford_word bs
  unfolding clifford_word
  word_negated =
      let g : Perm = from_bytes bs in
      ap clifford_word as_bytes
      ∙ ap₂ (λ l p. rotations_of (is_even_half l) l ++ p) (local_columns_negated g) (parts_negated g)
      ∙ ap (λ w. w ++ parts_of (bytes g)) (rotations_negated (local g))
      ∙ ap (λ l. rotations_of (is_even_half l) l ++ parts_of (bytes g)) (sym (local_bytes g))
      ∙ ap clifford_word (bytes_from bs p)

  pub word_sign_negated : word_sign (signed 1 bs) + word_sign bs ≡ 1
  word_sign_negated =
      let g : Perm = from_bytes bs in
      let e : halves_even (signed 1 bs) ≡ not (halves_even bs) =
      ap halves_even as_bytes ∙ ap is_even_half (local_columns_negated g) ∙ halves_negated (local g) ∙ ap (λ l. not (is_even_half l)) (sym (local_bytes g)) ∙ ap (λ x. not (halves_even x)) (bytes_from bs p) in
      rw e (one (halves_even bs))
    where
      one : (t : Bool) → cond (not t) 0 1 + cond t 0 1 ≡ 1
      one true = refl
      one false = refl
