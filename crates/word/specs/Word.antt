-- The word of a Clifford (document 01, "Gate list": "Its Clifford letters are the builder's choice, from tables printed in docs/").
-- A Clifford is given by the bytes of its columns. Its halves are rows 1 to 3, which the first qubit's gates move, and rows 4 to 6, which
-- the second's do. The word is a rotation of either half, a part that takes columns from one half across to the other, and a part that says
-- which of columns 4 to 6 these are. It multiplies to the Clifford or to its negative.
use Rattle.std.specs.Prelude.{Bool, true, false, cond, List, [], ◌∷◌, ◌++◌, map, ℕ, ◌+◌, ◌*◌, ◌%◌, ltb, get_or}
use Rattle.clifford.specs.Columns.{row_of, is_minus, is_even}
use Rattle.letter.specs.Composition.{composed}
use Rattle.letter.specs.declared.Gate.{Gate}
use Rattle.letter.specs.declared.Gate.TheVariants.{H1, H2, S1, S2, Cz, Cs}

-- ---- the two parts that take columns across

-- whether a column's entry is in rows 1 to 3
abbrev pub is_low : ℕ → Bool
is_low b = ltb (row_of b) 3

abbrev pub bit : Bool → ℕ
bit t = cond t 1 0

-- which of the columns c, c + 1, c + 2 have their entry in rows 1 to 3, as a number of three bits, column c's highest
abbrev pub low_bits : List ℕ → ℕ → ℕ
low_bits bs c = 4 * bit (is_low (get_or bs c 0)) + 2 * bit (is_low (get_or bs (c + 1) 0)) + bit (is_low (get_or bs (c + 2) 0))

-- rows 0 to 7 are for columns 1 to 3, by their `low_bits`, and have a Z for each of these columns that is not low. Rows 8 to 15 are for
-- columns 4 to 6, by theirs
unfoldable pub part_words : List (List Gate)
part_words =
    (Cz ∷ H1 ∷ H2 ∷ Cz ∷ H1 ∷ H2 ∷ Cz ∷ []) ∷
    (Cz ∷ H1 ∷ H2 ∷ Cz ∷ H1 ∷ []) ∷
    (Cz ∷ H1 ∷ H2 ∷ Cz ∷ S1 ∷ []) ∷
    (Cz ∷ H1 ∷ []) ∷
    (Cz ∷ H1 ∷ H2 ∷ Cz ∷ []) ∷
    (Cz ∷ H1 ∷ S1 ∷ []) ∷
    (Cz ∷ []) ∷
    [] ∷
    [] ∷
    [] ∷
    (H2 ∷ S2 ∷ []) ∷
    [] ∷
    (H2 ∷ []) ∷
    (S2 ∷ []) ∷
    (H2 ∷ []) ∷
    [] ∷
    []

-- the columns of the inverse of each row's product
unfoldable pub part_inverses : List (List ℕ)
part_inverses =
    (134 ∷ 5 ∷ 132 ∷ 3 ∷ 130 ∷ 1 ∷ []) ∷
    (3 ∷ 134 ∷ 5 ∷ 4 ∷ 1 ∷ 2 ∷ []) ∷
    (130 ∷ 134 ∷ 5 ∷ 4 ∷ 3 ∷ 129 ∷ []) ∷
    (2 ∷ 3 ∷ 134 ∷ 133 ∷ 4 ∷ 1 ∷ []) ∷
    (1 ∷ 134 ∷ 5 ∷ 4 ∷ 3 ∷ 130 ∷ []) ∷
    (1 ∷ 3 ∷ 134 ∷ 133 ∷ 4 ∷ 130 ∷ []) ∷
    (130 ∷ 1 ∷ 134 ∷ 133 ∷ 4 ∷ 3 ∷ []) ∷
    (1 ∷ 2 ∷ 3 ∷ 4 ∷ 5 ∷ 6 ∷ []) ∷
    (1 ∷ 2 ∷ 3 ∷ 4 ∷ 5 ∷ 6 ∷ []) ∷
    (1 ∷ 2 ∷ 3 ∷ 4 ∷ 5 ∷ 6 ∷ []) ∷
    (1 ∷ 2 ∷ 3 ∷ 6 ∷ 132 ∷ 133 ∷ []) ∷
    (1 ∷ 2 ∷ 3 ∷ 4 ∷ 5 ∷ 6 ∷ []) ∷
    (1 ∷ 2 ∷ 3 ∷ 6 ∷ 133 ∷ 4 ∷ []) ∷
    (1 ∷ 2 ∷ 3 ∷ 133 ∷ 4 ∷ 6 ∷ []) ∷
    (1 ∷ 2 ∷ 3 ∷ 6 ∷ 133 ∷ 4 ∷ []) ∷
    (1 ∷ 2 ∷ 3 ∷ 4 ∷ 5 ∷ 6 ∷ []) ∷
    []

abbrev pub first_part : List ℕ → ℕ
first_part bs = low_bits bs 0

abbrev pub second_part : List ℕ → ℕ
second_part bs = 8 + low_bits bs 3

-- the columns that are left when both parts are taken off on the right: either half stays within itself
unfoldable pub local_columns : List ℕ → List ℕ
local_columns bs = composed (composed bs (get_or part_inverses (second_part bs) [])) (get_or part_inverses (first_part bs) [])

-- ---- the two rotations

-- the number, from 0 to 5, of a signed row within its half; of its negative where the half is not even
abbrev pub axis_number : Bool → ℕ → ℕ
axis_number even b = row_of b % 3 + cond (is_minus b) (cond even 3 0) (cond even 0 3)

-- the 24 rotations of the first half, by the numbers of columns 1 and 2: row 6 × first + second. The other twelve rows are for no rotation
unfoldable pub rotation_words : List (List Gate)
rotation_words =
    [] ∷
    [] ∷
    (H1 ∷ S1 ∷ H1 ∷ []) ∷
    [] ∷
    (H1 ∷ S1 ∷ S1 ∷ H1 ∷ []) ∷
    (S1 ∷ H1 ∷ S1 ∷ []) ∷
    (S1 ∷ H1 ∷ S1 ∷ S1 ∷ H1 ∷ []) ∷
    [] ∷
    (H1 ∷ S1 ∷ S1 ∷ S1 ∷ []) ∷
    (S1 ∷ []) ∷
    [] ∷
    (S1 ∷ S1 ∷ H1 ∷ S1 ∷ []) ∷
    (S1 ∷ H1 ∷ []) ∷
    (S1 ∷ S1 ∷ H1 ∷ []) ∷
    [] ∷
    (H1 ∷ S1 ∷ H1 ∷ S1 ∷ []) ∷
    (H1 ∷ []) ∷
    [] ∷
    [] ∷
    (H1 ∷ S1 ∷ S1 ∷ H1 ∷ S1 ∷ S1 ∷ []) ∷
    (S1 ∷ H1 ∷ S1 ∷ S1 ∷ S1 ∷ []) ∷
    [] ∷
    (S1 ∷ S1 ∷ []) ∷
    (H1 ∷ S1 ∷ H1 ∷ S1 ∷ S1 ∷ []) ∷
    (S1 ∷ S1 ∷ S1 ∷ []) ∷
    [] ∷
    (H1 ∷ S1 ∷ H1 ∷ S1 ∷ S1 ∷ H1 ∷ []) ∷
    (H1 ∷ S1 ∷ S1 ∷ H1 ∷ S1 ∷ []) ∷
    [] ∷
    (H1 ∷ S1 ∷ []) ∷
    (H1 ∷ S1 ∷ H1 ∷ S1 ∷ S1 ∷ S1 ∷ []) ∷
    (H1 ∷ S1 ∷ S1 ∷ []) ∷
    [] ∷
    (S1 ∷ H1 ∷ S1 ∷ S1 ∷ []) ∷
    (S1 ∷ S1 ∷ H1 ∷ S1 ∷ S1 ∷ []) ∷
    [] ∷
    []

-- the same gate on the second qubit
abbrev pub on_second : Gate → Gate
on_second H1 = H2
on_second H2 = H2
on_second S1 = S2
on_second S2 = S2
on_second Cz = Cz
on_second Cs = Cs

-- a word of the first qubit, on the first or on the second
abbrev pub on_qubit : Bool → List Gate → List Gate
on_qubit second w = cond second (map on_second w) w

-- the rotation with these first two columns of a half
abbrev pub rotation_of : Bool → ℕ → ℕ → List Gate
rotation_of even b c = get_or rotation_words (6 * axis_number even b + axis_number even c) []

-- whether the first half of these columns has determinant 1, and not −1
abbrev pub is_even_half : List ℕ → Bool
is_even_half bs = is_even (get_or bs 0 0 ∷ get_or bs 1 0 ∷ get_or bs 2 0 ∷ [])

-- ---- the word

-- the rotation of either half
abbrev pub rotations_of : Bool → List ℕ → List Gate
rotations_of even bs = on_qubit false (rotation_of even (get_or bs 0 0) (get_or bs 1 0)) ++ on_qubit true (rotation_of even (get_or bs 3 0) (get_or bs 4 0))

-- the two parts
abbrev pub parts_of : List ℕ → List Gate
parts_of bs = get_or part_words (first_part bs) [] ++ get_or part_words (second_part bs) []

-- whether the halves have determinant 1: those of a proper permutation have the same
abbrev pub halves_even : List ℕ → Bool
halves_even bs = is_even_half (local_columns bs)

-- the word of a Clifford, up to sign
unfoldable pub clifford_word : List ℕ → List Gate
clifford_word bs = rotations_of (halves_even bs) (local_columns bs) ++ parts_of bs

-- its sign (document 02, P9): "0 for M and 1 for −M"
abbrev pub word_sign : List ℕ → ℕ
word_sign bs = cond (halves_even bs) 0 1

-- how many of the columns 1 to 3 have their entry in rows 4 to 6
abbrev pub crossings : List ℕ → ℕ
crossings bs = cond (is_low (get_or bs 0 0)) 0 1 + cond (is_low (get_or bs 1 0)) 0 1 + cond (is_low (get_or bs 2 0)) 0 1
