-- Sheets handed in (document 01, "The maker of a sheet"; document 02, P2 and P4).
use Rattle.std.specs.Prelude.{Bool, not, cond, ◌&&◌, ◌||◌, List, ◌≡◌, ℕ, ◌+◌, ◌-◌, eqb, leb, ltb, length, get_or, drop}
use Rattle.matrix.specs.List.{same_list}
use Rattle.matrix.specs.Range.{every}
use Rattle.matrix.specs.Matrix.{listed}
use Rattle.matrix.specs.declared.Scaled.{Scaled}
use Rattle.matrix.specs.Array.{least_form}
use Rattle.clifford.specs.Columns.{are_column_bytes, are_permutation, is_even, is_minus}
use Rattle.sheet_bytes.specs.Bytes.{shortest, longest, sheet_of, sheet_columns, sheet_sign, sheet_operator}

-- bytes whose first says how long they are, as a statement and as a test: where it fails, "a first byte that isn't the length plus 56"
abbrev pub Counted : List ℕ → Type 0
Counted s = get_or s 0 0 ≡ length s + 56

abbrev pub is_counted : List ℕ → Bool
is_counted s = eqb (get_or s 0 0) (length s + 56)

-- "1 to 15"
abbrev pub is_number : ℕ → Bool
is_number g = leb 1 g && leb g 15

-- whether every byte between the first and the columns is a generator's number
abbrev pub are_numbers : List ℕ → Bool
are_numbers s = every (length s - shortest) (λ n. is_number (get_or (drop 1 s) n 0))

-- whether six column bytes are those of a Clifford
abbrev pub is_clifford : List ℕ → Bool
is_clifford bs = are_permutation bs && is_even bs

-- "a last byte above 1 or a negative column 1"
abbrev pub has_wrong_sign : List ℕ → ℕ → Bool
has_wrong_sign bs s = ltb 1 s || is_minus (get_or bs 0 0)

-- the tests of a sheet's bytes in their order: "number 10 allows 8 to" the largest length, "16, a first byte that isn't the length plus 56, directly after 10",
-- "11: a generator byte outside 1 to 15, or a column byte outside 1 to 6 and 129 to 134", "12: the six columns are no Clifford", "15, a last byte
-- above 1 or a negative column 1, directly after 12"; n where they pass all. The largest length is l
abbrev pub bytes_refusal_to : ℕ → List ℕ → ℕ → ℕ
bytes_refusal_to l s n =
    cond (ltb (length s) shortest || ltb l (length s)) 10
    (cond (not (is_counted s)) 16
    (cond (not (are_numbers s && are_column_bytes (sheet_columns s))) 11
    (cond (not (is_clifford (sheet_columns s))) 12
    (cond (has_wrong_sign (sheet_columns s) (sheet_sign s)) 15 n))))

abbrev pub bytes_refusal : List ℕ → ℕ → ℕ
bytes_refusal = bytes_refusal_to longest

-- the refusals of a sheet: these, then "13: cutting its operator gives another sheet". 0 is none
abbrev pub sheet_refusal_to : ℕ → List ℕ → ℕ
sheet_refusal_to l s = bytes_refusal_to l s (cond (not (same_list (sheet_of (sheet_operator s)) s)) 13 0)

unfoldable pub sheet_refusal : List ℕ → ℕ
sheet_refusal s = sheet_refusal_to longest s

-- a sheet's operator at its least exponent
unfoldable pub sheet_least : List ℕ → Scaled
sheet_least s = least_form (sheet_operator s).exponent (listed (sheet_operator s).matrix)
