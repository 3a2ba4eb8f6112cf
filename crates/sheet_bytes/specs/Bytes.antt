-- A sheet's bytes (document 01, "Sheet"; document 02, P2, P4 and P10), and the operator that they stand for.
use Rattle.std.specs.Prelude.{cond, List, [], ◌∷◌, ◌++◌, ℕ, ◌+◌, ◌-◌, ℤ, length, get_or, take, drop}
use Rattle.matrix.specs.Matrix.{entry, listed}
use Rattle.matrix.specs.Operator.{Operator}
use Rattle.clifford.specs.Columns.{columns_matrix, column_bytes, is_minus, times_sign, signed}
use Rattle.reduction.specs.Reduction.{taken, remaining, normal_form}

-- "The sheet's length is t + 8" (P4), "number 10 ends at 68" (P10): the count, the six columns and the sign, and with them up to 60 generators
abbrev pub shortest : ℕ
shortest = 8

abbrev pub longest : ℕ
longest = 68

-- ---- written

-- "The count … becomes the first byte of every sheet, with 64 added"
abbrev pub count_byte : ℕ → ℕ
count_byte t = 64 + t

-- "a last byte says 0 for M or 1 for −M": M is the one of the two whose Clifford has a positive column 1, and bs are the columns of the one at hand
abbrev pub sign_byte : List ℕ → ℕ
sign_byte bs = cond (is_minus (get_or bs 0 0)) 1 0

-- "The sheet's Clifford is now written with column 1 positive": the columns times their own sign
abbrev pub written_columns : List ℕ → List ℕ
written_columns bs = signed (sign_byte bs) bs

-- the first byte, "t bytes with the generator numbers, then six bytes for columns 1 to 6 of the Clifford", and the last byte: of the generators
-- gs, and of the columns bs of what remains after them
unfoldable pub sheet_bytes : List ℕ → List ℕ → List ℕ
sheet_bytes gs bs = count_byte (length gs) ∷ (gs ++ (written_columns bs ++ (sign_byte bs ∷ [])))

-- the sheet of an operator
unfoldable pub sheet : ℕ → List ℤ → List ℕ
sheet k m = sheet_bytes (taken k m) (column_bytes (entry (remaining k m)))

abbrev pub sheet_of : Operator → List ℕ
sheet_of A = sheet A.exponent (listed A.matrix)

-- ---- read

-- as many bytes behind the first as the length says; the first byte itself is compared with the length (refusal 16)
abbrev pub sheet_numbers : List ℕ → List ℕ
sheet_numbers s = take (length s - shortest) (drop 1 s)

-- the six bytes before the last
abbrev pub sheet_columns : List ℕ → List ℕ
sheet_columns s = take 6 (drop (length s - 7) s)

abbrev pub sheet_sign : List ℕ → ℕ
sheet_sign s = get_or s (length s - 1) 0

-- "its generators in order, times its Clifford", times the sign
abbrev pub sheet_operator : List ℕ → Operator
sheet_operator s = times_sign (sheet_sign s) (normal_form (sheet_numbers s) (columns_matrix (sheet_columns s)))

-- the bytes "before that byte", in which M and −M agree
abbrev pub before_sign : List ℕ → List ℕ
before_sign s = take (length s - 1) s
