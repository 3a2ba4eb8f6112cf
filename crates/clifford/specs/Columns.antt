-- Signed permutations by their columns (document 01, "Sheet"): "six bytes for columns 1 to 6 of the Clifford: r for +1 in row r, 128 + r
-- for −1". Rows and columns are counted from 0 here, so byte r + 1 or r + 129 stands for row r.
use Rattle.std.specs.Prelude.{Bool, true, not, cond, ◌&&◌, ◌||◌, List, [], ◌∷◌, map, ◌≢◌, ◌⊎◌, ◌≡◌, ℕ, ◌+◌, ◌-◌, ◌%◌, ◌<◌, eqb, leb, ltb, ℤ, pos, negsuc, length, get_or}
use Rattle.matrix.specs.Range.{first_from, tabulate}
use Rattle.matrix.specs.Integer.{equals}
use Rattle.matrix.specs.Matrix.{Matrix, scaled}
use Rattle.matrix.specs.Operator.{Operator, operator, Proper}

-- the entry in row r of the column with byte b
abbrev pub column_entry : ℕ → ℕ → ℤ
column_entry b r = cond (eqb b (r + 1)) (pos 1) (cond (eqb b (r + 129)) (negsuc 0) (pos 0))

-- the matrix whose columns these bytes are
abbrev pub columns_matrix : List ℕ → Matrix
columns_matrix bs r c = column_entry (get_or bs c 0) r

-- "1 to 6 and 129 to 134"
abbrev pub is_column_byte : ℕ → Bool
is_column_byte b = (leb 1 b && leb b 6) || (leb 129 b && leb b 134)

-- the row of a byte's entry, and whether the entry is −1
abbrev pub row_of : ℕ → ℕ
row_of b = cond (leb b 128) (b - 1) (b - 129)

abbrev pub is_minus : ℕ → Bool
is_minus b = leb 129 b

-- the byte of −1 times a column
abbrev pub negated : ℕ → ℕ
negated b = cond (ltb b 128) (b + 128) (b - 128)

-- a sign as a byte: 0 for +1, any other for −1. The number that it stands for
abbrev pub sign_of : ℕ → ℤ
sign_of s = cond (eqb s 0) (pos 1) (negsuc 0)

-- an operator times a sign
abbrev pub times_sign : ℕ → Operator → Operator
times_sign s A = operator A.exponent (scaled (sign_of s) A.matrix)

-- a column's byte times the sign s, and so of all columns
abbrev pub signed_byte : ℕ → ℕ → ℕ
signed_byte s b = cond (eqb s 0) b (negated b)

abbrev pub signed : ℕ → List ℕ → List ℕ
signed s bs = map (signed_byte s) bs

-- how many of these rows are below row r
abbrev pub below : ℕ → List ℕ → ℕ
below r [] = 0
below r (s ∷ ss) = cond (ltb s r) 1 0 + below r ss

-- how many pairs of columns have their rows in the other order
abbrev pub inversions : List ℕ → ℕ
inversions [] = 0
inversions (r ∷ rs) = below r rs + inversions rs

-- how many columns have −1
abbrev pub minuses : List ℕ → ℕ
minuses [] = 0
minuses (b ∷ bs) = cond (is_minus b) 1 0 + minuses bs

-- the parity of the permutation and of its minus signs: the sign of the determinant
unfoldable pub is_even : List ℕ → Bool
is_even bs = eqb ((inversions (map row_of bs) + minuses bs) % 2) 0

abbrev pub differs : ℕ → List ℕ → Bool
differs r [] = true
differs r (s ∷ ss) = not (eqb r s) && differs r ss

abbrev pub different : List ℕ → Bool
different [] = true
different (r ∷ rs) = differs r rs && different rs

abbrev pub are_column_bytes : List ℕ → Bool
are_column_bytes [] = true
are_column_bytes (b ∷ bs) = is_column_byte b && are_column_bytes bs

-- six columns of a signed permutation: "one entry of +1 or −1 in each row and column"
unfoldable pub are_permutation : List ℕ → Bool
are_permutation bs = eqb (length bs) 6 && (are_column_bytes bs && different (map row_of bs))

-- the byte of column c of a matrix: of its first entry that is not 0
abbrev pub column_row : Matrix → ℕ → ℕ
column_row M c = first_from (λ r. not (equals (M r c) (pos 0))) 0 6

unfoldable pub column_byte : Matrix → ℕ → ℕ
column_byte M c = column_row M c + cond (equals (M (column_row M c) c) (pos 1)) 1 129

-- "six bytes for columns 1 to 6"
abbrev pub column_bytes : Matrix → List ℕ
column_bytes M = tabulate (column_byte M) 0 6

-- one of the six numbers is +1 or −1, the others are 0
abbrev pub OneUnit : (ℕ → ℤ) → Type 0
OneUnit v = (c : ℕ) × (c < 6) × ((v c ≡ pos 1) ⊎ (v c ≡ negsuc 0)) × ((d : ℕ) → d < 6 → d ≢ c → v d ≡ pos 0)

-- "A Clifford is a proper operator whose matrix has one entry of +1 or −1 in each row and column, with exponent 0"
pub record Clifford (A : Operator) : Type 0 where
  pub exponent_zero : A.exponent ≡ 0
  pub row : (r : ℕ) → r < 6 → OneUnit (A.matrix r)
  pub column : (c : ℕ) → c < 6 → OneUnit (λ r. A.matrix r c)
  pub proper : Proper A
