-- Square matrices of whole numbers (document 01, "Operators"). A matrix is a function of a row and a column, both counted from 0; what it
-- gives outside its size means nothing. An array of 36 numbers, row by row, is seen as such a function by `entry`.
use Rattle.std.specs.Prelude.{cond, List, ◌≡◌, ℕ, ◌+◌, ◌*◌, ◌/◌, ◌%◌, ◌<◌, eqb, ℤ, pos, ◌+ℤ◌, ◌*ℤ◌, get_or}
use Rattle.matrix.specs.Range.{sum, tabulate}

abbrev pub Matrix : Type 0
Matrix = ℕ → ℕ → ℤ

-- the same entries, where they count
abbrev pub Same : ℕ → Matrix → Matrix → Type 0
Same n A B = (i j : ℕ) → i < n → j < n → A i j ≡ B i j

-- Kronecker's delta: the identity matrix
unfoldable pub δ : ℕ → ℕ → ℤ
δ i j = cond (eqb i j) (pos 1) (pos 0)

abbrev pub product : ℕ → Matrix → Matrix → Matrix
product n A B = λ i k. sum n (λ j. A i j *ℤ B j k)

abbrev pub transpose : Matrix → Matrix
transpose A = λ i j. A j i

-- a number times a matrix
abbrev pub scaled : ℤ → Matrix → Matrix
scaled c A = λ i j. c *ℤ A i j

-- M with its row k replaced by v
unfoldable pub replaced : ℕ → (ℕ → ℤ) → Matrix → Matrix
replaced k v M r = cond (eqb r k) v (M r)

-- M with its rows i and j replaced by a ri + b rj and c ri + d rj. Of the identity it is the matrix of this row operation
abbrev pub combined : ℕ → ℕ → ℤ → ℤ → ℤ → ℤ → Matrix → Matrix
combined i j a b c d M = replaced i (λ s. a *ℤ M i s +ℤ b *ℤ M j s) (replaced j (λ s. c *ℤ M i s +ℤ d *ℤ M j s) M)

-- document 01: "the product of two rows"
abbrev pub row_product : ℕ → Matrix → ℕ → ℕ → ℤ
row_product n M i j = sum n (λ c. M i c *ℤ M j c)

-- the product of two different rows is 0 and that of each row with itself is q
abbrev pub OrthogonalRows : ℕ → ℤ → Matrix → Type 0
OrthogonalRows n q M = (i j : ℕ) → i < n → j < n → row_product n M i j ≡ q *ℤ δ i j

-- an array's value as a matrix: "36 whole numbers, row by row"
abbrev pub entry : List ℤ → Matrix
entry m r c = get_or m (r * 6 + c) (pos 0)

-- the array of a matrix
unfoldable pub listed : Matrix → List ℤ
listed M = tabulate (λ n. M (n / 6) (n % 6)) 0 36
