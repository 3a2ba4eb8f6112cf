-- Operators (document 01, "Operators"), for every exponent.
use Rattle.std.specs.Prelude.{◌⊎◌, ◌≡◌, ℕ, zero, suc, ◌+◌, ◌^◌, ◌<◌, ◌≤◌, ℤ, pos, negsuc, ◌+ℤ◌, ◌<ℤ◌}
use Rattle.matrix.specs.Integer.{Even}
use Rattle.matrix.specs.Matrix.{Matrix, δ, product, transpose, scaled, OrthogonalRows}
use Rattle.matrix.specs.Determinant.{det}

-- ---- ℤ[√2]: the pair (a, b) is a + b √2

abbrev pub Surd : Type 0
Surd = ℤ × ℤ

abbrev pub whole : ℤ → Surd
whole a = (a, pos 0)

-- times √2
abbrev pub root : Surd → Surd
root x = (x.1 +ℤ x.1, x.0)

-- times √2 to the power k
unfoldable pub raised : ℕ → Surd → Surd
raised zero x = x
raised (suc k) x = root (raised k x)

-- a / √2^k is b / √2^l, multiplied out
abbrev pub Equal : ℕ → ℤ → ℕ → ℤ → Type 0
Equal k a l b = raised l (whole a) ≡ raised k (whole b)

-- ---- operators

-- "a matrix M of 36 whole numbers, row by row, with an exponent k; it stands for M divided by root two to the power k"
pub record Operator : Type 0 where
  pub exponent : ℕ
  pub matrix : Matrix

abbrev pub operator : ℕ → Matrix → Operator
operator k M = record { exponent = k; matrix = M }

-- the product of two operators
abbrev pub times_operator : Operator → Operator → Operator
times_operator A B = operator (A.exponent + B.exponent) (product 6 A.matrix B.matrix)

-- the identity, at exponent 0
abbrev pub identity : Operator
identity = operator 0 δ

-- the inverse of an orthogonal operator: its transpose, at the same exponent
abbrev pub inverse : Operator → Operator
inverse A = operator A.exponent (transpose A.matrix)

-- the two stand for the same matrix
pub record SameOperator (A B : Operator) : Type 0 where
  pub entries : (i j : ℕ) → i < 6 → j < 6 → Equal A.exponent (A.matrix i j) B.exponent (B.matrix i j)

-- −M
abbrev pub negative : Operator → Operator
negative A = operator A.exponent (scaled (negsuc 0) A.matrix)

-- "Two operators agree up to sign" (document 02, P2): the two stand for the same matrix, or for a matrix and its negative
abbrev pub SameUpToSign : Operator → Operator → Type 0
SameUpToSign A B = SameOperator A B ⊎ SameOperator A (negative B)

-- "the product of two different rows is 0 and that of each row with itself is 2 to the power k"
pub record Orthogonal (A : Operator) : Type 0 where
  pub rows : OrthogonalRows 6 (pos (2 ^ A.exponent)) A.matrix

-- "the determinant of M is positive"
pub record Proper (A : Operator) : Type 0 where
  pub positive : pos 0 <ℤ det 6 A.matrix

-- document 02's "proper orthogonal operators"
pub record ProperOrthogonal (A : Operator) : Type 0 where
  pub orthogonal : Orthogonal A
  pub proper : Proper A

-- "the smallest k for which the same operator has whole-number entries"
pub record LeastExponent (A : Operator) (l : ℕ) : Type 0 where
  pub attained : (N : Matrix) × SameOperator A (operator l N)
  pub smallest : (B : Operator) → SameOperator A B → l ≤ B.exponent

-- all entries are even
abbrev pub AllEven : Matrix → Type 0
AllEven M = (i j : ℕ) → i < 6 → j < 6 → Even (M i j)

-- it cannot be halved: "where all entries are even and k is at least 2, halving them lowers k by 2"
pub record Reduced (A : Operator) : Type 0 where
  pub small : AllEven A.matrix → A.exponent ≤ 1
