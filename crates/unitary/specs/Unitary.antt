-- Unitaries (document 02, P5), and the plain matrices of the gates (source 001): a four-by-four matrix of Gaussian integers over a power of root two; "the
-- first qubit is the left tensor factor".
use Rattle.std.specs.Prelude.{cond, List, [], ◌∷◌, ℕ, zero, suc, ◌+◌, ◌*◌, ◌/◌, ◌%◌, ◌^◌, ◌<◌, eqb, ℤ, pos, negsuc, get_or}
use Rattle.matrix.specs.Operator.{Equal}
use Rattle.letter.specs.declared.Gate.{Gate}
use Rattle.letter.specs.declared.Gate.TheVariants.{H1, H2, S1, S2, Cz, Cs}
use Rattle.gaussian.specs.declared.Gaussian.{Gaussian}
use Rattle.gaussian.specs.Gaussian.{gaussian, real, unit, one+i, ◌⊗◌, power, Matrix, Same, identity, product, adjoint, scaled}

-- a matrix of four rows and columns, divided by root two to the power of the exponent
pub record Quotient : Type 0 where
  pub exponent : ℕ
  pub matrix : Matrix

abbrev pub quotient : ℕ → Matrix → Quotient
quotient k N = record { exponent = k; matrix = N }

-- "16 Gaussian integers row by row, real then imaginary part": the matrix of 32 numbers
abbrev pub matrix_of : List ℤ → Matrix
matrix_of n = λ i j. gaussian (get_or n (8 * i + 2 * j) (pos 0)) (get_or n (8 * i + 2 * j + 1) (pos 0))

-- N times its conjugate transpose is 2^k
pub record Unitary (U : Quotient) : Type 0 where
  pub rows : Same 4 (product 4 U.matrix (adjoint U.matrix)) (scaled (real (pos (2 ^ U.exponent))) identity)

-- the two stand for the same matrix
pub record SameQuotient (U W : Quotient) : Type 0 where
  pub entries_re : (i j : ℕ) → i < 4 → j < 4 → Equal U.exponent (U.matrix i j).re W.exponent (W.matrix i j).re
  pub entries_im : (i j : ℕ) → i < 4 → j < 4 → Equal U.exponent (U.matrix i j).im W.exponent (W.matrix i j).im

abbrev pub times_quotient : Quotient → Quotient → Quotient
times_quotient U W = quotient (U.exponent + W.exponent) (product 4 U.matrix W.matrix)

-- ω to the power a times U, where ω, the eighth root of unity, is 1 + i over root two
abbrev pub turned : ℕ → Quotient → Quotient
turned a U = quotient (a + U.exponent) (scaled (power one+i a) U.matrix)

-- ---- the plain gates

-- the tensor product of two matrices of two rows and columns
abbrev pub tensor : Matrix → Matrix → Matrix
tensor A B = λ r c. A (r / 2) (c / 2) ⊗ B (r % 2) (c % 2)

abbrev pub diagonal : List Gaussian → Matrix
diagonal xs = λ r c. cond (eqb r c) (get_or xs r (real (pos 0))) (real (pos 0))

-- root two times H
abbrev pub hadamard : Matrix
hadamard zero c = real (pos 1)
hadamard (suc r) zero = real (pos 1)
hadamard (suc r) (suc c) = real (negsuc 0)

abbrev pub phase : Matrix
phase = diagonal (real (pos 1) ∷ unit ∷ [])

unfoldable pub plain : Gate → Quotient
plain H1 = quotient 1 (tensor hadamard identity)
plain H2 = quotient 1 (tensor identity hadamard)
plain S1 = quotient 0 (tensor phase identity)
plain S2 = quotient 0 (tensor identity phase)
plain Cz = quotient 0 (diagonal (real (pos 1) ∷ real (pos 1) ∷ real (pos 1) ∷ real (negsuc 0) ∷ []))
plain Cs = quotient 0 (diagonal (real (pos 1) ∷ real (pos 1) ∷ real (pos 1) ∷ unit ∷ []))

-- the product of a list's plain matrices: the first letter is the leftmost factor
unfoldable pub plain_of : List Gate → Quotient
plain_of [] = quotient 0 identity
plain_of (g ∷ w) = times_quotient (plain g) (plain_of w)

-- the list gives the unitary, up to ω to the power a
abbrev pub Gives : List Gate → ℕ → Quotient → Type 0
Gives w a U = SameQuotient (turned a (plain_of w)) U
