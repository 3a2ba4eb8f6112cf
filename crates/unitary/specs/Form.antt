-- The six-by-six form of a unitary: how N acts on antisymmetric matrices A, by N A Nᵀ, in a basis in which the images of the plain gates are,
-- up to a power of ω, those of document 01.
use Rattle.std.specs.Prelude.{Bool, ◌≡◌, List, [], ◌∷◌, ℕ, ◌+◌, ◌*◌, ◌<◌, pos, negsuc, get_or}
use Rattle.matrix.specs.Integer.{equals}
use Rattle.matrix.specs.Range.{first_from}
use Rattle.matrix.specs.Array.{everywhere}
use Rattle.matrix.specs.Operator.{Operator, operator, SameOperator}
use Rattle.clifford.specs.Columns.{times_sign}
use Rattle.sheet_bytes.specs.Bytes.{sheet_of, sheet_sign}
use Rattle.gaussian.specs.declared.Gaussian.{Gaussian}
use Rattle.gaussian.specs.Gaussian.{gaussian, real, unit, one+i, ◌⊖◌, ◌⊗◌, power, Matrix, product, adjoint}
use Rattle.unitary.specs.Unitary.{Quotient}

-- the places above the diagonal, in order: (0,1), (0,2), (0,3), (1,2), (1,3), (2,3)
abbrev pub row_at : ℕ → ℕ
row_at p = get_or (0 ∷ 0 ∷ 0 ∷ 1 ∷ 1 ∷ 2 ∷ []) p 0

abbrev pub column_at : ℕ → ℕ
column_at p = get_or (1 ∷ 2 ∷ 3 ∷ 2 ∷ 3 ∷ 3 ∷ []) p 0

-- the two-by-two minor of rows a, b and columns c, d
abbrev pub minor : Matrix → ℕ → ℕ → ℕ → ℕ → Gaussian
minor N a b c d = N a c ⊗ N b d ⊖ N a d ⊗ N b c

-- the minors of N: N A Nᵀ has at place p the sum over the places q of these times the entries of A
unfoldable pub compound : Matrix → Matrix
compound N = λ p q. minor N (row_at p) (column_at p) (row_at q) (column_at q)

-- six antisymmetric matrices, a column for each, by their entries above the diagonal
abbrev minus : Gaussian
minus = real (negsuc 0)

abbrev minus_unit : Gaussian
minus_unit = gaussian (pos 0) (negsuc 0)

abbrev none : Gaussian
none = real (pos 0)

abbrev pub basis_rows : List (List Gaussian)
basis_rows =
    (unit ∷ real (pos 1) ∷ none ∷ none ∷ none ∷ none ∷ []) ∷
    (none ∷ none ∷ none ∷ minus ∷ unit ∷ none ∷ []) ∷
    (none ∷ none ∷ minus_unit ∷ none ∷ none ∷ real (pos 1) ∷ []) ∷
    (none ∷ none ∷ unit ∷ none ∷ none ∷ real (pos 1) ∷ []) ∷
    (none ∷ none ∷ none ∷ real (pos 1) ∷ unit ∷ none ∷ []) ∷
    (minus_unit ∷ real (pos 1) ∷ none ∷ none ∷ none ∷ none ∷ []) ∷
    []

unfoldable pub basis : Matrix
basis = λ p k. get_or (get_or basis_rows p []) k (real (pos 0))

-- twice the matrix of A ↦ N A Nᵀ in this basis, whose vectors have square norm 2
abbrev pub six_form : Matrix → Matrix
six_form N = product 6 (adjoint basis) (product 6 (compound N) basis)

-- ω to the power t times that of U, over root two to the power t + 2 k + 2: its entries, and its real part as an operator
abbrev pub form_entry : ℕ → Quotient → Matrix
form_entry t U = λ r c. power one+i t ⊗ six_form U.matrix r c

abbrev pub form_at : ℕ → Quotient → Operator
form_at t U = operator (t + (2 * U.exponent + 2)) (λ r c. (form_entry t U r c).re)

-- it is real
abbrev pub Real : ℕ → Quotient → Type 0
Real t U = (r c : ℕ) → r < 6 → c < 6 → (form_entry t U r c).im ≡ pos 0

-- A is a six-by-six form of U: some power of ω makes it real, and then it is A
pub record IsForm (U : Quotient) (A : Operator) : Type 0 where
  pub turn : ℕ
  pub is_real : Real turn U
  pub same : SameOperator (form_at turn U) A

-- ---- the form of sign byte 0

-- whether ω to the power t makes the form real
unfoldable pub is_real : ℕ → Quotient → Bool
is_real t U = everywhere (λ r c. equals (form_entry t U r c).im (pos 0))

-- the first power that does: for every unitary one from 0 to 3 does
abbrev pub turn_of : Quotient → ℕ
turn_of U = first_from (λ t. is_real t U) 0 4

abbrev pub real_form : Quotient → Operator
real_form U = form_at (turn_of U) U

-- "the form of sign byte 0": of the two forms, which are each other's negatives, the one whose sheet says so
abbrev pub form_of : Quotient → Operator
form_of U = times_sign (sheet_sign (sheet_of (real_form U))) (real_form U)
