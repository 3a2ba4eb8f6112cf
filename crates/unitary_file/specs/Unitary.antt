-- A unitary's 65 bytes (document 02, P5), and the refusals 17, 18 and 19.
use Rattle.std.specs.Prelude.{Bool, not, cond, ◌||◌, List, ℕ, ◌/◌, ◌%◌, ◌^◌, ◌≤◌, eqb, ltb, ℤ, pos, nat_abs, ◌*ℤ◌, length, get_or}
use Rattle.std.specs.Int.Signed.{le_z}
use Rattle.matrix.specs.Range.{every, tabulate}
use Rattle.matrix.specs.Matrix.{δ}
use Rattle.file.specs.File.{short_file, file_exponent, entry_of}
use Rattle.gaussian.specs.Gaussian.{real, norm_of, Matrix, product, adjoint, equals}
use Rattle.unitary.specs.Unitary.{Quotient, quotient, matrix_of}

-- "an exponent k from 0 to" 29: "P5's exponent, and with it 17, rises to 29" (document 02, P10)
abbrev pub largest_unitary : ℕ
largest_unitary = 29

-- "Accept 65 bytes"
abbrev pub unitary_length : ℕ
unitary_length = 65

-- "16 Gaussian integers row by row, real then imaginary part, 16 bits each, low byte first, two's complement"
unfoldable pub unitary_entries : List ℕ → List ℤ
unitary_entries b = tabulate (entry_of short_file b) 0 32

-- the unitary of 65 bytes
abbrev pub unitary_of : List ℕ → Quotient
unitary_of b = quotient (file_exponent b) (matrix_of (unitary_entries b))

-- each of the numbers fits 16 bits in two's complement: what rules out overflow
abbrev pub Narrow : List ℤ → Type 0
Narrow n = (i : ℕ) → nat_abs (get_or n i (pos 0)) ≤ 2 ^ 15

-- whether no entry's squared size exceeds 2 to the power k
unfoldable pub is_small : ℕ → Matrix → Bool
is_small k N = every 16 (λ p. le_z (norm_of (N (p / 4) (p % 4))) (pos (2 ^ k)))

-- whether rows i and j have the product that rows of a unitary have: row i times the conjugate of row j
abbrev pub unitary_at : ℤ → Matrix → ℕ → ℕ → Bool
unitary_at q N i j = equals (product 4 N (adjoint N) i j) (real (q *ℤ δ i j))

-- whether N over root two to the power k is unitary
unfoldable pub is_unitary : ℕ → Matrix → Bool
is_unitary k N = every 16 (λ p. unitary_at (pos (2 ^ k)) N (p / 4) (p % 4))

-- the refusals for its entries: "18, an entry whose squared size exceeds 2 to the power k; 19, not unitary"
abbrev pub entries_refusal : Quotient → ℕ
entries_refusal U = cond (not (is_small U.exponent U.matrix)) 18 (cond (not (is_unitary U.exponent U.matrix)) 19 0)

-- all of its refusals, "in that order": "17, wrong length or k above" 29, then those for its entries. 0 is none
unfoldable pub unitary_refusal : List ℕ → ℕ
unitary_refusal b = cond (not (eqb (length b) unitary_length) || ltb largest_unitary (file_exponent b)) 17 (entries_refusal (unitary_of b))
