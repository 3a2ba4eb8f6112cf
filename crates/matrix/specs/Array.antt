-- What the code of this crate computes of a matrix, each as document 01 says it ("Operators", "The rule of cutting", refusals 3 and 4).
use Rattle.std.specs.Prelude.{Bool, true, false, ◌||◌, List, ℕ, zero, suc, ◌/◌, ◌%◌, ◌^◌, ◌<◌, ◌≤◌, eqb, ltb, ℤ, pos, nat_abs, ◌+ℤ◌, ◌-ℤ◌, ◌*ℤ◌, get_or, set}
use Rattle.std.specs.Int.Signed.{le_z}
use Rattle.matrix.specs.Range.{every, first_from, bits, total}
use Rattle.matrix.specs.Integer.{parity, half, equals}
use Rattle.matrix.specs.Matrix.{Matrix, δ, replaced, row_product, entry, listed}
use Rattle.matrix.specs.Operator.{Operator, operator}
use Rattle.matrix.specs.declared.Scaled.{Scaled}

-- no entry is larger than b, in size: what rules out overflow
pub record Bounded (b : ℕ) (M : Matrix) : Type 0 where
  pub size : (r c : ℕ) → r < 6 → c < 6 → nat_abs (M r c) ≤ b

-- the test f at each of the 36 entries, row by row
abbrev pub everywhere : (ℕ → ℕ → Bool) → Bool
everywhere f = every 36 (λ n. f (n / 6) (n % 6))

-- whether rows i and j have the product that orthogonal rows of square norm q have. A pair of rows needs looking at once only
abbrev pub orthogonal_at : ℤ → Matrix → ℕ → ℕ → Bool
orthogonal_at q M i j = ltb j i || equals (row_product 6 M i j) (q *ℤ δ i j)

-- whether (k, M) is orthogonal
unfoldable pub is_orthogonal : ℕ → Matrix → Bool
is_orthogonal k M = everywhere (orthogonal_at (pos (2 ^ k)) M)

-- whether no entry's square exceeds 2 to the power k
unfoldable pub is_within : ℕ → Matrix → Bool
is_within k M = everywhere (λ r c. le_z (M r c *ℤ M r c) (pos (2 ^ k)))

-- "the odd entries of a row, as six bits": bit c is set where the entry in column c is odd
unfoldable pub row_mask : Matrix → ℕ → ℕ
row_mask M r = bits (λ c. parity (M r c)) 0 6

-- how many entries of a row are odd
unfoldable pub row_weight : Matrix → ℕ → ℕ
row_weight M r = total (λ c. parity (M r c)) 0 6

-- whether entry n, row by row, is odd
abbrev pub odd_at : Matrix → ℕ → Bool
odd_at M n = eqb (parity (M (n / 6) (n % 6))) 1

-- document 02, P6: row by row, "how many entries stand before the first odd one, 36 exactly when all are even"
unfoldable pub before_odd : Matrix → ℕ
before_odd M = first_from (odd_at M) 0 36

abbrev pub halved : Matrix → Matrix
halved M = λ r c. half (M r c)

-- "rows i and j become half of (ri + rj) and half of (rj − ri)"
abbrev pub half_sums : ℕ → ℕ → Matrix → Matrix
half_sums i j M = replaced i (λ c. half (M i c +ℤ M j c)) (replaced j (λ c. half (M j c -ℤ M i c)) M)

-- the same of two entries, at p and q of an array
abbrev pub half_pair : ℕ → ℕ → List ℤ → List ℤ
half_pair p q m =
    let x = get_or m p (pos 0) in
    let y = get_or m q (pos 0) in
    set (set m p (half (x +ℤ y))) q (half (y -ℤ x))

abbrev pub choose : {A : Type 0} → Bool → A → A → A
choose true x y = x
choose false x y = y

-- the operator that an exponent and an array of 36 numbers stand for
abbrev pub operator_of : Scaled → Operator
operator_of l = operator l.exponent (entry l.matrix)

-- an exponent and an array of 36 numbers, as `least_form` gives them
abbrev pub least : ℕ → List ℤ → Scaled
least k m = record { exponent = k; matrix = m }

-- the operator at its least exponent: "where all entries are even and k is at least 2, halving them lowers k by 2"
unfoldable pub least_form : ℕ → List ℤ → Scaled
least_form zero m = least 0 m
least_form (suc zero) m = least 1 m
least_form (suc (suc k)) m =
    choose (eqb (before_odd (entry m)) 36) (least_form k (listed (halved (entry m)))) (least (suc (suc k)) m)
