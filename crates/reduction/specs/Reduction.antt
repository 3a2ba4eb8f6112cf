-- The rule of cutting (document 01), for operators of every exponent. A matrix is the value of an array of 36 numbers.
use Rattle.std.specs.Prelude.{Bool, cond, List, [], ◌∷◌, ℕ, zero, suc, ◌+◌, ℤ}
use Rattle.matrix.specs.Matrix.{Matrix, entry, listed}
use Rattle.matrix.specs.Operator.{Operator, operator, times_operator}
use Rattle.matrix.specs.Array.{row_mask, half_sums, least_form}
use Rattle.residue.specs.Generator.{low, high, generator, first_fit}
use Rattle.grouping.specs.Grouping.{is_loose}

-- document 01's cut: "put its inverse on the left: rows i and j become half of (ri + rj) and half of (rj − ri)"
abbrev pub cut : ℕ → Matrix → Matrix
cut g M = half_sums (low g 0) (high g 0) (half_sums (low g 1) (high g 1) (half_sums (low g 2) (high g 2) M))

-- "the lowest-numbered generator whose every pair lies inside a group"
abbrev pub chosen : List ℤ → ℕ
chosen m = first_fit (row_mask (entry m))

abbrev pub step : List ℤ → List ℤ
step m = listed (cut (chosen m) (entry m))

-- the generators taken, and what remains, at least exponent k: "The least exponent falls by exactly one. Repeat."
unfoldable pub generators : ℕ → List ℤ → List ℕ
generators zero m = []
generators (suc k) m = chosen m ∷ generators k (step m)

unfoldable pub remainder : ℕ → List ℤ → List ℤ
remainder zero m = m
remainder (suc k) m = remainder k (step m)

-- a loose cut: "whether its rows grouped as 2 and 4" (document 02, P3)
abbrev pub loose_cut : List ℤ → Bool
loose_cut m = is_loose (row_mask (entry m))

-- how many of the cuts are loose, at least exponent k
unfoldable pub loose_cuts : ℕ → List ℤ → ℕ
loose_cuts zero m = 0
loose_cuts (suc k) m = cond (loose_cut m) 1 0 + loose_cuts k (step m)

-- "The count t is the number of generators taken": of any pair, at its least exponent
abbrev pub count : ℕ → List ℤ → ℕ
count k m = (least_form k m).exponent

abbrev pub taken : ℕ → List ℤ → List ℕ
taken k m = generators (least_form k m).exponent (least_form k m).matrix

abbrev pub remaining : ℕ → List ℤ → List ℤ
remaining k m = remainder (least_form k m).exponent (least_form k m).matrix

-- document 02's L: "the number of such cuts in the defined cutting"
abbrev pub loose : ℕ → List ℤ → ℕ
loose k m = loose_cuts (least_form k m).exponent (least_form k m).matrix

-- "its generators in order, times its Clifford": the operator of generator numbers and a matrix of exponent 0
unfoldable pub normal_form : List ℕ → Matrix → Operator
normal_form [] C = operator 0 C
normal_form (g ∷ gs) C = times_operator (operator 1 (generator g)) (normal_form gs C)
