-- The fifteen generators (document 01), and which of them a matrix's odd entries call for ("The rule of cutting").
use Rattle.std.specs.Prelude.{Bool, List, [], ◌∷◌, map, ℕ, ◌+◌, ◌*◌, ◌-◌, eqb, pos, negsuc, ◌+ℤ◌, ◌-ℤ◌, ◌*ℤ◌, get_or}
use Rattle.matrix.specs.Range.{sum, every, first_from}
use Rattle.matrix.specs.Matrix.{Matrix, δ, combined}

-- "A generator splits the six rows into three pairs": the pairs of generators 1 to 15, rows counted from 1, as document 01 prints them
unfoldable pub table : List (List ℕ)
table =
    (1 ∷ 2 ∷ 3 ∷ 4 ∷ 5 ∷ 6 ∷ []) ∷
    (1 ∷ 2 ∷ 3 ∷ 5 ∷ 4 ∷ 6 ∷ []) ∷
    (1 ∷ 2 ∷ 3 ∷ 6 ∷ 4 ∷ 5 ∷ []) ∷
    (1 ∷ 3 ∷ 2 ∷ 4 ∷ 5 ∷ 6 ∷ []) ∷
    (1 ∷ 3 ∷ 2 ∷ 5 ∷ 4 ∷ 6 ∷ []) ∷
    (1 ∷ 3 ∷ 2 ∷ 6 ∷ 4 ∷ 5 ∷ []) ∷
    (1 ∷ 4 ∷ 2 ∷ 3 ∷ 5 ∷ 6 ∷ []) ∷
    (1 ∷ 4 ∷ 2 ∷ 5 ∷ 3 ∷ 6 ∷ []) ∷
    (1 ∷ 4 ∷ 2 ∷ 6 ∷ 3 ∷ 5 ∷ []) ∷
    (1 ∷ 5 ∷ 2 ∷ 3 ∷ 4 ∷ 6 ∷ []) ∷
    (1 ∷ 5 ∷ 2 ∷ 4 ∷ 3 ∷ 6 ∷ []) ∷
    (1 ∷ 5 ∷ 2 ∷ 6 ∷ 3 ∷ 4 ∷ []) ∷
    (1 ∷ 6 ∷ 2 ∷ 3 ∷ 4 ∷ 5 ∷ []) ∷
    (1 ∷ 6 ∷ 2 ∷ 4 ∷ 3 ∷ 5 ∷ []) ∷
    (1 ∷ 6 ∷ 2 ∷ 5 ∷ 3 ∷ 4 ∷ []) ∷
    []

-- number n (0 to 5) of generator g's six rows
unfoldable pub place : ℕ → ℕ → ℕ
place g n = get_or (get_or table (g - 1) []) n 0

-- generator g's six rows, counted from 0
abbrev pub pair_rows : ℕ → List ℕ
pair_rows g = map (λ x. x - 1) (get_or table (g - 1) [])

-- the rows i < j of pair p (0 to 2) of generator g, counted from 0
abbrev pub low : ℕ → ℕ → ℕ
low g p = place g (p * 2) - 1

abbrev pub high : ℕ → ℕ → ℕ
high g p = place g (p * 2 + 1) - 1

-- "For each pair i < j it takes ei to (ei + ej) and ej to (ej − ei), both divided by root two": the whole numbers over that root. Column i
-- has 1 in rows i and j, column j has 1 in row j and −1 in row i
unfoldable pub generator : ℕ → Matrix
generator g r c = δ r c +ℤ sum 3 (λ p. δ r (high g p) *ℤ δ c (low g p) -ℤ δ r (low g p) *ℤ δ c (high g p))

-- its product with M: the rows of each pair replaced by ri − rj and ri + rj
abbrev pub turned_pair : ℕ → ℕ → Matrix → Matrix
turned_pair g p M = combined (low g p) (high g p) (pos 1) (negsuc 0) (pos 1) (pos 1) M

abbrev pub turned : ℕ → Matrix → Matrix
turned g M = turned_pair g 2 (turned_pair g 1 (turned_pair g 0 M))

-- "whose every pair lies inside a group", where f r is the number by which row r groups: its odd entries as six bits
unfoldable pub fits : (ℕ → ℕ) → ℕ → Bool
fits f g = every 3 (λ p. eqb (f (low g p)) (f (high g p)))

-- "the lowest-numbered generator" that does; 16 where none does
unfoldable pub first_fit : (ℕ → ℕ) → ℕ
first_fit f = first_from (fits f) 1 15
