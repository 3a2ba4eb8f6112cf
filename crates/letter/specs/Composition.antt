-- Products of signed permutations (document 01, "Clifford"), by the bytes of their columns.
use Rattle.std.specs.Prelude.{cond, List, [], ◌∷◌, map, ℕ, get_or}
use Rattle.clifford.specs.Columns.{row_of, is_minus, negated}
use Rattle.letter.specs.declared.Gate.{Gate}
use Rattle.letter.specs.Gate.{columns, is_cs}

-- where the matrix with columns bs takes the column of byte b
abbrev pub image_of : List ℕ → ℕ → ℕ
image_of bs b = cond (is_minus b) (negated (get_or bs (row_of b) 0)) (get_or bs (row_of b) 0)

-- the columns of the product
abbrev pub composed : List ℕ → List ℕ → List ℕ
composed bs cs = map (image_of bs) cs

-- the columns of the identity
abbrev pub identity_columns : List ℕ
identity_columns = 1 ∷ 2 ∷ 3 ∷ 4 ∷ 5 ∷ 6 ∷ []

-- the columns of the product with a Clifford gate's image on the right. CS is no Clifford and leaves them
abbrev pub composed_gate : List ℕ → Gate → List ℕ
composed_gate bs g = cond (is_cs g) bs (composed bs (columns g))
