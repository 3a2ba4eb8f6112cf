-- The six letters of a gate list and their images (document 01, "Gate images").
use Rattle.std.specs.Prelude.{Bool, true, false, cond, List, [], ◌∷◌, ℕ, ◌+◌, eqb, Option, Some, None}
use Rattle.matrix.specs.Matrix.{Matrix, δ, product}
use Rattle.clifford.specs.Columns.{columns_matrix}
use Rattle.letter.specs.declared.Gate.{Gate}
use Rattle.letter.specs.declared.Gate.TheVariants.{H1, H2, S1, S2, Cz, Cs}

-- "Each letter is one ASCII byte"
abbrev pub letter : Gate → ℕ
letter H1 = 72
letter H2 = 104
letter S1 = 83
letter S2 = 115
letter Cz = 90
letter Cs = 67

-- what a byte of a gate list is: "a byte that is no letter of the table" is unknown
unfoldable pub gate_of : ℕ → Option Gate
gate_of b =
    cond (eqb b 72) (Some H1)
    (cond (eqb b 104) (Some H2)
    (cond (eqb b 83) (Some S1)
    (cond (eqb b 115) (Some S2)
    (cond (eqb b 90) (Some Cz)
    (cond (eqb b 67) (Some Cs) None)))))

-- a Clifford gate's image, by the bytes of its columns. CS is no Clifford and has none
abbrev pub columns : Gate → List ℕ
columns H1 = 3 ∷ 130 ∷ 1 ∷ 4 ∷ 5 ∷ 6 ∷ []
columns H2 = 1 ∷ 2 ∷ 3 ∷ 6 ∷ 133 ∷ 4 ∷ []
columns S1 = 2 ∷ 129 ∷ 3 ∷ 4 ∷ 5 ∷ 6 ∷ []
columns S2 = 1 ∷ 2 ∷ 3 ∷ 5 ∷ 132 ∷ 6 ∷ []
columns Cz = 2 ∷ 129 ∷ 6 ∷ 5 ∷ 132 ∷ 131 ∷ []
columns Cs = []

-- the product of a word's images, where it has no letter C: "The first letter of a list is the leftmost factor. The empty list is the identity."
unfoldable pub word_matrix : List Gate → Matrix
word_matrix [] = δ
word_matrix (g ∷ w) = product 6 (columns_matrix (columns g)) (word_matrix w)

abbrev pub is_cz : Gate → Bool
is_cz H1 = false
is_cz H2 = false
is_cz S1 = false
is_cz S2 = false
is_cz Cz = true
is_cz Cs = false

abbrev pub is_cs : Gate → Bool
is_cs H1 = false
is_cs H2 = false
is_cs S1 = false
is_cs S2 = false
is_cs Cz = false
is_cs Cs = true

-- how many letters of a word pass a test
abbrev pub number : (Gate → Bool) → List Gate → ℕ
number p [] = 0
number p (g ∷ w) = cond (p g) 1 0 + number p w
