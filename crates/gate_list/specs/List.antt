-- The gate list of a normal form (document 01, "Gate list"): "exactly t letters C. Its Clifford letters are the builder's choice, from tables
-- printed in docs/".
use Rattle.std.specs.Prelude.{◌≡◌, true, List, [], ◌∷◌, ◌++◌, ℕ, ◌+◌, ◌-◌, ◌%◌, ℤ, get_or}
use Rattle.matrix.specs.Matrix.{entry}
use Rattle.clifford.specs.Columns.{column_bytes, are_permutation, is_even}
use Rattle.reduction.specs.Reduction.{taken, remaining}
use Rattle.letter.specs.declared.Gate.{Gate}
use Rattle.letter.specs.declared.Gate.TheVariants.{Cs}
use Rattle.letter.specs.Composition.{composed, identity_columns}
use Rattle.word.specs.Word.{clifford_word, word_sign}

-- "Each is one CS between Cliffords": the columns of the Clifford on the left and of that on the right, for generators 1 to 15
unfoldable pub lefts : List (List ℕ)
lefts =
    (1 ∷ 2 ∷ 3 ∷ 5 ∷ 6 ∷ 4 ∷ []) ∷
    (1 ∷ 2 ∷ 3 ∷ 132 ∷ 6 ∷ 5 ∷ []) ∷
    (1 ∷ 2 ∷ 3 ∷ 4 ∷ 5 ∷ 6 ∷ []) ∷
    (1 ∷ 3 ∷ 2 ∷ 6 ∷ 5 ∷ 4 ∷ []) ∷
    (1 ∷ 3 ∷ 2 ∷ 4 ∷ 6 ∷ 5 ∷ []) ∷
    (1 ∷ 3 ∷ 2 ∷ 132 ∷ 5 ∷ 6 ∷ []) ∷
    (2 ∷ 3 ∷ 1 ∷ 5 ∷ 6 ∷ 4 ∷ []) ∷
    (1 ∷ 4 ∷ 3 ∷ 130 ∷ 5 ∷ 6 ∷ []) ∷
    (1 ∷ 4 ∷ 2 ∷ 3 ∷ 5 ∷ 6 ∷ []) ∷
    (3 ∷ 2 ∷ 1 ∷ 4 ∷ 6 ∷ 5 ∷ []) ∷
    (1 ∷ 5 ∷ 3 ∷ 2 ∷ 4 ∷ 6 ∷ []) ∷
    (1 ∷ 5 ∷ 2 ∷ 4 ∷ 3 ∷ 6 ∷ []) ∷
    (2 ∷ 3 ∷ 1 ∷ 4 ∷ 5 ∷ 6 ∷ []) ∷
    (1 ∷ 6 ∷ 3 ∷ 4 ∷ 2 ∷ 5 ∷ []) ∷
    (1 ∷ 6 ∷ 3 ∷ 2 ∷ 5 ∷ 4 ∷ []) ∷
    []

unfoldable pub rights : List (List ℕ)
rights =
    (1 ∷ 2 ∷ 3 ∷ 6 ∷ 4 ∷ 5 ∷ []) ∷
    (1 ∷ 2 ∷ 3 ∷ 5 ∷ 6 ∷ 4 ∷ []) ∷
    (1 ∷ 2 ∷ 3 ∷ 4 ∷ 5 ∷ 6 ∷ []) ∷
    (1 ∷ 3 ∷ 2 ∷ 6 ∷ 4 ∷ 133 ∷ []) ∷
    (1 ∷ 3 ∷ 2 ∷ 4 ∷ 6 ∷ 5 ∷ []) ∷
    (1 ∷ 3 ∷ 2 ∷ 5 ∷ 4 ∷ 6 ∷ []) ∷
    (3 ∷ 1 ∷ 2 ∷ 6 ∷ 4 ∷ 5 ∷ []) ∷
    (1 ∷ 5 ∷ 3 ∷ 2 ∷ 4 ∷ 6 ∷ []) ∷
    (1 ∷ 3 ∷ 4 ∷ 2 ∷ 5 ∷ 6 ∷ []) ∷
    (3 ∷ 1 ∷ 130 ∷ 4 ∷ 6 ∷ 5 ∷ []) ∷
    (1 ∷ 4 ∷ 3 ∷ 5 ∷ 2 ∷ 6 ∷ []) ∷
    (1 ∷ 3 ∷ 4 ∷ 133 ∷ 2 ∷ 6 ∷ []) ∷
    (3 ∷ 1 ∷ 2 ∷ 4 ∷ 5 ∷ 6 ∷ []) ∷
    (1 ∷ 4 ∷ 3 ∷ 133 ∷ 6 ∷ 2 ∷ []) ∷
    (1 ∷ 4 ∷ 3 ∷ 6 ∷ 5 ∷ 2 ∷ []) ∷
    []

unfoldable pub left_of : ℕ → List ℕ
left_of g = get_or lefts (g - 1) []

unfoldable pub right_of : ℕ → List ℕ
right_of g = get_or rights (g - 1) []

-- six bytes of a Clifford's columns
pub record IsClifford (bs : List ℕ) : Type 0 where
  pub permutation : are_permutation bs ≡ true
  pub even : is_even bs ≡ true

-- what is written before and with a letter C, where the Clifford bs is left from before, and the sign of that
abbrev pub stretch : List ℕ → ℕ → List Gate
stretch bs g = clifford_word (composed bs (left_of g)) ++ Cs ∷ []

abbrev pub stretch_sign : List ℕ → ℕ → ℕ
stretch_sign bs g = word_sign (composed bs (left_of g))

-- the word of a Clifford bs times generators times a Clifford cs: what stands between two letters C is one Clifford
unfoldable pub stretches : List ℕ → List ℕ → List ℕ → List Gate
stretches bs [] cs = clifford_word (composed bs cs)
stretches bs (g ∷ gs) cs = clifford_word (composed bs (left_of g)) ++ Cs ∷ stretches (right_of g) gs cs

-- how many of its stretches multiply to a negative
unfoldable pub signs : List ℕ → List ℕ → List ℕ → ℕ
signs bs [] cs = word_sign (composed bs cs)
signs bs (g ∷ gs) cs = stretch_sign bs g + signs (right_of g) gs cs

abbrev pub gate_list : List ℕ → List ℕ → List Gate
gate_list gs cs = stretches identity_columns gs cs

-- "its result says which, 0 for M and 1 for −M" (document 02, P9)
abbrev pub list_sign : List ℕ → List ℕ → ℕ
list_sign gs cs = signs identity_columns gs cs % 2

-- the list of an operator, by its normal form, and the sign of that
abbrev pub list_of : ℕ → List ℤ → List Gate
list_of k m = gate_list (taken k m) (column_bytes (entry (remaining k m)))

abbrev pub sign_of_list : ℕ → List ℤ → ℕ
sign_of_list k m = list_sign (taken k m) (column_bytes (entry (remaining k m)))
