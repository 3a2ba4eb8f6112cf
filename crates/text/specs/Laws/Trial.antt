-- The example of what `cut` writes: document 01's, with the first and the last byte of document 02, P4 and P2, and the third line of P3.
use Rattle.std.specs.Prelude.{◌≡◌, refl, [], ◌∷◌, ◌++◌}
use Rattle.text.specs.Text.{decimal, spaced, count_line, sheet_line, loose_line}

-- count 2
-- sheet 66 3 13 3 130 1 4 5 6 0
-- loose 1
pub example : count_line 2 ++ sheet_line (66 ∷ 3 ∷ 13 ∷ 3 ∷ 130 ∷ 1 ∷ 4 ∷ 5 ∷ 6 ∷ 0 ∷ []) ++ loose_line 1 ≡
    99 ∷ 111 ∷ 117 ∷ 110 ∷ 116 ∷ 32 ∷ 50 ∷ 10 ∷
    115 ∷ 104 ∷ 101 ∷ 101 ∷ 116 ∷ 32 ∷ 54 ∷ 54 ∷ 32 ∷ 51 ∷ 32 ∷ 49 ∷ 51 ∷ 32 ∷ 51 ∷ 32 ∷ 49 ∷ 51 ∷ 48 ∷ 32 ∷ 49 ∷ 32 ∷ 52 ∷ 32 ∷ 53 ∷ 32 ∷ 54 ∷ 32 ∷ 48 ∷ 10 ∷
    108 ∷ 111 ∷ 111 ∷ 115 ∷ 101 ∷ 32 ∷ 49 ∷ 10 ∷ []
unfolding decimal spaced
example = refl
