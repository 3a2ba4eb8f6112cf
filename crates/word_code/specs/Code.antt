-- Words as numbers, as the tables in the code have them: a letter is an octal digit, the first letter the lowest.
use Rattle.std.specs.Prelude.{List, [], ◌∷◌, ℕ, ◌+◌, ◌*◌, get_or}
use Rattle.letter.specs.declared.Gate.{Gate}
use Rattle.letter.specs.declared.Gate.TheVariants.{H1, H2, S1, S2, Cz, Cs}

abbrev pub digit : Gate → ℕ
digit H1 = 1
digit H2 = 2
digit S1 = 3
digit S2 = 4
digit Cz = 5
digit Cs = 6

-- the letter of a digit
abbrev pub letter_at : ℕ → ℕ
letter_at d = get_or (0 ∷ 72 ∷ 104 ∷ 83 ∷ 115 ∷ 90 ∷ 67 ∷ []) d 0

abbrev pub encoded : List Gate → ℕ
encoded [] = 0
encoded (g ∷ w) = digit g + 8 * encoded w
