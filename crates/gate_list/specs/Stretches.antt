-- The table of stretches: the words of all of them, as numbers, and their signs.
use Rattle.std.specs.Prelude.{List, ℕ, ◌+◌, ◌*◌, ◌/◌, ◌%◌, ◌^◌}
use Rattle.matrix.specs.Range.{tabulate}
use Rattle.word_code.specs.Code.{encoded}
use Rattle.gate_list.specs.List.{right_of, stretch, stretch_sign}

-- the place of the sign: the octal digit above those of the longest word
abbrev pub sign_place : ℕ
sign_place = 8 ^ 16

-- the stretch bs to g as a number, with its sign
abbrev pub stretch_code : List ℕ → ℕ → ℕ
stretch_code bs g = encoded (stretch bs g) + sign_place * stretch_sign bs g

-- the stretch before generator h, where g is the generator before it: number 15 × (g − 1) + (h − 1)
unfoldable pub stretch_codes : List ℕ
stretch_codes = tabulate (λ k. stretch_code (right_of (k / 15 + 1)) (k % 15 + 1)) 0 225
