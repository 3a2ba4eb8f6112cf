-- What `take_sheet` writes: the bytes of a sheet, or the one line `refused N`, and nothing where the argument is no number.
use Rattle.std.specs.Prelude.{cond, List, [], ℕ, ◌-◌, eqb, length, drop, Option, Some, None}
use Rattle.text.specs.Text.{refused_line}
use Rattle.bundle.specs.Bundle.{bundle_refusal, sheet_in}

-- for the bytes b and the number of a sheet
unfoldable pub sheet_output : List ℕ → ℕ → List ℕ
sheet_output b n = cond (eqb (bundle_refusal b n) 0) (sheet_in b n) (refused_line (bundle_refusal b n))

-- for the bytes b and what the argument is
abbrev pub output_of : List ℕ → Option ℕ → List ℕ
output_of b (Some n) = sheet_output b n
output_of b None = []

-- "the last two bytes"
abbrev pub last_two : List ℕ → List ℕ
last_two b = drop (length b - 2) b
