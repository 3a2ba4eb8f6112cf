-- What `list_short` writes (document 02, P12): "each line the count and the generators".
use mathlib.Core.List.{List, ◌∷◌, [], flat_map}
use Rattle.std.specs.Prelude.{ℕ, length}
use Rattle.matrix.specs.Range.{tabulate}
use Rattle.sheet_bytes.specs.Bytes.{sheet_numbers}
use Rattle.text.specs.Text.{decimal, line}
use Rattle.short_sheet.specs.Short.{plain_bytes, if_read, short_sheets}

-- the line of a sheet
abbrev pub short_line : List ℕ → List ℕ
short_line s = line (decimal (length (sheet_numbers s))) (sheet_numbers s)

-- the lines of sheets, one after the other
unfoldable pub lines_of : List (List ℕ) → List ℕ
lines_of ss = flat_map short_line ss

-- the sheets of two numbers of which g is the first
abbrev pub pairs_of : ℕ → List (List ℕ)
pairs_of g = flat_map (λ h. if_read (plain_bytes (g ∷ h ∷ []))) (tabulate (λ h. h) 1 15)

-- the lines of the list
abbrev pub short_text : List ℕ
short_text = lines_of short_sheets
