-- What `multiply_sheet` writes: the operator file of a sheet, or the one line `refused N`.
use Rattle.std.specs.Prelude.{cond, List, ℕ, eqb}
use Rattle.sheet_bytes.specs.Sheet.{sheet_refusal}
use Rattle.sheet.specs.Promise.{sheet_file}
use Rattle.text.specs.Text.{refused_line}

-- for the bytes s: "Files written by us carry the least exponent"
unfoldable pub output_of : List ℕ → List ℕ
output_of s = cond (eqb (sheet_refusal s) 0) (sheet_file s) (refused_line (sheet_refusal s))
