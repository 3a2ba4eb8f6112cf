-- What `cut` writes (document 01; document 02, P3): three lines, "or the one line `refused N`".
use Rattle.std.specs.Prelude.{cond, List, ◌++◌, ℕ, eqb}
use Rattle.acceptance.specs.Acceptance.{file_refusal}
use Rattle.acceptance.specs.Cutting.{file_count, file_loose}
use Rattle.operator.specs.Promise.{file_sheet}
use Rattle.text.specs.Text.{count_line, sheet_line, loose_line, refused_line}

-- for the operator file b: "The first line is t; the second has the sheet's bytes in decimal"; "a third line, `loose L`"
unfoldable pub cut_text : List ℕ → List ℕ
cut_text b = cond (eqb (file_refusal b) 0) (count_line (file_count b) ++ sheet_line (file_sheet b) ++ loose_line (file_loose b)) (refused_line (file_refusal b))
