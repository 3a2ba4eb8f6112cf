-- What `list_gates` writes: the count, a gate list, L and the list's sign, or the one line `refused N`.
use Rattle.std.specs.Prelude.{List, ◌++◌, map, ◌≢◌, ◌≡◌, ℕ}
use Rattle.letter.specs.declared.Gate.{Gate}
use Rattle.letter.specs.Gate.{letter}
use Rattle.file.specs.File.{file_operator}
use Rattle.acceptance.specs.Acceptance.{file_refusal}
use Rattle.acceptance.specs.Cutting.{file_count, file_loose}
use Rattle.gate_list.specs.Promise.{ListFor}
use Rattle.text.specs.Text.{list_lines, sign_line, refused_line}

-- the text for the file b
pub record ListText (b : List ℕ) (text : List ℕ) : Type 0 where
  pub refused : file_refusal b ≢ 0 → text ≡ refused_line (file_refusal b)
  pub listed : file_refusal b ≡ 0 → (w : List Gate) × (s : ℕ) × (text ≡ list_lines (file_count b) (map letter w) (file_loose b) ++ sign_line s) × ListFor (file_operator b) (file_count b) w s
