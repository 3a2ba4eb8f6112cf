-- What `list_unitary` writes: the count, a gate list, L and the power of ω, or the one line `refused N`.
use Rattle.std.specs.Prelude.{List, ◌++◌, map, ◌≢◌, ◌≡◌, ℕ}
use Rattle.letter.specs.declared.Gate.{Gate}
use Rattle.letter.specs.Gate.{letter}
use Rattle.unitary_file.specs.Unitary.{unitary_of, unitary_refusal}
use Rattle.unitary_gates.specs.Promise.{form_count, form_loose, UnitaryList}
use Rattle.text.specs.Text.{list_lines, omega_line, refused_line}

-- the text for the bytes b
pub record UnitaryText (b : List ℕ) (text : List ℕ) : Type 0 where
  pub refused : unitary_refusal b ≢ 0 → text ≡ refused_line (unitary_refusal b)
  pub listed : unitary_refusal b ≡ 0
      → (w : List Gate) × (p : ℕ) × (text ≡ list_lines (form_count (unitary_of b)) (map letter w) (form_loose (unitary_of b)) ++ omega_line p) × UnitaryList (unitary_of b) w p
