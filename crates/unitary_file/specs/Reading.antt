-- What reading a unitary's bytes gives. The struct's ghost fields cite specs/Unitary.antt, which names no struct.
use Rattle.std.specs.Prelude.{List, ◌≡◌, ℕ, Result}
use Rattle.refusal.specs.Refusal.{RefusedOr}
use Rattle.file.specs.File.{file_exponent}
use Rattle.unitary.specs.Unitary.{Quotient, quotient, matrix_of}
use Rattle.unitary_file.specs.Unitary.{unitary_entries, unitary_refusal}
use Rattle.unitary_file.specs.declared.Entries.{Entries}

-- the unitary that the code holds
abbrev pub unitary_in : Entries → Quotient
unitary_in r = quotient r.exponent (matrix_of r.entries)

-- the exponent and the entries of 65 bytes
pub record EntriesOf (b : List ℕ) (r : Entries) : Type 0 where
  pub exponent : r.exponent ≡ file_exponent b
  pub entries : r.entries ≡ unitary_entries b

-- what reading gives: the refusal or, where there is none, the exponent and the entries
abbrev pub ReadAs : List ℕ → Result Entries ℕ → Type 0
ReadAs b r = RefusedOr (unitary_refusal b) (EntriesOf b) r
