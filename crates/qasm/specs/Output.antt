-- What the programs `write_qasm` and `read_qasm` write: the bytes of the list that is read, or the one line `refused N`.
use Rattle.std.specs.Prelude.{List, ℕ}
use Rattle.letter.specs.declared.Gate.{Gate}
use Rattle.gate.specs.Reading.{Reading, gates, refusal}
use Rattle.text.specs.Text.{refused_line}

abbrev pub output_of : (List Gate → List ℕ) → Reading → List ℕ
output_of bytes_of (gates w) = bytes_of w
output_of bytes_of (refusal n) = refused_line n
