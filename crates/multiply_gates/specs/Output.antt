-- What `multiply_gates` writes: the operator file of a gate list, or the one line `refused N`. One line feed at the very end of the input is
-- not read (`without_line_feed` of `text_read`).
use Rattle.std.specs.Prelude.{List, ℕ}
use Rattle.gate.specs.Reading.{Reading, gates, refusal, product_file}
use Rattle.text.specs.Text.{refused_line}

-- for what is read: "Files written by us carry the least exponent"
abbrev pub output_of : Reading → List ℕ
output_of (gates w) = product_file w
output_of (refusal n) = refused_line n
