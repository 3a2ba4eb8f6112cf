-- Every case of the table of texts passes.
use Rattle.std.specs.Prelude.{◌≡◌, refl, true}
use mathlib.Core.List.{flatten}
use Rattle.letter.specs.Gate.{gate_of}
use Rattle.qasm.specs.Text.{version_line, include_line, register_line, body, text_of}
use Rattle.qasm.specs.Reading.{lines, statement_of, statements, read_text, read_qasm, letters_of, read_letters}
use Rattle.starred.specs.Texts.{trials, all_pass}

pub texts_pass : all_pass trials ≡ true
unfolding trials flatten gate_of version_line include_line register_line body text_of lines statement_of statements read_text read_qasm letters_of read_letters
texts_pass = refl
