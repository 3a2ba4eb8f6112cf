-- The table is the definition's: the words of all 225 stretches and their signs, computed.
use mathlib.Core.Path.{refl}
use Rattle.matrix.specs.Range.{tabulate}
use Rattle.clifford.specs.Columns.{is_even}
use Rattle.word.specs.Word.{part_words, part_inverses, local_columns, rotation_words, clifford_word}
use Rattle.gate_list.specs.List.{lefts, rights, left_of, right_of}
use Rattle.gate_list.specs.Stretches.{stretch_codes}
use Rattle.gate_list.proofs.stretch_codes.Goals as goal

pub returns : goal.returns
unfolding stretch_codes tabulate is_even part_words part_inverses local_columns rotation_words clifford_word lefts rights left_of right_of
returns c = refl
