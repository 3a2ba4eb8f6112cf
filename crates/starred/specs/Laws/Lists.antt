-- Every case of the table of lists passes.
use Rattle.std.specs.Prelude.{◌≡◌, refl, true}
use Rattle.matrix.specs.Integer.{parity}
use Rattle.matrix.specs.Range.{sum, every_from, first_from, tabulate, bits}
use Rattle.matrix.specs.Matrix.{δ, listed}
use Rattle.matrix.specs.Array.{row_mask, before_odd, least_form}
use Rattle.clifford.specs.Columns.{is_even, column_byte}
use Rattle.residue.specs.Generator.{table, place, fits, first_fit}
use Rattle.reduction.specs.Reduction.{generators, remainder}
use Rattle.word.specs.Word.{part_words, part_inverses, local_columns, rotation_words, clifford_word}
use Rattle.gate.specs.Product.{image, product_of}
use Rattle.crossing.specs.Crossing.{stretches_of}
use Rattle.gate_list.specs.List.{lefts, rights, left_of, right_of, stretches, signs}
use Rattle.starred.specs.Lists.{trials, all_pass}

pub lists_pass : all_pass trials ≡ true
unfolding trials parity sum every_from first_from tabulate bits δ listed row_mask before_odd least_form is_even column_byte table place fits first_fit generators remainder part_words part_inverses local_columns rotation_words clifford_word image product_of stretches_of lefts rights left_of right_of stretches signs
lists_pass = refl
