-- Every case of the table of unitaries passes.
use Rattle.std.specs.Prelude.{◌≡◌, refl, true}
use Rattle.matrix.specs.Integer.{parity}
use Rattle.matrix.specs.Range.{every_from, first_from, tabulate, bits, total}
use Rattle.matrix.specs.Matrix.{δ, replaced, listed}
use Rattle.matrix.specs.Array.{row_mask, before_odd, least_form}
use Rattle.clifford.specs.Columns.{is_even, column_byte}
use Rattle.residue.specs.Generator.{table, place, fits, first_fit}
use Rattle.grouping.specs.Grouping.{group_size, in_groups_of, is_loose}
use Rattle.reduction.specs.Reduction.{generators, remainder, loose_cuts}
use Rattle.word.specs.Word.{part_words, part_inverses, local_columns, rotation_words, clifford_word}
use Rattle.gate_list.specs.List.{lefts, rights, left_of, right_of, stretches, signs}
use Rattle.sheet_bytes.specs.Bytes.{sheet_bytes, sheet}
use Rattle.gaussian.specs.Gaussian.{◌⊕◌, ◌⊖◌, ◌⊗◌, conj, norm_of, power, sum}
use Rattle.unitary.specs.Unitary.{plain, plain_of}
use Rattle.unitary.specs.Form.{compound, basis, is_real}
use Rattle.omega.specs.Modular as modular
use Rattle.unitary_file.specs.Unitary.{unitary_entries, is_small, is_unitary, unitary_refusal}
use Rattle.starred.specs.Unitaries.{passes, all_pass, matrices, cliffords, cs, product_chc}

pub matrices_pass : all_pass matrices ≡ true
unfolding matrices every_from tabulate δ ◌⊕◌ ◌⊗◌ conj norm_of sum plain plain_of unitary_entries is_small is_unitary unitary_refusal
matrices_pass = refl

pub cliffords_pass : all_pass cliffords ≡ true
unfolding cliffords parity every_from first_from tabulate bits total δ replaced listed row_mask before_odd least_form is_even column_byte table place fits first_fit group_size in_groups_of is_loose generators remainder loose_cuts part_words part_inverses local_columns rotation_words clifford_word lefts rights left_of right_of stretches signs sheet_bytes sheet ◌⊕◌ ◌⊖◌ ◌⊗◌ conj norm_of power sum plain plain_of compound basis is_real modular.remainder modular.first_column modular.undone modular.undone_all modular.exponent_of unitary_entries is_small is_unitary unitary_refusal
cliffords_pass = refl

pub cs_passes : passes cs ≡ true
unfolding parity every_from first_from tabulate bits total δ replaced listed row_mask before_odd least_form is_even column_byte table place fits first_fit group_size in_groups_of is_loose generators remainder loose_cuts part_words part_inverses local_columns rotation_words clifford_word lefts rights left_of right_of stretches signs sheet_bytes sheet ◌⊕◌ ◌⊖◌ ◌⊗◌ conj norm_of power sum plain plain_of compound basis is_real modular.remainder modular.first_column modular.undone modular.undone_all modular.exponent_of unitary_entries is_small is_unitary unitary_refusal
cs_passes = refl

pub chc_passes : passes product_chc ≡ true
unfolding parity every_from first_from tabulate bits total δ replaced listed row_mask before_odd least_form is_even column_byte table place fits first_fit group_size in_groups_of is_loose generators remainder loose_cuts part_words part_inverses local_columns rotation_words clifford_word lefts rights left_of right_of stretches signs sheet_bytes sheet ◌⊕◌ ◌⊖◌ ◌⊗◌ conj norm_of power sum plain plain_of compound basis is_real modular.remainder modular.first_column modular.undone modular.undone_all modular.exponent_of unitary_entries is_small is_unitary unitary_refusal
chc_passes = refl
