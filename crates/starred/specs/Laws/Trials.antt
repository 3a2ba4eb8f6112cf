-- Every case of the table passes.
use Rattle.std.specs.Prelude.{◌≡◌, refl, true}
use mathlib.Core.List.{flatten}
use lib.IntN.{pow}
use Rattle.matrix.specs.Integer.{parity}
use Rattle.matrix.specs.Range.{sum, every_from, first_from, tabulate, bits, total}
use Rattle.matrix.specs.Matrix.{δ, replaced, listed}
use Rattle.matrix.specs.Determinant.{skip, det}
use Rattle.matrix.specs.Array.{is_orthogonal, is_within, row_mask, before_odd, least_form}
use Rattle.file.specs.File.{file_matrix, file_as}
use Rattle.clifford.specs.Columns.{is_even, are_permutation, column_byte}
use Rattle.residue.specs.Generator.{table, place, generator, fits, first_fit}
use Rattle.grouping.specs.Grouping.{group_size, in_groups_of, is_loose}
use Rattle.reduction.specs.Reduction.{generators, remainder, loose_cuts, normal_form}
use Rattle.gate.specs.Product.{image, product_of}
use Rattle.gate.specs.Reading.{least_of}
use Rattle.acceptance.specs.Acceptance.{file_refusal}
use Rattle.sheet_bytes.specs.Bytes.{sheet_bytes, sheet}
use Rattle.sheet_bytes.specs.Sheet.{sheet_refusal}
use Rattle.bundle.specs.Bundle.{start_of, bundle_refusal, sheet_in, bundle_of}
use Rattle.bundle_write.specs.Writing.{sheets_refusal, sheets_bundle}
use Rattle.order.specs.Order.{nearest, order_answer}
use Rattle.starred.specs.Trials.{trials, all_pass}

pub trials_pass : all_pass trials ≡ true
unfolding trials parity sum every_from first_from tabulate bits total δ replaced listed skip det pow lib.IntN.one is_orthogonal is_within row_mask before_odd least_form file_matrix file_as is_even are_permutation column_byte table place generator fits first_fit group_size in_groups_of is_loose generators remainder loose_cuts sheet_bytes sheet normal_form image product_of least_of file_refusal sheet_refusal nearest order_answer start_of bundle_refusal sheet_in bundle_of sheets_refusal sheets_bundle flatten
trials_pass = refl
