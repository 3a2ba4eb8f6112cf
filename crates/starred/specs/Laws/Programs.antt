-- Every case of the table of programs passes.
use Rattle.std.specs.Prelude.{◌≡◌, refl, true}
use mathlib.Core.List.{flatten}
use Rattle.matrix.specs.Range.{every_from, first_from, tabulate, total}
use Rattle.block.specs.Block.{shares, program_refusal}
use Rattle.layer.specs.Layer.{highest, layers_in, layers}
use Rattle.layer.specs.Promise.{layer_answer}
use Rattle.starred.specs.Programs.{trials, all_pass}

pub programs_pass : all_pass trials ≡ true
unfolding trials every_from first_from tabulate total shares program_refusal highest layers_in layers layer_answer flatten
programs_pass = refl
