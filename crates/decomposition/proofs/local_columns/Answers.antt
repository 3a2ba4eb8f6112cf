-- A row of the table of inverses has the bytes of columns, as the product asks.
use mathlib.Core.Path.{ap, ap₂, ◌∙◌}
use mathlib.Core.List.{[]}
use Prim.Native.Nat.{◌+◌}
use native.Mathlib.Omega.{arith}
use lib.ListN.{get_or}
use Rattle.letter.specs.Composition.{composed}
use Rattle.word.specs.Word.{part_inverses, local_columns}
use Rattle.word.specs.Laws.Finite.{inverse_valid}
use Rattle.decomposition.proofs.local_columns.Goals as goal

pub compose-rest-requires : goal.compose-rest-requires
compose-rest-requires c = rw c.part_inverse-second.ensures (inverse_valid _ (omega arith))

pub compose-requires : goal.compose-requires
compose-requires c = rw c.part_inverse-first.ensures (inverse_valid _ (omega arith))

pub returns : goal.returns
unfolding local_columns
returns c =
    let first = c.part_inverse-first.ensures ∙ ap (λ k. get_or part_inverses k []) c.low_bits.ensures.0 in
    let second = c.part_inverse-second.ensures ∙ ap (λ k. get_or part_inverses (8 + k) []) c.low_bits-2.ensures.0 in
    c.compose.ensures ∙ ap₂ composed (c.compose-rest.ensures ∙ ap (composed c.args.columns) second) first
