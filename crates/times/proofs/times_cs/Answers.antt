-- The partners in the code are those of generator 3.
use mathlib.Core.Path.{◌≡◌, refl, sym, ap, ◌∙◌}
use mathlib.Core.List.{[], ◌∷◌}
use native.Mathlib.Omega.{arith}
use lib.ListN.{get_or}
use Rattle.matrix.specs.Matrix.{entry, listed}
use Rattle.matrix.specs.Laws.Array.{listed_cong}
use Rattle.residue.specs.Generator.{table, place}
use Rattle.times.specs.Times.{partners, pair_entry}
use Rattle.times.specs.Laws.Times.{times_generator}
use Rattle.times.proofs.times_cs.Goals as goal

three : 1 ∷ 0 ∷ 5 ∷ 4 ∷ 3 ∷ 2 ∷ [] ≡ partners 3
unfolding partners place table
three = refl

pub returns : goal.returns
returns c =
    let m = c.args.m in
    c.times_pairs.ensures
    ∙ ap (λ ps. listed (λ r i. pair_entry (entry m) r i (get_or ps i 0))) three
    ∙ sym (listed_cong _ _ (times_generator 3 (omega arith) (omega arith) (entry m)))
