-- The partners are those of the generator.
use mathlib.Core.Path.{sym, ap, ◌∙◌}
use lib.ListN.{get_or}
use Rattle.matrix.specs.Matrix.{entry, listed}
use Rattle.matrix.specs.Laws.Array.{listed_cong}
use Rattle.times.specs.Times.{pair_entry}
use Rattle.times.specs.Laws.Times.{partner_lt, times_generator}
use Rattle.times.proofs.times_generator.Goals as goal

pub times_pairs-requires : goal.times_pairs-requires
times_pairs-requires c =
    (rw c.partners_of.ensures (partner_lt c.args.g c.requires.0 c.requires.1), c.requires.2)

pub returns : goal.returns
returns c =
    c.times_pairs.ensures
    ∙ ap (λ ps. listed (λ r i. pair_entry (entry c.args.m) r i (get_or ps i 0))) c.partners_of.ensures
    ∙ sym (listed_cong _ _ (times_generator c.args.g c.requires.0 c.requires.1 (entry c.args.m)))
