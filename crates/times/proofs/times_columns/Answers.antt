use mathlib.Core.Path.{sym, ◌∙◌}
use borrow.Author.Rules.{rules}
use borrow.Author.Tests.{tests}
use lib.ListN.{get_or}
use Rattle.std.proofs.iter.Serving.{serving}
use Rattle.matrix.specs.Matrix.{entry}
use Rattle.matrix.specs.Laws.Array.{listed_cong}
use Rattle.clifford.specs.Laws.Columns.{permutation_sound}
use Rattle.times.specs.Times.{signed_entry}
use Rattle.times.specs.Laws.Times.{times_columns_lem}
use Rattle.times.proofs.times_columns.Goals as goal

-- each byte of a permutation is a column's
pub fill-requires : goal.fill-requires
fill-requires c =
    let bytes = (permutation_sound c.args.columns c.requires.0).bytes in
    grind serving

pub returns : goal.returns
returns c =
    c.fill.ensures (λ r i. signed_entry (entry c.args.m) r (get_or c.args.columns i 0)) (λ r i x u v q. search (rules, tests))
    ∙ sym (listed_cong _ _ (times_columns_lem c.args.columns (permutation_sound c.args.columns c.requires.0) (entry c.args.m)))
