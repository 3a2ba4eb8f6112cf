use mathlib.Core.Path.{◌∙◌}
use borrow.Author.Rules.{rules}
use borrow.Author.Tests.{tests}
use lib.IntN.{pos}
use Rattle.std.proofs.lemmas.Iterator.{YieldsList-from_slice}
use Rattle.std.proofs.lemmas.Iterator.Search.{all_from_yields_List}
use Rattle.matrix.specs.Integer.{equals}
use Rattle.gaussian.specs.declared.Gaussian.{Gaussian}
use Rattle.gaussian.specs.Gaussian.{real}
use Rattle.six_form.proofs.Parts.{parts_zero}
use Rattle.six_form.proofs.is_imaginary.Goals as goal

pub returns : goal.returns
returns c =
    let m = c.args.entries.now in
    all_from_yields_List (λ (x : Gaussian). equals x.re (pos 0)) _ _ _ c.all.ensures.ran (YieldsList-from_slice m cc) (λ x b q k. search (rules, tests))
    ∙ parts_zero (λ x. x.re) (real (pos 0)) m (search rules)
