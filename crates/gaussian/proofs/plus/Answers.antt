use mathlib.Core.Path.{ap₂}
use lib.Dec.{lit<}
use Rattle.matrix.specs.Laws.Machine.{again, stored, add}
use Rattle.gaussian.specs.Gaussian.{gaussian, ◌⊕◌}
use Rattle.gaussian.proofs.plus.Goals as goal

pub returns : goal.returns
unfolding ◌⊕◌
returns c =
    ap₂ gaussian
    (again (add (stored c.args.a.re c.requires.0.re (lit< tt)) (stored c.args.b.re c.requires.1.re (lit< tt))) (lit< tt)).is
    (again (add (stored c.args.a.im c.requires.0.im (lit< tt)) (stored c.args.b.im c.requires.1.im (lit< tt))) (lit< tt)).is
