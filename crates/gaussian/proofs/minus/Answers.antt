use mathlib.Core.Path.{ap₂}
use lib.Dec.{lit<}
use Rattle.matrix.specs.Laws.Machine.{again, stored, sub}
use Rattle.gaussian.specs.Gaussian.{gaussian, ◌⊖◌}
use Rattle.gaussian.proofs.minus.Goals as goal

pub returns : goal.returns
unfolding ◌⊖◌
returns c =
    ap₂ gaussian
    (again (sub (stored c.args.a.re c.requires.0.re (lit< tt)) (stored c.args.b.re c.requires.1.re (lit< tt))) (lit< tt)).is
    (again (sub (stored c.args.a.im c.requires.0.im (lit< tt)) (stored c.args.b.im c.requires.1.im (lit< tt))) (lit< tt)).is
