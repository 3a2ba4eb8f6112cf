-- Each return is one of the three cases of the definition.
use Rattle.order.specs.Laws.Order.{above_half, below_half, at_half}
use Rattle.order.proofs.whole_states.Goals as goal

pub returns-then-rest-gt-HALF : goal.returns-then-rest-gt-HALF
returns-then-rest-gt-HALF c = above_half _ c.if-rest-gt-HALF.true

pub returns-then-rest-lt-HALF : goal.returns-then-rest-lt-HALF
returns-then-rest-lt-HALF c = below_half _ c.if-rest-gt-HALF.false c.if-rest-lt-HALF.true

pub returns : goal.returns
returns c = at_half _ c.if-rest-gt-HALF.false c.if-rest-lt-HALF.false
