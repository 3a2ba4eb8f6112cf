-- Within the limits nothing overflows: t × p is at most 60,000, and the figure at most 120.
use Rattle.std.specs.Prelude.{Ok, Err}
use mathlib.Core.Path.{◌≡◌, ap, ◌∙◌}
use Prim.Native.Nat.{ℕ, ◌+◌, ◌*◌, ◌≤◌, ◌<◌}
use native.Mathlib.Nat.{mul-le-mul}
use native.Mathlib.Omega.{arith}
use borrow.Author.Tests.{lt-ltb, le-ltb}
use Rattle.file.specs.File.{largest_exponent}
use Rattle.order.specs.Order.{largest_spoilage, figure, order_answer}
use Rattle.order.specs.Laws.Order.{figure_le}
use Rattle.order.proofs.states_to_order.Goals as goal
use Rattle.order.proofs.states_to_order.Goals.{then-t-via-then-t, then-t-via-else-t+then-p-gt-LARGEST_SPOILAGE}

many : (t p : ℕ) → largest_exponent < t → Err 14 ≡ order_answer t p
unfolding order_answer
many t p h = rw (lt-ltb largest_exponent t h)

spoilt : (t p : ℕ) → t ≤ largest_exponent → largest_spoilage < p → Err 14 ≡ order_answer t p
unfolding order_answer
spoilt t p l h = rw (le-ltb largest_exponent t l, lt-ltb largest_spoilage p h)

module _ (t p : ℕ) (l : t ≤ largest_exponent) (h : p ≤ largest_spoilage) where
  product : t * p ≤ 60000
  product = mul-le-mul l h

  most : figure t p ≤ 120
  most = let m = figure_le t p h in omega arith

  ordered : Ok (figure t p) ≡ order_answer t p
  unfolding order_answer
  ordered = rw (le-ltb largest_exponent t l, le-ltb largest_spoilage p h)

pub returns-then-t : goal.returns-then-t
returns-then-t c =
    elim c.then-t.branch [
      | then-t-via-then-t w ↦ many _ _ w.if-t.true
      | then-t-via-else-t+then-p-gt-LARGEST_SPOILAGE w ↦ spoilt _ _ w.if-t.false w.if-p-gt-LARGEST_SPOILAGE.true
    ]

pub overflow_add-states : goal.overflow_add-states
overflow_add-states c = let m = most _ _ c.if-t.false c.if-p-gt-LARGEST_SPOILAGE.false in let e = c.whole_states.ensures in omega arith

pub overflow_cast-result : goal.overflow_cast-result
overflow_cast-result c = let m = most _ _ c.if-t.false c.if-p-gt-LARGEST_SPOILAGE.false in let e = c.whole_states.ensures in omega arith

pub returns : goal.returns
returns c = ap (λ n. Ok (c.args.t + n)) c.whole_states.ensures ∙ ordered _ _ c.if-t.false c.if-p-gt-LARGEST_SPOILAGE.false
