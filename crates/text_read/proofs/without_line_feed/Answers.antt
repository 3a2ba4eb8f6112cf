-- The test of the last byte is the definition's; no byte is none.
use mathlib.Core.Path.{◌≡◌, refl}
use mathlib.Core.List.{List, [], ◌∷◌}
use Prim.Native.Nat.{ℕ, ◌-◌, ◌<◌}
use native.Mathlib.Omega.{arith}
use lib.ListN.{length, get_or}
use borrow.Author.Tests.{eq-eqb, ne_eqb}
use Rattle.text_read.specs.Text.{without_line_feed}
use Rattle.text_read.proofs.without_line_feed.Goals as goal

empty : (bs : List ℕ) → length bs < 1 → bs ≡ without_line_feed bs
unfolding without_line_feed
empty [] e = refl
empty (b ∷ bs) e = absurd (omega arith)

pub returns-in-10 : goal.returns-in-10
unfolding without_line_feed
returns-in-10 c = let b = c.args.bytes.now in rw (eq-eqb (get_or b (length b - 1) 0) 10 (omega arith))

pub returns-in_default : goal.returns-in_default
returns-in_default c = empty _ (omega arith)

pub returns-in_default-2 : goal.returns-in_default-2
unfolding without_line_feed
returns-in_default-2 c = let b = c.args.bytes.now in rw (ne_eqb (get_or b (length b - 1) 0) 10 (omega arith))
