-- The invariant: the columns before c are those of the product.
use mathlib.Core.List.{List}
use Prim.Native.Nat.{ℕ}
use lib.ListN.{get_or}
use Rattle.matrix.specs.Laws.Range.{Filled}
use Rattle.letter.specs.Composition.{image_of}
use Rattle.letter.proofs.compose.Given as goal

abbrev pub image_at : List ℕ → List ℕ → ℕ → ℕ
image_at left right c = image_of left (get_or right c 0)

abbrev pub invariant-loop-c : goal.invariant-loop-c
invariant-loop-c l = Filled (image_of l.left 0) (image_at l.left l.right) l.initial.out l.c l.out
