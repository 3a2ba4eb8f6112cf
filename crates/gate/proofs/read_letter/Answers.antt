-- Behind a stretch only C is a letter, and the test on the exponent is the definition's.
use Rattle.std.specs.Prelude.{Some, Ok, Err}
use mathlib.Core.Path.{◌≡◌, refl, sym, ap, ◌∙◌}
use mathlib.Core.Bool.{Bool, true, false}
use mathlib.Core.List.{List}
use Prim.Native.Nat.{ℕ, ◌+◌, ◌<◌, ◌≤◌}
use native.Mathlib.Omega.{arith}
use lib.Dec.{ltb}
use lib.IntN.{ℤ}
use borrow.Author.Tests.{lt-ltb, le-ltb}
use Rattle.matrix.specs.Matrix.{entry, listed, product}
use Rattle.matrix.specs.declared.Scaled.{Scaled}
use Rattle.matrix.specs.Array.{least_form}
use Rattle.matrix.specs.Laws.Array.{orthogonal_bounded}
use Rattle.file.specs.File.{largest_exponent}
use Rattle.residue.specs.Generator.{generator}
use Rattle.letter.specs.declared.Gate.TheVariants.{Cs}
use Rattle.letter.specs.Gate.{gate_of}
use Rattle.letter.specs.Laws.Gate.{gate_of_letter}
use Rattle.gate.specs.Product.{image}
use Rattle.gate.specs.Stretch.{times_columns, multiplied, read_byte}
use Rattle.gate.specs.Laws.Stretch.{held_orthogonal, no_letter}
use Rattle.gate.proofs.read_letter.Goals as goal

-- a letter C behind (k, m), where f is the product
module _ (k : ℕ) (m : List ℤ) (b : ℕ) (is : b ≡ 67) (f : Scaled) (e : f ≡ least_form (k + 1) (listed (product 6 (entry m) (generator 3)))) where
  known : gate_of b ≡ Some Cs
  known = ap gate_of is ∙ gate_of_letter Cs

  more : f ≡ multiplied k m Cs
  unfolding multiplied image
  more = e

  test : (t : Bool) → ltb largest_exponent f.exponent ≡ t → ltb largest_exponent (multiplied k m Cs).exponent ≡ t
  test t h = ap (λ (x : Scaled). ltb largest_exponent x.exponent) (sym more) ∙ h

  deep : largest_exponent < f.exponent → Err 9 ≡ read_byte k m (gate_of b)
  deep h = rw (known, test true (lt-ltb largest_exponent f.exponent h)) refl

  shallow : f.exponent ≤ largest_exponent → Ok f ≡ read_byte k m (gate_of b)
  shallow h = rw (known, test false (le-ltb largest_exponent f.exponent h)) (ap Ok more)

pub returns-then-b-ne67 : goal.returns-then-b-ne67
returns-then-b-ne67 c = rw (no_letter c.args.b c.requires.3 c.if-b-ne67.true) refl

pub times_columns-before-requires : goal.times_columns-before-requires
times_columns-before-requires c =
    (c.requires.2, orthogonal_bounded c.args.product.exponent 30 (entry c.args.product.matrix) c.requires.1 (omega arith))

pub times_cs-requires : goal.times_cs-requires
times_cs-requires c =
    rw c.times_columns-before.ensures
    (orthogonal_bounded c.args.product.exponent 30 (entry (times_columns c.args.product.matrix c.args.columns)) (held_orthogonal c.args.product.exponent c.args.product.matrix c.args.columns c.requires.2 c.requires.1) (omega arith))

pub returns-then-next-gt-LARGEST_EXPONENT : goal.returns-then-next-gt-LARGEST_EXPONENT
returns-then-next-gt-LARGEST_EXPONENT c =
    deep c.args.product.exponent (times_columns c.args.product.matrix c.args.columns) c.args.b (omega arith) _ ((c.least_form.ensures ∙ ap (least_form (c.args.product.exponent + 1)) (c.times_cs.ensures ∙ ap (λ x. listed (product 6 (entry x) (generator 3))) c.times_columns-before.ensures))) c.if-next-gt-LARGEST_EXPONENT.true

pub returns : goal.returns
returns c =
    shallow c.args.product.exponent (times_columns c.args.product.matrix c.args.columns) c.args.b (omega arith) _ ((c.least_form.ensures ∙ ap (least_form (c.args.product.exponent + 1)) (c.times_cs.ensures ∙ ap (λ x. listed (product 6 (entry x) (generator 3))) c.times_columns-before.ensures))) c.if-next-gt-LARGEST_EXPONENT.false
