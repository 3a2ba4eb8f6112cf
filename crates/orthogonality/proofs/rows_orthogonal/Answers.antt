-- Two numbers of 64 bits are equal exactly if their bits are.
use mathlib.Core.Path.{◌≡◌, sym, ap₂, ◌∙◌}
use borrow.Author.Tests.{le-ltb}
use lib.IntN.{pos, ◌*ℤ◌, *ℤ-zero}
use lib.Dec.{lit<}
use Rattle.matrix.specs.Integer.{equals}
use Rattle.matrix.specs.Matrix.{δ}
use Rattle.matrix.specs.Laws.Integer.{*ℤ-unit-r}
use Rattle.matrix.specs.Laws.Sum.{δ_same, δ_other}
use Rattle.matrix.specs.Laws.Machine.{equal_bits}
use Rattle.orthogonality.proofs.rows_orthogonal.Goals as goal

pub returns-then-i-j : goal.returns-then-i-j
returns-then-i-j c =
    let a = c.args in
    let p = c.row_product in
    let d : a.norm *ℤ δ a.i a.j ≡ a.norm = rw c.if-i-j.true (rw δ_same (*ℤ-unit-r a.norm)) in
    rw (le-ltb _ _ c.if-j-i.false) (equal_bits p.result a.norm p.type_inv c.ranges.norm.sfits ∙ ap₂ equals p.ensures (sym d))

pub returns-else-i-j : goal.returns-else-i-j
returns-else-i-j c =
    let a = c.args in
    let p = c.row_product-else-i-j in
    let d : a.norm *ℤ δ a.i a.j ≡ pos 0 = rw (δ_other a.i a.j c.if-i-j.false) (*ℤ-zero a.norm) in
    rw (le-ltb _ _ c.if-j-i.false) (equal_bits p.result (pos 0) p.type_inv (lit< tt) ∙ ap₂ equals p.ensures (sym d))
