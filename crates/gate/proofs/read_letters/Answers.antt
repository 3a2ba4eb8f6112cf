use native.Mathlib.Omega.{arith}
use Rattle.std.proofs.lemmas.Result.{err_from_is_err_and}
use Rattle.matrix.specs.Matrix.{entry}
use Rattle.matrix.specs.Laws.Array.{orthogonal_bounded}
use Rattle.gate.specs.Laws.Letters.{read_none, read_orthogonal, read_all, read_stretch, read_more, read_over}
use Rattle.gate.proofs.read_letters.Goals as goal

pub loop-n-init : goal.loop-n-init
loop-n-init c = read_none _ _ c.identity.ensures

pub times_columns-product-requires : goal.times_columns-product-requires
times_columns-product-requires c =
    (c.read_stretch-stretch.ensures.letters.permutation, orthogonal_bounded c.loop-n.product.exponent 30 (entry c.loop-n.product.matrix) (read_orthogonal _ _ _ _ c.loop-n.invariant) (let u = c.loop-n.invariant.small in omega arith))

pub returns-then-letters-stretch : goal.returns-then-letters-stretch
returns-then-letters-stretch c =
    rw c.times_columns-product.ensures (read_all _ _ _ _ ((read_stretch _ _ _ _ c.loop-n.invariant c.read_stretch-stretch.result c.read_stretch-stretch.ensures)) c.if-letters-stretch.true)

pub read_letter-requires : goal.read_letter-requires
read_letter-requires c =
    (c.loop-n.invariant.small, read_orthogonal _ _ _ _ c.loop-n.invariant, c.read_stretch-stretch.ensures.letters.permutation, c.read_stretch-stretch.ensures.ends (omega arith))

pub returns-in_err-product : goal.returns-in_err-product
returns-in_err-product c =
    let p = err_from_is_err_and c.from_residual.result c.from_residual.ensures.1 in
    rw (p.1, p.2) (read_over _ _ _ _ (read_stretch _ _ _ _ c.loop-n.invariant c.read_stretch-stretch.result c.read_stretch-stretch.ensures) (omega arith) _ c.in_err-product.ensures)

pub loop-n-preserved : goal.loop-n-preserved
loop-n-preserved c =
    read_more _ _ _ _ (read_stretch _ _ _ _ c.loop-n.invariant c.read_stretch-stretch.result c.read_stretch-stretch.ensures) (omega arith) _ c.in_ok-product.ensures

pub returns : goal.returns
returns c = read_all _ _ _ _ c.loop-n.invariant (omega arith)
