use mathlib.Core.Path.{◌≡◌, ap, ◌∙◌}
use Prim.Native.Nat.{ℕ, ◌<◌}
use native.Mathlib.Omega.{arith}
use mathlib.Core.List.{List}
use lib.IntN.{ℤ}
use Rattle.matrix.specs.Range.{bits}
use Rattle.matrix.specs.Integer.{parity}
use Rattle.matrix.specs.Matrix.{entry}
use Rattle.matrix.specs.Array.{row_mask}
use Rattle.matrix.specs.Laws.Range.{bits_down, bits_small}
use Rattle.matrix.specs.Laws.Parity.{parity_lt}
use Rattle.matrix.specs.Laws.Machine.{kept}
use borrow.Author.Rules.{rules}
use Rattle.matrix.proofs.row_mask.Invariants.{odd_at_lem}
use Rattle.matrix.proofs.row_mask.Goals as goal

one_bit : (m : List ℤ) (r c : ℕ) → odd_at_lem m r c < 2
one_bit m r c = parity_lt (entry m r c)

pub loop-c-init : goal.loop-c-init
unfolding bits
loop-c-init c = search rules

pub overflow_mul-mask : goal.overflow_mul-mask
overflow_mul-mask c =
    let m = c.args.m.now in
    let r = c.args.r in
    let h : c.loop-c.mask < 32 = bits_small (odd_at_lem m r) (one_bit m r) 6 c.loop-c.c (omega arith) (omega arith) c.loop-c.mask c.loop-c.invariant in
    omega arith

pub overflow_add-mask : goal.overflow_add-mask
overflow_add-mask c =
    let m = c.args.m.now in
    let r = c.args.r in
    let h : c.loop-c.mask < 32 = bits_small (odd_at_lem m r) (one_bit m r) 6 c.loop-c.c (omega arith) (omega arith) c.loop-c.mask c.loop-c.invariant in
    let p : c.parity_of.result < 2 = rw c.parity_of.ensures (parity_lt _) in
    omega arith

pub loop-c-preserved : goal.loop-c-preserved
loop-c-preserved c =
    let m = c.args.m.now in
    let r = c.args.r in
    bits_down (odd_at_lem m r) (one_bit m r) 6 c.loop-c.c (omega arith) (omega arith) c.loop-c.mask _ c.loop-c.invariant (c.parity_of.ensures ∙ ap parity (kept c.parity_of-arg-1.given))

pub returns : goal.returns
unfolding row_mask
returns c = let z : c.loop-c.c ≡ 0 = omega arith in rw z at c.loop-c.invariant
