use mathlib.Core.Path.{◌≡◌, sym, ap, ◌∙◌}
use Prim.Native.Nat.{ℕ, ◌+◌, ◌-◌}
use native.Mathlib.Omega.{arith}
use mathlib.Core.Bool.{not, cond}
use mathlib.Core.List.{List}
use lib.Dec.{lit<}
use lib.IntN.{ℤ, pos}
use lib.ListN.{get_or-eq_default}
use mir.Syntax.{w64}
use mir.Val.{of_z}
use Rattle.matrix.specs.Range.{first_from}
use Rattle.matrix.specs.Integer.{equals}
use Rattle.matrix.specs.Matrix.{entry}
use Rattle.matrix.specs.Laws.Integer.{equals_yes, equals_no}
use Rattle.matrix.specs.Laws.Range.{first_here, first_next}
use Rattle.matrix.specs.Laws.Machine.{same_bits}
use Rattle.clifford.specs.Columns.{column_row, column_byte}
use Rattle.clifford.proofs.column_byte.Invariants.{nonzero}
use Rattle.clifford.proofs.column_byte.Goals as goal

-- the byte, where the column's row is known
byte : (m : List ℤ) (c r : ℕ) → column_row (entry m) c ≡ r → column_byte (entry m) c ≡ r + cond (equals (entry m r c) (pos 1)) 1 129
unfolding column_byte
byte m c r e = ap (λ s. s + cond (equals (entry m s c) (pos 1)) 1 129) e

pub returns-then-x-eq1 : goal.returns-then-x-eq1
returns-then-x-eq1 c =
    let m = c.args.m in
    let q = c.args.c in
    let x : entry m c.loop-r.r q ≡ pos 1 = same_bits c.x-1.given (lit< tt) c.if-x-eq1.true in
    let e = c.loop-r.invariant ∙ first_here (nonzero m q) 6 c.loop-r.r (omega arith) (ap (λ z. not (equals z (pos 0))) x) in
    sym (byte m q c.loop-r.r e ∙ ap (λ t. c.loop-r.r + cond t 1 129) (equals_yes x))

pub returns-then-x-ne0 : goal.returns-then-x-ne0
returns-then-x-ne0 c =
    let m = c.args.m in
    let q = c.args.c in
    let e = c.loop-r.invariant ∙ first_here (nonzero m q) 6 c.loop-r.r (omega arith) (ap not (equals_no {a = entry m c.loop-r.r q} {b = pos 0} (λ z. c.if-x-ne0.true (ap (of_z w64) z)))) in
    sym (byte m q c.loop-r.r e ∙ ap (λ t. c.loop-r.r + cond t 1 129) (equals_no {a = entry m c.loop-r.r q} {b = pos 1} (λ z. c.if-x-eq1.false (ap (of_z w64) z))))

pub loop-r-preserved : goal.loop-r-preserved
loop-r-preserved c =
    let m = c.args.m in
    let q = c.args.c in
    let x : entry m c.loop-r.r q ≡ pos 0 = same_bits c.x-1.given (lit< tt) c.if-x-ne0.false in
    c.loop-r.invariant ∙ first_next (nonzero m q) 6 c.loop-r.r (omega arith) (ap (λ z. not (equals z (pos 0))) x)

pub returns : goal.returns
unfolding first_from
returns c =
    let m = c.args.m in
    let q = c.args.c in
    let z : 6 - c.loop-r.r ≡ 0 = omega arith in
    let e : column_row (entry m) q ≡ 6 = c.loop-r.invariant ∙ rw z (omega arith) in
    sym (byte m q 6 e ∙ ap (λ x. 6 + cond (equals x (pos 1)) 1 129) (get_or-eq_default m (pos 0) (omega arith)))
