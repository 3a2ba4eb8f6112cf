-- A part that is found lies in the bytes.
use mathlib.Core.Path.{◌≡◌, sym, ap, ◌∙◌}
use Prim.Native.Nat.{◌+◌, ◌-◌, ◌≤◌}
use native.Mathlib.Omega.{arith}
use lib.ListN.{length, take, drop, length-take}
use borrow.Author.Rules.{rules}
use Rattle.bundle.specs.Laws.Read.{part_at, part_none}
use Rattle.bundle.proofs.bundle_sheet.Goals as goal

pub slice_bounds-result-end : goal.slice_bounds-result-end
slice_bounds-result-end c =
    let p = c.in-Ok.part in
    let f : p.start + p.length ≤ length c.args.bytes.now = (part_at _ _ p (sym c.in-Ok.ensures.0)).0 in
    search rules

pub returns-in-Ok : goal.returns-in-Ok
returns-in-Ok c =
    let a = c.args.bytes in
    let b = a.now in
    let p = c.in-Ok.part in
    let (i, f, g) = part_at _ _ p (sym c.in-Ok.ensures.0) in
    let s = c.in-Ok.ensures.1.1 in
    let e : p.start + p.length - p.start ≡ p.length = omega arith in
    let l = length-take (p.start + p.length - p.start) (drop p.start b) in
    (ap (λ k. take k (drop p.start b)) e ∙ f, omega arith, ap (λ k. (a.ref_ptr.0, k)) (omega arith))

pub returns-in-Err : goal.returns-in-Err
returns-in-Err c =
    let a = c.args.bytes in
    let (e, p) = part_none _ _ _ (sym c.in-Err.ensures.0) in
    (sym e, omega arith, ap (λ k. (a.ref_ptr.0, k)) (omega arith))
