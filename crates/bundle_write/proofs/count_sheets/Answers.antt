use mathlib.Core.Path.{◌≡◌, refl, sym, ap, ◌∙◌}
use mathlib.Core.Bool.{Bool, true, false, not, cond}
use mathlib.Core.List.{List}
use Prim.Native.Nat.{ℕ, suc, ◌+◌, ◌-◌, ◌≤◌}
use native.Mathlib.Omega.{arith}
use lib.ListN.{length}
use Rattle.std.specs.Prelude.{Option, Some, None}
use Rattle.matrix.specs.Range.{first_from}
use Rattle.matrix.specs.Laws.Range.{first_here, first_next}
use Rattle.bundle.specs.Bundle.{most_sheets, length_at, start_of}
use Rattle.bundle.specs.Laws.Read.{start_first, start_next}
use Rattle.bundle_write.specs.Writing.{is_whole, stored_count}
use Rattle.bundle_write.specs.Laws.Stored.{whole_sound}
use Rattle.bundle_write.proofs.count_sheets.Invariants.{is_none}
use Rattle.bundle_write.proofs.count_sheets.Goals as goal

module _ (s : List ℕ) (at : ℕ) (r : Option ℕ) (e : r ≡ cond (is_whole s at) (Some (at + length_at s at)) None) where
  none : r ≡ None → is_whole s at ≡ false
  none z = go (is_whole s at) (sym e ∙ z)
    where
      go : (t : Bool) → cond t (Some (at + length_at s at)) None ≡ None → t ≡ false
      go false z = refl
      go true z = cc

  some : (x : ℕ) → r ≡ Some x → (is_whole s at ≡ true) × (x ≡ at + length_at s at)
  some x z = go (is_whole s at) (sym e ∙ z)
    where
      go : (t : Bool) → cond t (Some (at + length_at s at)) None ≡ Some x → (t ≡ true) × (x ≡ at + length_at s at)
      go true z = (refl, cc)
      go false z = cc

  next_start : (x n : ℕ) → r ≡ Some x → at ≡ start_of s n → (x ≡ start_of s (n + 1)) × (x ≤ length s)
  next_start x n z a =
      let (p, f) = some x z in
      let i = (whole_sound s at p).inside in
      (f ∙ start_next s n at a, omega arith)

all : (s : List ℕ) (n : ℕ) → n ≡ suc most_sheets → stored_count s ≡ first_from (is_none s) n (suc most_sheets - n) → n ≡ stored_count s
unfolding first_from
all s n e r = let z : suc most_sheets - n ≡ 0 = omega arith in sym (r ∙ ap (first_from (is_none s) n) z)

pub loop-count-init : goal.loop-count-init
loop-count-init c = (start_first _, omega arith, refl)

pub returns-in_default : goal.returns-in_default
returns-in_default c =
    let s = c.args.sheets.now in
    let l = c.loop-count in
    let w = none s l.end c.sheet_end.result c.sheet_end.ensures c.in_default.is in
    let e = sym (l.invariant.2 ∙ first_here _ (suc most_sheets) l.count (omega arith) (ap not (ap (is_whole s) (sym l.invariant.0) ∙ w))) in
    (e, l.invariant.0 ∙ ap (start_of s) e)

pub loop-count-preserved : goal.loop-count-preserved
loop-count-preserved c =
    let s = c.args.sheets.now in
    let l = c.loop-count in
    let r = c.sheet_end in
    let (a, i) = next_start s l.end r.result r.ensures c.in-Some.next l.count c.in-Some.is l.invariant.0 in
    let w = (some s l.end r.result r.ensures c.in-Some.next c.in-Some.is).0 in
    (a, i, l.invariant.2 ∙ first_next _ (suc most_sheets) l.count (omega arith) (ap not (ap (is_whole s) (sym l.invariant.0) ∙ w)))

pub returns : goal.returns
returns c =
    let s = c.args.sheets.now in
    let l = c.loop-count in
    let e = all s l.count (omega arith) l.invariant.2 in
    let f : suc most_sheets ≡ stored_count s = omega arith in
    (f, l.invariant.0 ∙ ap (start_of s) e)
