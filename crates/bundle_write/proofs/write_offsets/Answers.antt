use mathlib.Core.Path.{◌≡◌, refl, ap, ◌∙◌}
use mathlib.Core.Bool.{cond}
use mathlib.Core.List.{List, ◌++◌, flatten}
use Prim.Native.Nat.{ℕ, ◌+◌, ◌<◌}
use native.Mathlib.Omega.{arith}
use Rattle.std.specs.Prelude.{Some, None}
use Rattle.text.specs.Writer.{Writes}
use Rattle.text.specs.declared.Writer.{Writer}
use Rattle.text.specs.Laws.Writer.{writes_none, writes_as, room_after, writes_append}
use Rattle.matrix.specs.Range.{tabulate}
use Rattle.bundle.specs.Bundle.{length_at, start_of, two_bytes, offsets}
use Rattle.bundle.specs.Laws.Read.{start_first, start_next}
use Rattle.bundle.specs.Laws.Made.{length_offsets, offsets_next}
use Rattle.bundle_write.specs.Writing.{is_whole, stored_count}
use Rattle.bundle_write.specs.Laws.Stored.{stored_whole, stored_start}
use Rattle.bundle_write.proofs.write_offsets.Goals as goal

none : (s : List ℕ) (w : Writer) → Writes (offsets s 0) w w
unfolding tabulate flatten
none s w = writes_none w

-- a stored sheet ends where the next one starts
ends : (s : List ℕ) (at n : ℕ) → at ≡ start_of s n → n < stored_count s → cond (is_whole s at) (Some (at + length_at s at)) None ≡ Some (start_of s (n + 1))
ends s at n e l = ap (λ t. cond t (Some (at + length_at s at)) None) (ap (is_whole s) e ∙ stored_whole s n l) ∙ ap Some (start_next s n at e)

pub loop-n-init : goal.loop-n-init
loop-n-init c = let a = c.args in (start_first a.sheets.now, none a.sheets.now a.w.now)

pub overflow_cast-start : goal.overflow_cast-start
overflow_cast-start c =
    let p = c.requires in
    let x = (stored_start c.args.sheets.now c.loop-n.n (omega arith)).1 in
    omega arith

pub write_two-requires : goal.write_two-requires
write_two-requires c =
    let (p, q, r) = c.requires in
    let o = length_offsets c.args.sheets.now c.loop-n.n in
    let m = length_offsets c.args.sheets.now c.args.count in
    room_after c.loop-n.invariant.1 _ (omega arith)

pub sheet_end-requires : goal.sheet_end-requires
sheet_end-requires c =
    let p = c.requires in
    let x = (stored_start c.args.sheets.now c.loop-n.n (omega arith)).0 in
    omega arith

pub unwrap-start-requires : goal.unwrap-start-requires
unwrap-start-requires c =
    let b = c.args.sheets.now in
    let l = c.loop-n in
    let p = c.requires in
    rw (c.sheet_end.ensures ∙ ends b l.start l.n l.invariant.0 (omega arith)) refl

pub loop-n-preserved : goal.loop-n-preserved
loop-n-preserved c =
    let b = c.args.sheets.now in
    let l = c.loop-n in
    let (p, q, r) = c.requires in
    let o = length_offsets b l.n in
    let m = length_offsets b c.args.count in
    let f = c.sheet_end.ensures ∙ ends b l.start l.n l.invariant.0 (omega arith) in (
      cc,
      writes_as (writes_append l.invariant.1 (omega arith) c.write_two.ensures) (ap (λ x. offsets b l.n ++ two_bytes x) l.invariant.0 ∙ offsets_next b l.n),
    )
