-- Where there is no refusal, the offset is where the sheet starts, and its first byte says how long it is.
use mathlib.Core.Path.{sym, ap, ap₂, ◌∙◌}
use Prim.Native.Nat.{ℕ, ◌-◌}
use native.Mathlib.Omega.{arith}
use lib.ListN.{get_or}
use Rattle.std.specs.Prelude.{Result, Ok, Err}
use Rattle.std.proofs.lemmas.Result.{err_from_is_err_and}
use Rattle.refusal.specs.Laws.Refusal.{number_positive}
use Rattle.bundle.specs.declared.Part.{Part}
use Rattle.bundle.specs.Laws.Read.{found, part_found, part_missing}
use Rattle.bundle.proofs.bundle_part.Goals as goal

abbrev made : ℕ → ℕ → Result Part ℕ
made start size = Ok (record { start = start; length = size })

pub returns-in_err-check_bundle : goal.returns-in_err-check_bundle
returns-in_err-check_bundle c =
    let e = c.in_err-check_bundle.ensures in
    let h = number_positive c.in_err-check_bundle.field-0.0 in
    let p = err_from_is_err_and c.from_residual.result c.from_residual.ensures.1 in
    rw (p.1, p.2) (ap Err e ∙ sym (part_missing c.args.bytes.now c.args.n (omega arith)), tt)

pub overflow_sub-bytes : goal.overflow_sub-bytes
overflow_sub-bytes c = (found _ _ (sym c.in_ok-check_bundle.ensures)).bundled.long

pub two_at-count-requires : goal.two_at-count-requires
two_at-count-requires c = let l = (found _ _ (sym c.in_ok-check_bundle.ensures)).bundled.long in omega arith

pub offset-start-requires : goal.offset-start-requires
offset-start-requires c =
    let f = found _ _ (sym c.in_ok-check_bundle.ensures) in
    let e = c.two_at-count.ensures.0 in
    let l = f.bundled.fits in
    let i = f.inside in
    (e, omega arith, omega arith)

pub bounds-bytes-start : goal.bounds-bytes-start
bounds-bytes-start c =
    let f = found _ _ (sym c.in_ok-check_bundle.ensures) in
    let e = c.offset-start.ensures.0 in
    let l = f.end in
    let g = f.first in
    omega arith

pub sheet_length-length-requires : goal.sheet_length-length-requires
sheet_length-length-requires c =
    let e = ap (λ i. get_or c.args.bytes.now i 0) c.offset-start.ensures.0 in
    let f = (found _ _ (sym c.in_ok-check_bundle.ensures)).first in
    omega arith

pub returns : goal.returns
returns c =
    let e = c.offset-start.ensures.0 in
    let l = c.sheet_length-length.ensures in
    (ap₂ made e (l.0 ∙ ap (λ i. get_or c.args.bytes.now i 0 - 56) e) ∙ sym (part_found _ _ (sym c.in_ok-check_bundle.ensures)), (c.offset-start.ensures.1, l.1))
