-- Each return is the promise by its outcome.
use mathlib.Core.Path.{sym, ap, ◌∙◌}
use native.Mathlib.Omega.{arith}
use Rattle.file.specs.Laws.Written.{appended_as}
use Rattle.bundle.specs.Bundle.{bundle_of}
use Rattle.bundle_write.specs.Writing.{sheets_bundle}
use Rattle.bundle_write.specs.Laws.Promise.{many_refused, no_sheets_refused, sheets_accepted, length_bundle, promise_refused, promise_short, promise_written}
use Rattle.bundle_write.proofs.sheets_to_bundle.Goals as goal

pub returns-then-count-gt-MOST_SHEETS : goal.returns-then-count-gt-MOST_SHEETS
returns-then-count-gt-MOST_SHEETS c =
    let e = c.count_sheets-found.ensures.0 in
    promise_refused _ c.args.out.now 20 (many_refused c.args.sheets.now (omega arith)) (λ z. omega arith)

pub returns-then-found-sheets : goal.returns-then-found-sheets
returns-then-found-sheets c =
    let b = c.args.sheets.now in
    let e = c.count_sheets-found.ensures.0 in
    promise_refused b c.args.out.now 21 (no_sheets_refused b (omega arith) (λ z. c.if-found-sheets.true (c.count_sheets-found.ensures.1 ∙ z))) (λ z. omega arith)

pub returns-then-out-sheets : goal.returns-then-out-sheets
returns-then-out-sheets c =
    let b = c.args.sheets.now in
    let e = c.count_sheets-found.ensures.0 in
    let l = length_bundle b in
    promise_short b c.args.out.now (sheets_accepted b (omega arith) (sym c.count_sheets-found.ensures.1 ∙ c.if-found-sheets.false)) (omega arith)

pub returns : goal.returns
unfolding sheets_bundle
returns c =
    let b = c.args.sheets.now in
    let e = c.count_sheets-found.ensures.0 in
    let l = length_bundle b in
    promise_written b c.args.out.now (sheets_accepted b (omega arith) (sym c.count_sheets-found.ensures.1 ∙ c.if-found-sheets.false)) _ _ (omega arith)
    (appended_as (ap (bundle_of b) e) c.write_bundle.ensures)
