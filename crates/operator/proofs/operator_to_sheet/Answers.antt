-- Each way out is a case of the promise.
use native.Mathlib.Omega.{arith}
use Rattle.std.proofs.lemmas.Result.{err_from_is_err_and}
use Rattle.operator.specs.Laws.Promise.{sheet_refused_lem, sheet_no_room, sheet_done}
use Rattle.operator.proofs.operator_to_sheet.Goals as goal

pub returns-in_err-cut : goal.returns-in_err-cut
returns-in_err-cut c = let p = err_from_is_err_and c.from_residual.result c.from_residual.ensures.1 in rw (p.1, p.2) (sheet_refused_lem c.args.bytes.now c.args.out.now _ c.in_err-cut.ensures)

pub returns-then-out-cut : goal.returns-then-out-cut
returns-then-out-cut c = sheet_no_room c.args.bytes.now c.args.out.now _ c.in_ok-cut.ensures c.if-out-cut.true

pub write_sheet-requires : goal.write_sheet-requires
write_sheet-requires c = omega arith

pub returns : goal.returns
returns c = sheet_done c.args.bytes.now c.args.out.now _ c.in_ok-cut.ensures _ c.if-out-cut.false c.write_sheet.ensures
