-- Each way out is a case of the promise.
use mathlib.Core.Path.{sym, subst}
use native.Mathlib.Omega.{arith}
use Rattle.std.proofs.lemmas.Result.{err_from_is_err_and}
use Rattle.reduction.specs.Laws.NormalForm.{Numbers}
use Rattle.operator.specs.Laws.Promise.{file_cutting, columns_bytes, ready, gates_refused, gates_no_room, gates_done}
use Rattle.operator.proofs.operator_to_gates.Goals as goal

pub returns-in_err-cut : goal.returns-in_err-cut
returns-in_err-cut c = let p = err_from_is_err_and c.from_residual.result c.from_residual.ensures.1 in rw (p.1, p.2) (gates_refused c.args.bytes.now c.args.out.now _ c.in_err-cut.ensures)

pub returns-then-out-cut : goal.returns-then-out-cut
returns-then-out-cut c = gates_no_room c.args.bytes.now c.args.out.now _ c.in_ok-cut.ensures c.if-out-cut.true

pub write_list-list-requires : goal.write_list-list-requires
write_list-list-requires c =
    let b = c.args.bytes.now in
    let y = ready b _ c.in_ok-cut.ensures in
    (subst Numbers (sym y.numbers) (file_cutting b y.accepted).numbers, rw y.columns (columns_bytes b y.accepted), omega arith)

pub returns : goal.returns
returns c = gates_done c.args.bytes.now c.args.out.now _ c.in_ok-cut.ensures _ _ _ c.if-out-cut.false c.write_list-list.ensures.0 c.write_list-list.ensures.1
