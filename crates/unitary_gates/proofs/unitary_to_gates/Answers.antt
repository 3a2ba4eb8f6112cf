-- Each way out is a case of the promise.
use mathlib.Core.List.{[]}
use native.Mathlib.Omega.{arith}
use Rattle.std.proofs.lemmas.Result.{err_from_is_err_and}
use Rattle.unitary_gates.specs.Laws.Promise.{computed_orthogonal, held, unitary_refused, is_unitary_lem, unitary_no_room, unitary_done}
use Rattle.unitary_gates.proofs.unitary_to_gates.Goals as goal

pub returns-in_err-read : goal.returns-in_err-read
returns-in_err-read c =
    let p = err_from_is_err_and c.from_residual.result c.from_residual.ensures.1 in
    rw (p.1, p.2) (unitary_refused c.args.bytes.now c.args.out.now _ c.in_err-read.ensures)

pub form_of-form-requires : goal.form_of-form-requires
form_of-form-requires c = is_unitary_lem _ [] _ c.in_ok-read.ensures

pub cut_orthogonal-cut-requires : goal.cut_orthogonal-cut-requires
cut_orthogonal-cut-requires c =
    let e = c.in_ok-read.ensures in
    let f = c.form_of-form in
    let m = f.ensures.small in
    (omega arith, computed_orthogonal _ (is_unitary_lem _ [] _ e) f.result f.ensures)

pub returns-then-out-cut : goal.returns-then-out-cut
returns-then-out-cut c =
    let f = c.form_of-form in
    let t = c.cut_orthogonal-cut in
    unitary_no_room c.args.bytes.now c.args.out.now _ c.in_ok-read.ensures f.result f.ensures t.result t.ensures c.if-out-cut.true

pub write_list-list-requires : goal.write_list-list-requires
write_list-list-requires c =
    let e = c.in_ok-read.ensures in
    let f = c.form_of-form in
    let t = c.cut_orthogonal-cut in
    let h = held _ (is_unitary_lem _ [] _ e) f.result f.ensures t.result t.ensures in
    (h.numbers, h.columns, omega arith)

pub returns : goal.returns
returns c =
    let f = c.form_of-form in
    let t = c.cut_orthogonal-cut in
    unitary_done c.args.bytes.now c.args.out.now _ c.in_ok-read.ensures f.result f.ensures t.result t.ensures _ _ _
    c.if-out-cut.false c.write_list-list.ensures.0 c.power_of-power.ensures
