-- Each return is the promise by its outcome.
use mathlib.Core.Path.{sym}
use native.Mathlib.Omega.{arith}
use Rattle.std.proofs.lemmas.Result.{err_from_is_err_and}
use Rattle.refusal.specs.Refusal.{number}
use Rattle.refusal.specs.Laws.Refusal.{number_positive}
use Rattle.layer.specs.Laws.Promise.{promise_refused, promise_short, promise_written}
use Rattle.layer.proofs.blocks_to_layers.Goals as goal

pub returns-in_err-check_program : goal.returns-in_err-check_program
returns-in_err-check_program c =
    let a = c.args in
    let r = c.in_err-check_program.field-0.0 in
    let p = err_from_is_err_and c.from_residual.result c.from_residual.ensures.1 in
    let h = number_positive r in
    rw (p.1, p.2) (promise_refused a.bytes.now a.out.now (number r) c.in_err-check_program.ensures (omega arith))

pub returns-then-out-bytes : goal.returns-then-out-bytes
returns-then-out-bytes c =
    let a = c.args in
    promise_short a.bytes.now a.out.now (sym c.in_ok-check_program.ensures) (omega arith)

pub returns : goal.returns
returns c =
    let a = c.args in
    let w = c.write_layers.ensures in
    promise_written a.bytes.now a.out.now (sym c.in_ok-check_program.ensures) _ _ (omega arith) w.1 w.0
