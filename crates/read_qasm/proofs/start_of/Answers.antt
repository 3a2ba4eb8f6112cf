-- Each way out is a case of the laws of long texts.
use mathlib.Core.Path.{subst}
use mathlib.Core.List.{flatten}
use native.Mathlib.Omega.{arith}
use Rattle.qasm.specs.Text.{version_line, include_line, register_line}
use Rattle.qasm_read.specs.Statements.{StatementsFrom}
use Rattle.qasm_read.specs.Laws.Statements.{not_started, started}
use Rattle.read_qasm.specs.Laws.Long.{wrong_start, wrong_line, long_start}
use Rattle.read_qasm.proofs.start_of.Goals as goal

pub returns-in_err-first : goal.returns-in_err-first
unfolding version_line include_line register_line flatten
returns-in_err-first c =
    let bs = c.args.text.now in
    rw c.from_residual.ensures (wrong_start bs c.requires (not_started bs c.in_err-first.ensures))

pub returns-then-end-le-LONGEST_TEXT : goal.returns-then-end-le-LONGEST_TEXT
unfolding version_line include_line register_line flatten
returns-then-end-le-LONGEST_TEXT c =
    let bs = c.args.text.now in
    let r = c.statements_from-read.result in
    let (t, e, i) = started bs _ c.in_ok-first.ensures in
    wrong_line bs c.requires t r (subst (λ k. StatementsFrom bs k r) e c.statements_from-read.ensures) c.if-end-le-LONGEST_TEXT.true

pub returns : goal.returns
unfolding version_line include_line register_line flatten
returns c =
    let bs = c.args.text.now in
    let r = c.statements_from-read.result in
    let (t, e, i) = started bs _ c.in_ok-first.ensures in
    long_start bs c.requires t r (subst (λ k. StatementsFrom bs k r) e c.statements_from-read.ensures) (omega arith)
