-- What is written is that of the refusal, or the part.
use Rattle.std.specs.Prelude.{◌≡◌}
use mathlib.Core.Path.{sym, ap, ◌∙◌}
use native.Mathlib.Omega.{arith}
use borrow.Author.Tests.{eq-eqb, ne_eqb}
use Rattle.text.specs.Text.{refused_line}
use Rattle.text.specs.Laws.Text.{refused_length}
use Rattle.text.specs.Laws.Writer.{written_is}
use Rattle.bundle.specs.Bundle.{bundle_refusal}
use Rattle.take_sheet.specs.Output.{sheet_output}
use Rattle.take_sheet.proofs.write_sheet.Goals as goal

pub refused-requires : goal.refused-requires
refused-requires c = omega (arith, refused_length c.number.result)

pub returns-in-Err : goal.returns-in-Err
unfolding sheet_output
returns-in-Err c =
    let (e, h) = c.number.ensures in
    let f : c.number.result ≡ bundle_refusal c.args.bundle.now c.args.n = e ∙ c.in-Err.ensures in
    c.refused.ensures ∙ ap refused_line f ∙ rw (ne_eqb (bundle_refusal c.args.bundle.now c.args.n) 0 (λ z. omega arith))

pub returns-in-Ok : goal.returns-in-Ok
unfolding sheet_output
returns-in-Ok c =
    let (s, l, _) = c.bundle_sheet.ensures in
    c.written.ensures ∙ written_is c.new-w.ensures c.bytes.ensures (omega arith) ∙ s ∙ rw (eq-eqb (bundle_refusal _ _) 0 (sym c.in-Ok.ensures))
