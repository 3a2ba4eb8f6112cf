use Rattle.std.specs.Prelude.{length}
use Rattle.std.proofs.Common.{sym, ap, ◌∙◌}
use native.Mathlib.Omega.{arith}
use Rattle.text.specs.Laws.Text.{decimal_printed}
use Rattle.text.specs.Laws.Writer.{writes_as}
use Rattle.text.proofs.Writer.decimal.Goals as goal

pub bytes-requires : goal.bytes-requires
bytes-requires c = let e = ap length (decimal_printed c.args.n (omega arith) ∙ sym (c.as_bytes.ensures.value ∙ c.format.ensures.text)) in omega (arith, c.requires)

pub returns : goal.returns
returns c = writes_as c.bytes.ensures (c.as_bytes.ensures.value ∙ c.format.ensures.text ∙ sym (decimal_printed c.args.n (omega arith)))
