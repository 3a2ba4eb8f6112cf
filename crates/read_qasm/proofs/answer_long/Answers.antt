-- The line is that of the refusal that is earned.
use native.Mathlib.Omega.{arith}
use Rattle.text.specs.Laws.Text.{refused_length}
use Rattle.read_qasm.proofs.answer_long.Goals as goal

pub write_refused-requires : goal.write_refused-requires
write_refused-requires g c = omega (arith, refused_length c.number.result)
