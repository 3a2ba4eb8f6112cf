-- The word is that of the call's answer, which has fewer than 2^24 bytes.
use mathlib.Core.Path.{sym, subst}
use Prim.Native.Nat.{◌^◌, ◌<◌}
use Rattle.answer_word.specs.Encoding.{bytes_of}
use Rattle.dimfrets.specs.Laws.Answers.{letters_fit}
use Rattle.dimfrets.proofs.dimfrets_qasm_to_gates.Goals as goal

pub encode-requires : goal.encode-requires
encode-requires c = subst (λ a. bytes_of a < 2 ^ 24) (sym c.qasm_to_gates-answer.ensures.answer) (letters_fit _ _).1
