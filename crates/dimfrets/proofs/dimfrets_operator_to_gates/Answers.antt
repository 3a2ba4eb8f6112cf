-- The word is that of the call's answer, which has fewer than 2^16 letters.
use Rattle.dimfrets.specs.Laws.Answers.{gates_fit}
use Rattle.dimfrets.proofs.dimfrets_operator_to_gates.Goals as goal

pub encode-requires : goal.encode-requires
encode-requires c = (gates_fit _ _ _ _ c.operator_to_gates-answer.ensures).1
