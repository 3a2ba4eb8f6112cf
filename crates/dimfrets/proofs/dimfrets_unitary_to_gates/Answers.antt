-- The word is that of the call's answer, which has fewer than 2^16 letters.
use Rattle.dimfrets.specs.Laws.Answers.{unitary_fits}
use Rattle.dimfrets.proofs.dimfrets_unitary_to_gates.Goals as goal

pub encode-requires : goal.encode-requires
encode-requires c = (unitary_fits _ _ _ _ c.unitary_to_gates-answer.ensures).1
