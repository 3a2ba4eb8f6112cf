-- The word is that of the call's answer, which has fewer than 2^24 bytes.
use mathlib.Core.Path.{sym, subst}
use Prim.Native.Nat.{◌^◌, ◌<◌}
use Rattle.answer_word.specs.Encoding.{bytes_of}
use Rattle.dimfrets.specs.Laws.Answers.{bundle_bytes}
use Rattle.dimfrets.proofs.dimfrets_sheets_to_bundle.Goals as goal

pub encode-requires : goal.encode-requires
encode-requires c = subst (λ a. bytes_of a < 2 ^ 24) (sym c.sheets_to_bundle-answer.ensures.answer) (bundle_bytes _ _)
