-- The call's answer says it.
use Rattle.std.specs.Prelude.{◌≡◌, List, ℕ, ◌≤◌, eqb, length, is_ok, Result, Ok, Err}
use Rattle.std.proofs.Common.{refl, sym, ◌∙◌, arith}
use Rattle.refusal.specs.declared.Refusal.{Refusal}
use Rattle.refusal.specs.Refusal.{numbered}
use Rattle.file.specs.File.{long_length}
use Rattle.sheet_bytes.specs.Sheet.{sheet_refusal}
use Rattle.sheet.specs.Promise.{OperatorPromise}
use Rattle.list_short.specs.Laws.Entry.{read, not_read}
use Rattle.list_short.proofs.is_read.Goals as goal

says : {s old new : List ℕ} → long_length ≤ length old → (r : Result ℕ Refusal) → OperatorPromise s old new (numbered r) → is_ok r ≡ eqb (sheet_refusal s) 0
says room (Ok k) p = sym (read room p k refl)
says room (Err e) p = sym (not_read room p _ refl)

pub returns : goal.returns
returns c = c.is_ok.ensures.value ∙ says (omega arith) _ c.sheet_to_operator.ensures
