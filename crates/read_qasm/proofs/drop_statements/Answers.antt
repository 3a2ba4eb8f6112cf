-- What is left is moved to the front.
use Rattle.std.specs.Prelude.{List, ℕ, ◌≡◌, ◌+◌, ◌-◌, ◌≤◌, length, take, drop}
use Rattle.std.proofs.Common.{refl, sym, ap, ◌∙◌, arith, length-drop, length-take-le}
use Rattle.std.proofs.lemmas.List.{drop-take}
use Rattle.std.proofs.lemmas.List.Edits.{take-paste}
use lib.Seq.{paste}
use Rattle.read_qasm.specs.Laws.Long.{dropped}
use Rattle.read_qasm.proofs.drop_statements.Goals as goal

-- the bytes from a place up to an end, moved to the front
moved : (old : List ℕ) (from end : ℕ) → from ≤ end → end ≤ length old → take (end - from) (paste old 0 (drop from old) (end - from)) ≡ drop from (take end old)
moved old from end h k =
    let same : end - from ≡ 0 + (end - from) = omega arith in
    let whole : from + (end - from) ≡ end = omega arith in
    let l = length-drop from old in
    ap (λ n. take n (paste old 0 (drop from old) (end - from))) same
    ∙ take-paste old 0 (drop from old) (end - from) (omega arith) (omega arith)
    ∙ sym (drop-take from (end - from) old)
    ∙ ap (λ n. drop from (take n old)) whole

pub returns : goal.returns
returns c =
    let old = c.args.bytes.now in
    let end = c.args.end in
    let s = c.statements_from-read.ensures in
    let l = length-take-le end old c.requires in
    let i = s.inside in (
      c.copy_within.ensures.len,
      dropped _ _ c.requires _ s _ _ refl (ap (take (end - c.statements_from-read.result.end)) c.copy_within.ensures.after ∙ moved old _ end (omega arith) c.requires),
    )
