use mathlib.Core.Path.{◌≡◌, sym, ap, ◌∙◌}
use Prim.Native.Nat.{ℕ, ◌+◌, ◌-◌, ◌≤◌}
use native.Mathlib.Omega.{arith}
use mathlib.Core.List.{List}
use lib.ListN.{length, take, drop, get_or, length-drop, length-map}
use lib.Seq.{get_or-drop, get_or-take, length-take-le}
use borrow.Author.Rules.{rules}
use borrow.Author.Tests.{tests}
use Rattle.matrix.specs.Range.{tabulate}
use Rattle.matrix.specs.Laws.Range.{tabulate_is}
use Rattle.matrix.proofs.Chains.{made}
use Rattle.clifford.specs.Columns.{signed_byte, signed}
use Rattle.clifford.specs.Laws.Signed.{signed_at}
use Rattle.sheet_bytes.proofs.columns_from.Goals as goal

-- byte c of those from `at` on, times the sign
abbrev byte : List ℕ → ℕ → ℕ → ℕ → ℕ
byte bytes at sign c = signed_byte sign (get_or bytes (at + c) 0)

whole : (bytes : List ℕ) (at sign : ℕ) → at + 6 ≤ length bytes → signed sign (take 6 (drop at bytes)) ≡ tabulate (byte bytes at sign) 0 6
whole bytes at sign l =
    let six : length (take 6 (drop at bytes)) ≡ 6 = length-take-le 6 (drop at bytes) (let e = length-drop at bytes in omega arith) in
    tabulate_is (byte bytes at sign) 6 0 (signed sign (take 6 (drop at bytes))) (length-map (take 6 (drop at bytes)) (signed_byte sign) ∙ six)
    (λ i h. signed_at sign (take 6 (drop at bytes)) i (omega arith) ∙ ap (signed_byte sign) (get_or-take 6 (drop at bytes) i 0 h ∙ get_or-drop at bytes i 0))

pub returns : goal.returns
returns c =
    let a = c.args in
    let at = length a.bytes.now - 7 in
    made _ (byte a.bytes.now at a.sign) 0 c.from_fn.result (λ x y q k. search (rules, tests)) 6 c.from_fn.ensures.items ∙ sym (whole a.bytes.now at a.sign (omega (arith, c.requires)))
