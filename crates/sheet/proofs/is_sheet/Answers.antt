use mathlib.Core.Path.{◌≡◌, refl, sym, ap, ap₂, ◌∙◌}
use Prim.Native.Nat.{ℕ, suc, ◌+◌, ◌<◌}
use native.Mathlib.Omega.{arith}
use mathlib.Core.Bool.{Bool, true, false, ◌&&◌}
use mathlib.Core.Logic.{◌≢◌}
use mathlib.Core.List.{List, [], ◌∷◌}
use lib.Dec.{eqb}
use lib.ListN.{length, get_or, take}
use borrow.Author.Rules.{rules}
use borrow.Author.Tests.{tests, ne_eqb}
use Rattle.std.specs.List.{list_all, enumerate_from}
use Rattle.std.proofs.lemmas.Iterator.{YieldsList-from_slice}
use Rattle.std.proofs.lemmas.Iterator.Consumers.{YieldsList-from_enumerate}
use Rattle.std.proofs.lemmas.Iterator.Search.{all_from_yields_List}
use Rattle.matrix.specs.List.{same_list}
use Rattle.matrix.specs.Laws.Test.{same_list_lem}
use Rattle.sheet_bytes.specs.Bytes.{sheet_bytes}
use Rattle.sheet_bytes.specs.Laws.Bytes.{length_held}
use Rattle.sheet.proofs.is_sheet.Goals as goal

-- byte after byte, where f gives those of the first list
same : (f : ℕ → ℕ) (a : ℕ) (xs ys : List ℕ) → length ys ≡ length xs → ((i : ℕ) → i < length xs → f (a + i) ≡ get_or xs i 0)
    → list_all (λ (p : ℕ × ℕ). eqb (f p.0) p.1) (enumerate_from a ys) ≡ same_list xs ys
same f a [] [] l h = refl
same f a [] (y ∷ ys) l h = absurd (omega arith)
same f a (x ∷ xs) [] l h = absurd (omega arith)
same f a (x ∷ xs) (y ∷ ys) l h =
    let z : a + 0 ≡ a = omega arith in
    ap₂ ◌&&◌ (ap (λ t. eqb t y) (ap f (sym z) ∙ h 0 (omega arith)))
    (same f (a + 1) xs ys (omega arith) (λ i u. let s : a + 1 + i ≡ a + suc i = omega arith in ap f s ∙ h (suc i) (omega arith)))

other_length : (xs ys : List ℕ) → length ys ≢ length xs → same_list xs ys ≡ false
other_length xs ys h = go (same_list xs ys) refl
  where
    go : (t : Bool) → same_list xs ys ≡ t → t ≡ false
    go true e = absurd (h (sym (ap length (same_list_lem xs ys e))))
    go false e = refl

pub returns-then-bytes-cut : goal.returns-then-bytes-cut
returns-then-bytes-cut c =
    let b = c.args.bytes.now in
    let t = c.args.cut.now in
    let held = sheet_bytes (take t.count t.numbers) t.columns in
    let l = length_held t.count t.numbers t.columns (omega arith) (omega arith) in
    all_from_yields_List {B = ℕ × ℕ} (λ p. eqb (get_or held p.0 0) p.1) _ _ _ c.all.ensures.ran (YieldsList-from_enumerate (YieldsList-from_slice b cc) cc) (λ x r q k. search (rules, tests))
    ∙ same (λ n. get_or held n 0) 0 held b (c.if-bytes-cut.true ∙ sym l) (λ i u. let z : 0 + i ≡ i = omega arith in ap (λ n. get_or held n 0) z)

pub returns-else-bytes-cut : goal.returns-else-bytes-cut
returns-else-bytes-cut c =
    let t = c.args.cut.now in
    let l = length_held t.count t.numbers t.columns (omega arith) (omega arith) in
    ne_eqb _ _ c.if-bytes-cut.false ∙ sym (other_length (sheet_bytes (take t.count t.numbers) t.columns) c.args.bytes.now (λ e. c.if-bytes-cut.false (e ∙ l)))
