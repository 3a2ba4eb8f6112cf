use mathlib.Core.Path.{◌≡◌, refl, sym, ap, ◌∙◌}
use mathlib.Core.Bool.{true, false, cond}
use mathlib.Core.List.{List, [], ◌∷◌}
use mathlib.Core.Logic.{◌≢◌}
use Prim.Native.Nat.{ℕ, ◌+◌, ◌*◌, ◌-◌, ◌≤◌, ◌<◌}
use native.Mathlib.Numerals.{add-one}
use native.Mathlib.Omega.{arith}
use lib.ListN.{length, get_or, drop}
use lib.Seq.{drop-cons, drop-length}
use borrow.Author.Tests.{eqb-true, eqb-false, le-leb, lt-leb}
use Rattle.std.specs.Prelude.{Some, None}
use Rattle.text_read.specs.Text.{largest_number, capped, is_digit, number_from, number_of}
use Rattle.text_read.specs.Laws.Number.{capped_small, capped_below, number_capped}
use Rattle.text_read.proofs.read_number.Goals as goal

none : (bs : List ℕ) → length bs ≡ 0 → number_of bs ≡ None
unfolding number_of
none [] h = refl
none (b ∷ bs) h = absurd (omega arith)

some : (bs : List ℕ) → length bs ≢ 0 → number_of bs ≡ number_from 0 bs
unfolding number_of
some [] h = absurd (h refl)
some (b ∷ bs) h = refl

below : (b : ℕ) → b < 48 → is_digit b ≡ false
below b h = rw (lt-leb 48 b h)

above : (b : ℕ) → 48 ≤ b → 57 < b → is_digit b ≡ false
above b l h = rw (le-leb 48 b l, lt-leb b 57 h)

inside : (b : ℕ) → 48 ≤ b → b ≤ 57 → is_digit b ≡ true
inside b l h = rw (le-leb 48 b l, le-leb b 57 h)

module _ (bs : List ℕ) (n i : ℕ) (s : number_of bs ≡ number_from n (drop i bs)) where
  here : i < length bs → number_of bs ≡ cond (is_digit (get_or bs i 0)) (number_from (10 * n + (get_or bs i 0 - 48)) (drop (i + 1) bs)) None
  unfolding number_from
  here h = s ∙ ap (number_from n) (drop-cons bs i 0 h ∙ ap (λ k. get_or bs i 0 ∷ drop k bs) (sym (add-one i)))

  stops : i < length bs → is_digit (get_or bs i 0) ≡ false → None ≡ number_of bs
  stops h d = sym (here h ∙ ap (λ t. cond t (number_from (10 * n + (get_or bs i 0 - 48)) (drop (i + 1) bs)) None) d)

  goes : i < length bs → is_digit (get_or bs i 0) ≡ true → number_of bs ≡ number_from (capped (10 * n + (get_or bs i 0 - 48))) (drop (i + 1) bs)
  goes h d =
      here h ∙ ap (λ t. cond t (number_from (10 * n + (get_or bs i 0 - 48)) (drop (i + 1) bs)) None) d
      ∙ sym (number_capped (10 * n + (get_or bs i 0 - 48)) (drop (i + 1) bs))

  ends : i ≡ length bs → n ≤ largest_number → Some n ≡ number_of bs
  unfolding number_from
  ends e h = sym (s ∙ ap (number_from n) (ap (λ k. drop k bs) e ∙ drop-length bs) ∙ ap Some (capped_below n h))

pub returns-then-is_empty : goal.returns-then-is_empty
returns-then-is_empty c = sym (none _ (eqb-true _ _ (sym c.if-is_empty.ensures)))

pub loop-b-init : goal.loop-b-init
loop-b-init c = (omega arith, some _ (eqb-false _ _ (sym c.if-is_empty.ensures)))

pub returns-in_default : goal.returns-in_default
returns-in_default c =
    let b = get_or c.args.bytes.now c.loop-b.b-index 0 in
    stops _ c.loop-b.n c.loop-b.b-index c.loop-b.invariant.1 c.loop-b-test.true (below b (omega arith))

pub returns-in_default-2 : goal.returns-in_default-2
returns-in_default-2 c =
    let b = get_or c.args.bytes.now c.loop-b.b-index 0 in
    stops _ c.loop-b.n c.loop-b.b-index c.loop-b.invariant.1 c.loop-b-test.true (above b (omega arith) (omega arith))

pub loop-b-preserved : goal.loop-b-preserved
loop-b-preserved c =
    let b = get_or c.args.bytes.now c.loop-b.b-index 0 in
    let e = c.cap-n.ensures in
    let m = capped_small (10 * c.loop-b.n + (b - 48)) in
    (omega arith, rw e (goes _ c.loop-b.n c.loop-b.b-index c.loop-b.invariant.1 c.loop-b-test.true (inside b (omega arith) (omega arith))))

pub returns : goal.returns
returns c = ends _ c.loop-b.n c.loop-b.b-index c.loop-b.invariant.1 (omega arith) c.loop-b.invariant.0
