use mathlib.Core.Path.{◌≡◌, sym, ap, ◌∙◌}
use mathlib.Core.Logic.{◌≢◌}
use mathlib.Core.Bool.{true, false, ◌&&◌}
use mathlib.Core.List.{List}
use Prim.Native.Nat.{ℕ, ◌+◌, ◌*◌, ◌-◌, ◌≤◌, ◌<◌}
use native.Mathlib.Omega.{arith}
use lib.Dec.{eqb}
use lib.ListN.{length, get_or}
use borrow.Author.Rules.{rules}
use borrow.Author.Tests.{lt-leb, le-leb, eq-eqb, ne_eqb}
use Rattle.matrix.specs.Range.{every_from, every}
use Rattle.matrix.specs.Laws.Range.{every_next, every_stop}
use Rattle.bundle.specs.Laws.Read.{start_first, start_next}
use Rattle.bundle.specs.Bundle.{sheet_count, trailer_start, offset, start_of, is_followed, is_ended, has_sheets}
use Rattle.bundle.proofs.has_sheets.Goals as goal

module _ (b : List ℕ) where
  -- the two tests of a sheet
  module _ (n at : ℕ) (e : at ≡ start_of b n) where
    low : get_or b at 0 < 64 → is_followed b n ≡ false
    low h = let f = ap (λ k. get_or b k 0) e in rw (lt-leb 64 (get_or b (start_of b n) 0) (omega arith))

    module _ (h : 64 ≤ get_or b at 0) where
      off : offset b n ≢ at → is_followed b n ≡ false
      off d = let f = ap (λ k. get_or b k 0) e in rw (le-leb 64 (get_or b (start_of b n) 0) (omega arith), ne_eqb (offset b n) (start_of b n) (λ z. d (z ∙ sym e)))

      follows : offset b n ≡ at → is_followed b n ≡ true
      follows d = let f = ap (λ k. get_or b k 0) e in rw (le-leb 64 (get_or b (start_of b n) 0) (omega arith), eq-eqb (offset b n) (start_of b n) (d ∙ e))

  module _ (count : ℕ) (q : count ≡ sheet_count b) (n : ℕ) (rest : every count (is_followed b) ≡ every_from (is_followed b) n (count - n)) where
    -- a sheet that does not follow decides
    stops : n < count → is_followed b n ≡ false → false ≡ has_sheets b
    stops l h = sym (ap (λ t. t && is_ended b) (ap (λ k. every k (is_followed b)) (sym q) ∙ rest ∙ every_stop (is_followed b) count n l h))

    -- and behind the last one its end
    ends : n ≡ count → (at : ℕ) → at ≡ start_of b n → eqb at (trailer_start b) ≡ has_sheets b
    unfolding every_from
    ends l at e =
        let z : count - n ≡ 0 = omega arith in
        ap (λ k. eqb k (trailer_start b)) (e ∙ ap (start_of b) (l ∙ q))
        ∙ sym (ap (λ t. t && is_ended b) (ap (λ k. every k (is_followed b)) (sym q) ∙ rest ∙ ap (every_from (is_followed b) n) z))

pub loop-n-init : goal.loop-n-init
loop-n-init c =
    let a = c.args in
    (search rules, start_first _, let e : a.count ≡ a.count - 0 = omega arith in ap (every_from (is_followed a.bytes.now) 0) e)

pub returns-then-first-lt-LEAST_FIRST : goal.returns-then-first-lt-LEAST_FIRST
returns-then-first-lt-LEAST_FIRST c =
    let e = c.byte_at-first.ensures in
    stops c.args.bytes.now _ c.requires.0 c.loop-n.n c.loop-n.invariant.2 (omega arith) (low _ _ c.loop-n.at c.loop-n.invariant.1 (omega arith))

pub returns-then-says-at : goal.returns-then-says-at
returns-then-says-at c =
    let e = c.byte_at-first.ensures in
    stops c.args.bytes.now _ c.requires.0 c.loop-n.n c.loop-n.invariant.2 (omega arith)
    (off _ _ c.loop-n.at c.loop-n.invariant.1 (omega arith) (λ z. c.if-says-at.true (c.offset-says.ensures.0 ∙ z)))

pub loop-n-preserved : goal.loop-n-preserved
loop-n-preserved c =
    let b = c.args.bytes.now in
    let e = c.byte_at-first.ensures in
    let o = c.offset-says.ensures.0 in (
      search rules,
      ap (λ x. c.loop-n.at + x) (c.sheet_length-at.ensures.0 ∙ ap (λ x. x - 56) e) ∙ start_next b c.loop-n.n c.loop-n.at c.loop-n.invariant.1,
      c.loop-n.invariant.2 ∙ every_next _ _ c.loop-n.n (omega arith) (follows b c.loop-n.n c.loop-n.at c.loop-n.invariant.1 (omega arith) (sym o ∙ c.if-says-at.false)),
    )

pub returns : goal.returns
returns c =
    ap (λ k. eqb c.loop-n.at (length c.args.bytes.now - (2 * k + 2))) c.requires.0
    ∙ ends _ _ c.requires.0 c.loop-n.n c.loop-n.invariant.2 (omega arith) c.loop-n.at c.loop-n.invariant.1
