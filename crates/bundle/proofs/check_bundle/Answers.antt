-- Each test is the definition's, in its order.
use mathlib.Core.Path.{◌≡◌, sym, ◌∙◌}
use mathlib.Core.Bool.{true}
use mathlib.Core.List.{List}
use Prim.Native.Nat.{ℕ, ◌≤◌, ◌<◌}
use native.Mathlib.Omega.{arith}
use lib.ListN.{length}
use borrow.Author.Tests.{lt-leb, le-leb, lt-ltb, le-ltb}
use Rattle.bundle.specs.Bundle.{most_sheets, sheet_count, trailer_length, has_trailer, bundle_refusal}
use Rattle.bundle.proofs.check_bundle.Goals as goal
use Rattle.bundle.proofs.check_bundle.Goals.{then-len-count-via-then-len-count, then-len-count-via-else-len-count+then-count-gt-MOST_SHEETS}

trailer : (b : List ℕ) → 2 ≤ length b → trailer_length (sheet_count b) ≤ length b → sheet_count b ≤ most_sheets → has_trailer b ≡ true
trailer b k l m = rw (le-leb 2 (length b) k, le-leb (trailer_length (sheet_count b)) (length b) l, le-leb (sheet_count b) most_sheets m)

short : (b : List ℕ) (n : ℕ) → 2 ≤ length b → length b < trailer_length (sheet_count b) → 20 ≡ bundle_refusal b n
unfolding bundle_refusal
short b n k l = rw (le-leb 2 (length b) k, lt-leb (trailer_length (sheet_count b)) (length b) l)

many : (b : List ℕ) (n : ℕ) → 2 ≤ length b → trailer_length (sheet_count b) ≤ length b → most_sheets < sheet_count b → 20 ≡ bundle_refusal b n
unfolding bundle_refusal
many b n k l m = rw (le-leb 2 (length b) k, le-leb (trailer_length (sheet_count b)) (length b) l, lt-leb (sheet_count b) most_sheets m)

pub returns-then-len-lt2 : goal.returns-then-len-lt2
unfolding bundle_refusal
returns-then-len-lt2 c = rw (lt-leb 2 _ c.if-len-lt2.true)

pub returns-then-len-count : goal.returns-then-len-count
returns-then-len-count c =
    let b = c.args.bytes.now in
    let n = c.args.n in
    let q = c.two_at-count.ensures.0 in
    elim c.then-len-count.branch [
      | then-len-count-via-then-len-count w ↦ short b n (omega arith) (omega arith)
      | then-len-count-via-else-len-count+then-count-gt-MOST_SHEETS w ↦ many b n (omega arith) (omega arith) (omega arith)
    ]

pub returns-then-not-has_sheets : goal.returns-then-not-has_sheets
unfolding bundle_refusal
returns-then-not-has_sheets c =
    let q = c.two_at-count.ensures.0 in
    rw (trailer c.args.bytes.now (omega arith) (omega arith) (omega arith), sym c.has_sheets.ensures ∙ c.if-not-has_sheets.true)

pub returns-then-count-n : goal.returns-then-count-n
unfolding bundle_refusal
returns-then-count-n c =
    let a = c.args in
    let q = c.two_at-count.ensures.0 in
    rw (
      trailer a.bytes.now (omega arith) (omega arith) (omega arith),
      sym c.has_sheets.ensures ∙ c.if-not-has_sheets.false,
      le-ltb a.n (sheet_count a.bytes.now) (omega arith),
    )

pub returns : goal.returns
unfolding bundle_refusal
returns c =
    let a = c.args in
    let q = c.two_at-count.ensures.0 in
    rw (
      trailer a.bytes.now (omega arith) (omega arith) (omega arith),
      sym c.has_sheets.ensures ∙ c.if-not-has_sheets.false,
      lt-ltb a.n (sheet_count a.bytes.now) (omega arith),
    )
