-- A stretch has at most 16 letters, and 37 are room enough for the last word.
use mathlib.Core.Path.{◌≡◌, refl, sym, ap, subst, ◌∙◌}
use mathlib.Core.List.{List}
use Prim.Native.Nat.{ℕ}
use native.Mathlib.Omega.{arith}
use lib.ListN.{length}
use borrow.Author.Rules.{rules}
use Rattle.letter.specs.declared.Gate.{Gate}
use Rattle.letter.specs.Composition.{composed}
use Rattle.letter.specs.Written.{Written}
use Rattle.letter.specs.Laws.Written.{written_as}
use Rattle.word.specs.Word.{clifford_word, word_sign}
use Rattle.gate_list.specs.List.{right_of}
use Rattle.gate_list.specs.Laws.Listing.{listing_none, listing_more, listing_all, listing_sign, counted}
use Rattle.gate_list.proofs.write_list.Goals as goal

pub loop-number-init : goal.loop-number-init
loop-number-init c = record { listing = rw c.new-writer.ensures.at (listing_none _ _ _); lent = refl }

pub loop-number-preserved : goal.loop-number-preserved
loop-number-preserved c =
    let w = c.write_stretch-signs in
    let t = counted c.args.cut.now.count c.args.cut.now.numbers (omega arith) in
    let (low, high) = c.requires.0 c.loop-number.number-index c.loop-number-test.true in
    let long = ap length c.new-writer.ensures.buffer in
    record {
      listing = listing_more _ _ _ _ _ _ _ _ c.loop-number.invariant.listing (omega (arith, c.requires.2)) _ _ _ _ c.loop-number-test.true refl low high w.ensures.0.written w.ensures.1;
      lent = w.ensures.0.lent ∙ c.loop-number.invariant.lent;
    }

-- the buffer that was lent is that of the writer
lent_back : {w : List Gate} {old new x y : List ℕ} {n : ℕ} → Written w 0 x y n → x ≡ old → new ≡ y → Written w 0 old new n
lent_back {w} {old} {new} {x} {y} {n} h e f = rw f (subst (λ x. Written w 0 x y n) e h)

pub returns : goal.returns
returns c =
    let t = counted c.args.cut.now.count c.args.cut.now.numbers (omega arith) in
    let last : c.compose-last.result ≡ composed (right_of c.loop-number.before) c.args.cut.now.columns = c.compose-last.ensures ∙ ap (λ x. composed x c.args.cut.now.columns) c.right_of.ensures in
    let w = c.write_clifford-sign in
    let buffer = c.new-writer.ensures.buffer in
    let long = ap length buffer in
    let lent = w.ensures.0.lent ∙ c.loop-number.invariant.lent ∙ c.new-writer.ensures.lent in (
      lent_back (listing_all _ _ _ _ _ _ _ _ c.loop-number.invariant.listing (omega (arith, c.requires.2)) (omega arith) _ _ (written_as (ap clifford_word last) w.ensures.0.written)) buffer (search (rules, sym lent)),
      listing_sign _ _ _ _ _ _ _ _ c.loop-number.invariant.listing (omega (arith, c.requires.2)) (omega arith) _ (w.ensures.1 ∙ ap word_sign last),
    )
