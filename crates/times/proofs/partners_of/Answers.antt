-- Pair after pair, as the definition has it.
use mathlib.Core.Path.{◌≡◌, refl, ap, ap₂, ◌∙◌}
use Prim.Native.Nat.{ℕ, ◌+◌, ◌*◌, ◌<◌, ◌≤◌}
use native.Mathlib.Omega.{arith}
use mathlib.Core.List.{List}
use lib.ListN.{get_or, replicate}
use Rattle.residue.specs.Generator.{pair_rows, low, high}
use Rattle.residue.specs.Laws.Table.{row_at_lem}
use Rattle.residue.specs.Laws.Generator.{are_rows}
use Rattle.times.specs.Times.{paired, partners}
use Rattle.times.proofs.partners_of.Goals as goal

-- where the code has the six rows ps
inside : (g : ℕ) → 1 ≤ g → g ≤ 15 → (ps : List ℕ) → ps ≡ pair_rows g → (n : ℕ) → n < 6 → get_or ps n 0 < 6
inside g l u ps q n h = rw q (are_rows g l u n h)

whole : (g : ℕ) (ps : List ℕ) → ps ≡ pair_rows g → (p : ℕ) {x y : List ℕ} → x ≡ y → paired (get_or ps (p * 2) 0) (get_or ps (p * 2 + 1) 0) x ≡ paired (low g p) (high g p) y
whole g ps q p {x} {y} e =
    ap₂ (λ i j. paired i j x) (ap (λ l. get_or l (p * 2) 0) q ∙ row_at_lem g (p * 2)) (ap (λ l. get_or l (p * 2 + 1) 0) q ∙ row_at_lem g (p * 2 + 1))
    ∙ ap (paired (low g p) (high g p)) e

pub paired_by-first-requires : goal.paired_by-first-requires
paired_by-first-requires c =
    let k = c.pairs_of-pairs in
    (inside c.args.g c.requires.0 c.requires.1 k.result k.ensures 0 (omega arith), inside c.args.g c.requires.0 c.requires.1 k.result k.ensures 1 (omega arith))

pub paired_by-second-requires : goal.paired_by-second-requires
paired_by-second-requires c =
    let k = c.pairs_of-pairs in
    (inside c.args.g c.requires.0 c.requires.1 k.result k.ensures 2 (omega arith), inside c.args.g c.requires.0 c.requires.1 k.result k.ensures 3 (omega arith))

pub paired_by-requires : goal.paired_by-requires
paired_by-requires c =
    let k = c.pairs_of-pairs in
    (inside c.args.g c.requires.0 c.requires.1 k.result k.ensures 4 (omega arith), inside c.args.g c.requires.0 c.requires.1 k.result k.ensures 5 (omega arith))

pub returns : goal.returns
unfolding partners
returns c =
    let k = c.pairs_of-pairs in
    let g = c.args.g in
    c.paired_by.ensures
    ∙ whole g k.result k.ensures 2 (c.paired_by-second.ensures ∙ whole g k.result k.ensures 1 (c.paired_by-first.ensures ∙ whole g k.result k.ensures 0 {x = replicate 6 0} refl))
