use Rattle.std.specs.Prelude.{Ok}
use mathlib.Core.Path.{◌≡◌, sym, subst}
use mathlib.Core.List.{List, map}
use Prim.Native.Nat.{ℕ, ◌≤◌}
use native.Mathlib.Omega.{arith}
use lib.ListN.{length}
use Rattle.letter.specs.Gate.{letter}
use Rattle.qasm.specs.Promise.{size}
use Rattle.qasm_read.specs.Statements.{read_from, list_in}
use Rattle.qasm_read.specs.Laws.Letters.{list_in_lem, Going, start, turn, never, finished}
use Rattle.qasm_read.proofs.write_letters.Goals as goal

begun : (bs : List ℕ) (at n : ℕ) (old : List ℕ) → at ≤ length bs → Ok n ≡ size (map letter) (read_from bs at) → Going bs (list_in (read_from bs at)) old old at n
begun bs at n old h e =
    let (r, l) = list_in_lem (read_from bs at) n e in
    subst (Going bs (list_in (read_from bs at)) old old at) (sym l) (start bs (list_in (read_from bs at)) old at h r)

-- the letters have room
fits : (bs old : List ℕ) (at n : ℕ) → (at ≤ length bs) × (Ok n ≡ size (map letter) (read_from bs at)) × (n ≤ length old) → length (list_in (read_from bs at)) ≤ length old
fits bs old at n p = let (r, l) = list_in_lem (read_from bs at) n p.1 in let f = p.2 in omega arith

pub loop-left-init : goal.loop-left-init
loop-left-init c =
    let a = c.args in
    let p = c.requires in
    begun a.text.now a.at a.count a.out.now p.0 p.1

pub loop-left-preserved : goal.loop-left-preserved
loop-left-preserved c =
    let s = c.in-Some.ensures in
    turn _ _ _ _ _ _ c.loop-left.invariant _ _ s (fits c.args.text.now c.args.out.now c.args.at c.args.count c.requires) c.from.ensures

pub returns-in_default : goal.returns-in_default
returns-in_default c =
    absurd (never _ _ _ _ _ _ c.loop-left.invariant (omega arith) c.in_default.ensures)

pub returns : goal.returns
returns c = finished _ _ _ _ _ _ c.loop-left.invariant (omega arith)
