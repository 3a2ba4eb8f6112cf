use mathlib.Core.Path.{sym, subst}
use native.Mathlib.Omega.{arith}
use Prim.Native.Nat.{◌+◌}
use lib.ListN.{get_or}
use Rattle.letter.specs.Gate.{gate_of}
use Rattle.gate.specs.Stretch.{CliffordLetters}
use Rattle.gate.specs.Laws.Stretch.{letters_none, letters_more, onto}
use Rattle.gate.proofs.read_stretch.Goals as goal

pub loop-next-init : goal.loop-next-init
loop-next-init c = letters_none _ _ c.requires

pub loop-next-preserved : goal.loop-next-preserved
loop-next-preserved c =
    let l = c.loop-next in
    let o = onto l.columns (gate_of (get_or c.args.letters.now l.next 0)) c.in-Some.more c.in-Some.ensures in
    subst (λ x. CliffordLetters c.args.letters.now c.args.at x (l.next + 1)) (sym o.columns)
    (letters_more c.args.letters.now c.args.at l.columns l.next l.invariant (omega arith) o.gate o.is o.clifford)
