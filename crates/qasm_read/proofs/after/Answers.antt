use mathlib.Core.Path.{◌≡◌, refl, ap}
use mathlib.Core.Bool.{Bool, true, false}
use mathlib.Core.List.{List}
use Prim.Native.Nat.{ℕ, ◌<◌}
use native.Mathlib.Omega.{arith}
use lib.ListN.{length, take, drop, length-take, length-drop}
use Rattle.matrix.specs.Laws.Test.{same_list_lem}
use Rattle.qasm_read.specs.Statements.{begins}
use Rattle.qasm_read.proofs.after.Goals as goal

too_short : (d l : List ℕ) → length d < length l → begins d l ≡ false
too_short d l h = go (begins d l) refl
  where
    go : (t : Bool) → begins d l ≡ t → t ≡ false
    go true e = let m = ap length (same_list_lem (take (length l) d) l e) in let n = length-take (length l) d in absurd (omega arith)
    go false e = refl

pub returns-then-text-at : goal.returns-then-text-at
returns-then-text-at c =
    let a = c.args in
    rw (too_short (drop a.at a.text.now) a.line.now (let d = length-drop a.at a.text.now in omega arith))
