-- The sum and the difference of two entries of at most 2^30 fit, and so do their halves.
use mathlib.Core.Path.{ap₂}
use Prim.Native.Nat.{◌^◌}
use lib.Dec.{lit<}
use lib.IntN.{ℤ, pos, ◌+ℤ◌, ◌-ℤ◌}
use lib.ListN.{get_or, set}
use mir.Syntax.{w64}
use mir.Val.{to_z, of_z}
use Rattle.matrix.specs.Laws.Machine.{Sized, again, stored, add, sub, halve}
use Rattle.matrix.proofs.half_pair.Goals as goal

-- the two entries
abbrev x : goal.After-y-1 → ℤ
x c = let a = c.args in get_or a.m.now a.p (pos 0)

abbrev y : goal.After-y-1 → ℤ
y c = let a = c.args in get_or a.m.now a.q (pos 0)

plus : (c : goal.After-y-1) → Sized (2 ^ 31) (to_z w64 (of_z w64 (x c)) +ℤ to_z w64 (of_z w64 (y c))) (x c +ℤ y c)
plus c = let p = c.requires in add (stored (x c) p.2 (lit< tt)) (stored (y c) p.3 (lit< tt))

minus : (c : goal.After-y-1) → Sized (2 ^ 31) (to_z w64 (of_z w64 (y c)) -ℤ to_z w64 (of_z w64 (x c))) (y c -ℤ x c)
minus c = let p = c.requires in sub (stored (y c) p.3 (lit< tt)) (stored (x c) p.2 (lit< tt))

pub returns : goal.returns
returns c =
    let a = c.args in
    ap₂ (λ s d. set (set a.m.now a.p s) a.q d) (again (halve (again (plus c) (lit< tt))) (lit< tt)).is (again (halve (again (minus c) (lit< tt))) (lit< tt)).is
