-- The table has the powers from 0 to 15, and they repeat.
use mathlib.Core.Path.{ap, ◌∙◌}
use Prim.Native.Nat.{◌%◌, ◌^◌}
use native.Mathlib.Nat.{zero-add}
use native.Mathlib.Omega.{arith}
use Rattle.matrix.specs.Range.{tabulate}
use Rattle.matrix.specs.Laws.Range.{get_d_tabulate}
use Rattle.omega.specs.Laws.Residue.{power_repeated}
use Rattle.omega.proofs.root_power.Goals as goal

pub returns : goal.returns
unfolding tabulate
returns c =
    let k = c.args.k in
    let e = get_d_tabulate (λ i. 14 ^ i % 17) 0 16 (k % 16) 0 (omega arith) ∙ ap (λ i. 14 ^ i % 17) (zero-add (k % 16)) ∙ power_repeated k (omega arith) in
    (e, omega arith)
