-- The number in the table has the stretch's letters below the place of its sign, at most 16 of them.
use mathlib.Core.Path.{ap}
use Prim.Native.Nat.{◌+◌, ◌*◌, ◌-◌}
use native.Mathlib.Omega.{arith}
use lib.ListN.{get_or}
use Rattle.letter.specs.Composition.{composed}
use Rattle.gate_list.specs.List.{left_of, right_of, stretch}
use Rattle.gate_list.specs.Laws.Stretches.{sign_small, stretch_short, code_letters, code_sign}
use Rattle.gate_list.proofs.write_stretch.Goals as goal

pub overflow_cast-result : goal.overflow_cast-result
overflow_cast-result c =
    let g = c.args.g in
    let h = c.args.h in
    let e = code_sign g h c.requires.0 c.requires.1 c.requires.2 c.requires.3 _ (ap (λ l. get_or l ((g - 1) * 15 + (h - 1)) 0) c.requires.5) in
    rw e (record { fits = omega (arith, sign_small (composed (right_of g) (left_of h))) })

pub returns : goal.returns
returns c =
    let g = c.args.g in
    let h = c.args.h in
    let e = ap (λ l. get_or l ((g - 1) * 15 + (h - 1)) 0) c.requires.5 in (
      c.write_code.ensures (stretch (right_of g) h) (code_letters g h c.requires.0 c.requires.1 c.requires.2 c.requires.3 _ e)
          (stretch_short g h c.requires.0 c.requires.1 c.requires.2 c.requires.3),
      code_sign g h c.requires.0 c.requires.1 c.requires.2 c.requires.3 _ e,
    )
