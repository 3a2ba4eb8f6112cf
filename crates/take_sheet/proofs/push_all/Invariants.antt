-- The invariant: the last two bytes are those with the bytes so far behind them.
use mathlib.Core.Path.{◌≡◌}
use mathlib.Core.List.{◌++◌}
use lib.ListN.{take}
use Rattle.take_sheet.specs.Output.{last_two}
use Rattle.take_sheet.proofs.push_all.Given as goal

abbrev pub invariant-loop-b : goal.invariant-loop-b
invariant-loop-b l = last_two l.bytes ≡ last_two (l.initial.bytes ++ take l.b-index l.more)
