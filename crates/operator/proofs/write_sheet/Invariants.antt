-- The invariant: the bytes before n are those of the sheet.
use mathlib.Core.Path.{◌≡◌}
use Prim.Native.Nat.{ℕ, ◌+◌}
use mathlib.Core.List.{List}
use lib.ListN.{get_or, take}
use Rattle.matrix.specs.Laws.Range.{Filled}
use Rattle.sheet_bytes.specs.Bytes.{shortest, sheet_bytes}
use Rattle.operator.proofs.write_sheet.Given as goal

abbrev pub byte : ℕ → List ℕ → List ℕ → ℕ → ℕ
byte count numbers columns i = get_or (sheet_bytes (take count numbers) columns) i 0

abbrev pub invariant-loop-n : goal.invariant-loop-n
invariant-loop-n l = (l.end ≡ l.cut.count + shortest) × Filled 0 (byte l.cut.count l.cut.numbers l.cut.columns) l.initial.out l.n l.out
