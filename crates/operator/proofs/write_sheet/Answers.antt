use mathlib.Core.Path.{◌≡◌, refl, sym, ap, ◌∙◌}
use Prim.Native.Nat.{ℕ, ◌+◌, ◌≤◌}
use native.Mathlib.Omega.{arith}
use mathlib.Core.List.{List}
use lib.ListN.{length, take}
use Rattle.matrix.specs.Laws.Range.{tabulate_is, Filled}
use Rattle.file.specs.File.{written}
use Rattle.file.specs.Laws.Written.{filled_written}
use Rattle.sheet_bytes.specs.Bytes.{shortest, sheet_bytes}
use Rattle.sheet_bytes.specs.Laws.Bytes.{length_held}
use Rattle.operator.proofs.write_sheet.Invariants.{byte}
use Rattle.operator.proofs.write_sheet.Goals as goal

-- all bytes are written
whole : (count : ℕ) (numbers columns out₀ out : List ℕ) (n : ℕ) → count ≤ 60 → length numbers ≡ 60 → length columns ≡ 6 → n ≡ count + shortest → n ≤ length out₀
    → Filled 0 (byte count numbers columns) out₀ n out → out ≡ written out₀ (sheet_bytes (take count numbers) columns)
whole count numbers columns out₀ out n h l m e u f =
    let t = length_held count numbers columns (omega arith) m ∙ sym e in
    filled_written (byte count numbers columns) out₀ n out f u
    ∙ ap (written out₀) (sym (tabulate_is (byte count numbers columns) n 0 (sheet_bytes (take count numbers) columns) t (λ i x. refl)))

pub returns : goal.returns
returns c =
    let e = c.loop-n.invariant.0 in
    whole c.args.cut.now.count c.args.cut.now.numbers c.args.cut.now.columns c.args.out.now c.loop-n.out c.loop-n.n (omega arith) (omega arith) (omega arith) (omega arith) (omega arith) c.loop-n.invariant.1
