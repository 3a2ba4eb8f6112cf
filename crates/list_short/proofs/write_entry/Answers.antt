-- The line of a sheet that is read, and nothing of another.
use mathlib.Core.Path.{◌≡◌, sym, ◌∙◌}
use Prim.Native.Nat.{◌+◌, ◌-◌}
use native.Mathlib.Omega.{arith}
use lib.ListN.{length}
use Rattle.text.specs.Laws.Writer.{writes_none, writes_as}
use Rattle.list_short.specs.Laws.Entry.{line_not_read, entry_line, line_most}
use Rattle.list_short.proofs.write_entry.Goals as goal

pub line-requires : goal.line-requires
line-requires c =
    let b = c.args.sheet.now in
    let e : length b - 8 + 1 - 1 ≡ length b - 8 = omega arith in
    let l = line_most b c.requires.0 c.requires.1 in
    rw e (omega (arith, c.requires))

pub returns-then-is_read : goal.returns-then-is_read
returns-then-is_read c =
    let b = c.args.sheet.now in
    let e : length b - 8 + 1 - 1 ≡ length b - 8 = omega arith in
    writes_as (rw e at c.line.ensures) (entry_line b c.requires.0 c.requires.1 (sym c.is_read.ensures ∙ c.if-is_read.true))

pub returns-else-is_read : goal.returns-else-is_read
returns-else-is_read c = writes_as (writes_none c.args.w.now) (line_not_read c.args.sheet.now (sym c.is_read.ensures ∙ c.if-is_read.false))
