use mathlib.Core.Path.{sym, ap, ◌∙◌}
use mathlib.Core.List.{List, ◌∷◌, ◌++◌, append_assoc}
use Prim.Native.Nat.{ℕ, ◌+◌}
use native.Mathlib.Omega.{arith}
use lib.ListN.{drop, length-append}
use Rattle.letter.specs.declared.Gate.{Gate}
use Rattle.qasm.specs.Reading.{lines, statements}
use Rattle.qasm_read.specs.Statements.{StatementAt, followed}
use Rattle.qasm_read.specs.Laws.Statements.{followed_earlier}
use Rattle.qasm_read.proofs.statements_from.Invariants.{Passed}
use Rattle.qasm_read.proofs.statements_from.Goals as goal

one_passed : (bs : List ℕ) (at count end : ℕ) → Passed bs at count end → (g : Gate) (next : ℕ) → StatementAt bs end g next → Passed bs at (count + 1) next
one_passed bs at count end p g next s =
    let a = length-append p.bytes s.bytes in
    let e = p.ends in
    let f = s.ends in
    let m = s.more in
    let k = p.few in
    let c = p.counted in
    let x = p.short in
    let y = s.short in
    record {
      bytes = p.bytes ++ s.bytes;
      stands = p.stands ∙ ap (λ d. p.bytes ++ d) s.stands ∙ sym (append_assoc p.bytes s.bytes (drop next bs));
      ends = omega arith;
      inside = s.inside;
      list = g ∷ p.list;
      counted = omega arith;
      few = omega arith;
      short = omega arith;
      reads = λ rest.
          ap (λ d. statements (lines d)) (append_assoc p.bytes s.bytes rest)
          ∙ p.reads (s.bytes ++ rest)
          ∙ ap (followed p.list) (s.reads rest)
          ∙ followed_earlier p.list g (statements (lines rest));
    }

pub loop-end-preserved : goal.loop-end-preserved
loop-end-preserved c =
    one_passed _ _ _ _ c.loop-end.invariant _ _ c.in-Some.ensures
