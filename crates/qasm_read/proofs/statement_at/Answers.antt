-- Each line that stands is that of its gate; where none does, no statement stands.
use Rattle.std.specs.Prelude.{Option, Some, None, is_some, option_map, T}
use mathlib.Core.Path.{◌≡◌, refl, sym, ap, subst, ◌∙◌}
use mathlib.Core.Bool.{Bool, true, false}
use mathlib.Core.List.{List}
use Prim.Native.Nat.{ℕ}
use Rattle.letter.specs.declared.Gate.{Gate}
use Rattle.letter.specs.declared.Gate.TheVariants.{H1, H2, S1, S2, Cz, Cs}
use Rattle.qasm.specs.Text.{statement, reversed}
use Rattle.qasm_read.specs.declared.Statement.{Statement}
use Rattle.qasm_read.specs.Statements.{place_after, line_at, StatementAt, LineAt}
use Rattle.qasm_read.specs.Laws.Statement.{statement_stands, reversed_stands, none}
use Rattle.qasm_read.proofs.statement_at.Goals as goal

-- a line l tried for a gate: t says whether a statement r was found
module _ (bs : List ℕ) (at : ℕ) (l : List ℕ) (g : Gate) where
  abbrev Of : Option ℕ → Option Statement
  Of o = option_map (λ end. record { gate = g; end = end }) o

  found : (r : Option Statement) → r ≡ line_at bs at l g → (t : Bool) → t ≡ is_some r → ((end : ℕ) → Some end ≡ place_after bs at l → StatementAt bs at g end) → t ≡ true → LineAt bs at r
  found r e t s f y = subst (LineAt bs at) (sym e) (go (place_after bs at l) refl (sym (s ∙ ap is_some e) ∙ y))
    where
      go : (o : Option ℕ) → o ≡ place_after bs at l → is_some (Of o) ≡ true → LineAt bs at (Of o)
      go (Some end) p q = f end p
      go None p q = absurd (subst T (sym q) tt)

  not_found : (r : Option Statement) → r ≡ line_at bs at l g → (t : Bool) → t ≡ is_some r → t ≡ false → None ≡ place_after bs at l
  not_found r e t s n = go (place_after bs at l) refl (sym (s ∙ ap is_some e) ∙ n)
    where
      go : (o : Option ℕ) → o ≡ place_after bs at l → is_some (Of o) ≡ false → None ≡ place_after bs at l
      go None p q = p
      go (Some end) p q = absurd (subst T q tt)

  -- the last line decides
  decided : (r : Option Statement) → r ≡ line_at bs at l g → ((end : ℕ) → Some end ≡ place_after bs at l → StatementAt bs at g end) → (None ≡ place_after bs at l → LineAt bs at None) → LineAt bs at r
  decided r e f n = subst (LineAt bs at) (sym e) (go (place_after bs at l) refl)
    where
      go : (o : Option ℕ) → o ≡ place_after bs at l → LineAt bs at (Of o)
      go (Some end) p = f end p
      go None p = n p

pub returns-then-is_some : goal.returns-then-is_some
returns-then-is_some c = found c.args.text.now c.args.at (statement H1) H1 _ c.line_at-statement.ensures _ c.is_some.ensures (statement_stands _ _ c.requires H1) c.if-is_some.true

pub returns-then-is_some-2 : goal.returns-then-is_some-2
returns-then-is_some-2 c = found c.args.text.now c.args.at (statement H2) H2 _ c.line_at-statement-2.ensures _ c.is_some-2.ensures (statement_stands _ _ c.requires H2) c.if-is_some-2.true

pub returns-then-is_some-3 : goal.returns-then-is_some-3
returns-then-is_some-3 c = found c.args.text.now c.args.at (statement S1) S1 _ c.line_at-statement-3.ensures _ c.is_some-3.ensures (statement_stands _ _ c.requires S1) c.if-is_some-3.true

pub returns-then-is_some-4 : goal.returns-then-is_some-4
returns-then-is_some-4 c = found c.args.text.now c.args.at (statement S2) S2 _ c.line_at-statement-4.ensures _ c.is_some-4.ensures (statement_stands _ _ c.requires S2) c.if-is_some-4.true

pub returns-then-is_some-5 : goal.returns-then-is_some-5
returns-then-is_some-5 c = found c.args.text.now c.args.at (statement Cz) Cz _ c.line_at-statement-5.ensures _ c.is_some-5.ensures (statement_stands _ _ c.requires Cz) c.if-is_some-5.true

pub returns-then-is_some-6 : goal.returns-then-is_some-6
returns-then-is_some-6 c = found c.args.text.now c.args.at (reversed Cz) Cz _ c.line_at-statement-6.ensures _ c.is_some-6.ensures (reversed_stands _ _ c.requires Cz) c.if-is_some-6.true

pub returns-then-is_some-7 : goal.returns-then-is_some-7
returns-then-is_some-7 c = found c.args.text.now c.args.at (statement Cs) Cs _ c.line_at-statement-7.ensures _ c.is_some-7.ensures (statement_stands _ _ c.requires Cs) c.if-is_some-7.true

pub returns : goal.returns
returns c =
    let bs = c.args.text.now in
    let at = c.args.at in
    decided bs at (reversed Cs) Cs _ c.line_at.ensures (reversed_stands _ _ c.requires Cs)
    (none bs at
    (not_found bs at (statement H1) H1 _ c.line_at-statement.ensures _ c.is_some.ensures c.if-is_some.false)
    (not_found bs at (statement H2) H2 _ c.line_at-statement-2.ensures _ c.is_some-2.ensures c.if-is_some-2.false)
    (not_found bs at (statement S1) S1 _ c.line_at-statement-3.ensures _ c.is_some-3.ensures c.if-is_some-3.false)
    (not_found bs at (statement S2) S2 _ c.line_at-statement-4.ensures _ c.is_some-4.ensures c.if-is_some-4.false)
    (not_found bs at (statement Cz) Cz _ c.line_at-statement-5.ensures _ c.is_some-5.ensures c.if-is_some-5.false)
    (not_found bs at (reversed Cz) Cz _ c.line_at-statement-6.ensures _ c.is_some-6.ensures c.if-is_some-6.false)
    (not_found bs at (statement Cs) Cs _ c.line_at-statement-7.ensures _ c.is_some-7.ensures c.if-is_some-7.false))
