-- One statement: where a line of the table stands at the front of bytes, it is their first line, and where none does, the first line is no statement.
use Rattle.std.specs.Prelude.{◌≡◌, refl, Bool, true, false, cond, List, [], ◌∷◌, ◌++◌, ℕ, ◌+◌, ◌≤◌, ◌<◌, T, length, take, drop, Option, Some, None}
use Rattle.std.proofs.Common.{sym, ap, ap₂, subst, ◌∙◌, inl, inr, arith, take-append-drop, length-take, length-drop, drop-drop}
use Rattle.std.proofs.lemmas.List.{take-append-le}
use Rattle.std.proofs.Math.Seq.{take-append_seam}
use Rattle.matrix.specs.List.{same_list}
use Rattle.matrix.specs.Laws.Test.{same_list_lem, same_list_refl}
use Rattle.letter.specs.declared.Gate.{Gate}
use Rattle.letter.specs.declared.Gate.TheVariants.{H1, H2, S1, S2, Cz, Cs}
use Rattle.gate.specs.Reading.{refusal}
use Rattle.qasm.specs.Text.{statement, reversed, longest_statement}
use Rattle.qasm.specs.Reading.{lines, statement_of, earlier, statements}
use Rattle.qasm.specs.Laws.Lines.{FirstLine, first_line, statement_line, reversed_line, statement_of_lem, reversed_of, forms}
use Rattle.qasm.specs.Laws.Writing.{statement_long}
use Rattle.qasm_read.specs.Statements.{begins, place_after, StatementAt, NoStatement}

-- ---- a line at a place

split : (bs : List ℕ) (at : ℕ) (l : List ℕ) → begins (drop at bs) l ≡ true → drop at bs ≡ l ++ drop (at + length l) bs
split bs at l t =
    sym (take-append-drop (length l) (drop at bs))
    ∙ ap₂ ◌++◌ (same_list_lem (take (length l) (drop at bs)) l t) (drop-drop (length l) at bs)

pub begins_long : (bs l : List ℕ) → begins bs l ≡ true → length l ≤ length bs
begins_long bs l t = let e = ap length (same_list_lem (take (length l) bs) l t) in let m = length-take (length l) bs in omega arith

-- a line of the table, of a gate
record Form (l : List ℕ) (g : Gate) : Type 0 where
  of : statement_of l ≡ Some g
  whole : (bs : List ℕ) → lines (l ++ bs) ≡ l ∷ lines bs
  more : 0 < length l
  short : length l ≤ longest_statement

stands : (bs : List ℕ) (at : ℕ) (l : List ℕ) (g : Gate) → Form l g → at ≤ length bs → begins (drop at bs) l ≡ true → StatementAt bs at g (at + length l)
unfolding statements
stands bs at l g f h t = record {
  bytes = l;
  stands = split bs at l t;
  ends = refl;
  inside = let k = begins_long (drop at bs) l t in let d = length-drop at bs in omega arith;
  more = f.more;
  short = f.short;
  reads = λ rest. ap statements (f.whole rest) ∙ ap (λ x. earlier x (statements (lines rest))) f.of;
}

reversed_long : (g : Gate) → (0 < length (statement g)) × (length (reversed g) ≡ length (statement g))
reversed_long H1 = (omega arith, refl)
reversed_long H2 = (omega arith, refl)
reversed_long S1 = (omega arith, refl)
reversed_long S2 = (omega arith, refl)
reversed_long Cz = (omega arith, refl)
reversed_long Cs = (omega arith, refl)

module _ (bs : List ℕ) (at : ℕ) (l : List ℕ) where
  pub after_begins : (r : ℕ) → Some r ≡ place_after bs at l → (begins (drop at bs) l ≡ true) × (r ≡ at + length l)
  after_begins r = go (begins (drop at bs) l)
    where
      go : (t : Bool) → Some r ≡ cond t (Some (at + length l)) None → (t ≡ true) × (r ≡ at + length l)
      go true e = (refl, cc)
      go false e = let z : ◌≡◌ {A = ℕ} 0 1 = cc in absurd (omega arith)

  pub after_none : None ≡ place_after bs at l → begins (drop at bs) l ≡ false
  after_none = go (begins (drop at bs) l)
    where
      go : (t : Bool) → ◌≡◌ {A = Option ℕ} None (cond t (Some (at + length l)) None) → t ≡ false
      go true e = let z : ◌≡◌ {A = ℕ} 0 1 = cc in absurd (omega arith)
      go false e = refl

module _ (bs : List ℕ) (at : ℕ) (h : at ≤ length bs) (g : Gate) (end : ℕ) where
  stood : (l : List ℕ) → Form l g → Some end ≡ place_after bs at l → StatementAt bs at g end
  stood l f e =
      let (t, r) = after_begins bs at l end e in
      subst (StatementAt bs at g) (sym r) (stands bs at l g f h t)

  pub statement_stands : Some end ≡ place_after bs at (statement g) → StatementAt bs at g end
  statement_stands e = stood (statement g) (record { of = statement_of_lem g; whole = statement_line g; more = (reversed_long g).0; short = statement_long g }) e

  pub reversed_stands : Some end ≡ place_after bs at (reversed g) → StatementAt bs at g end
  reversed_stands e =
      let m = reversed_long g in
      let s = statement_long g in
      stood (reversed g) (record { of = reversed_of g; whole = reversed_line g; more = omega arith; short = omega arith }) e

-- ---- no line of the table

begun : (bs l rest : List ℕ) → bs ≡ l ++ rest → begins bs l ≡ true
begun bs l rest e = ap (λ d. same_list (take (length l) d) l) e ∙ ap (λ d. same_list d l) (take-append_seam l rest) ∙ same_list_refl l

-- the first line is then no statement
pub no_statement : (bs : List ℕ) → 0 < length bs → NoStatement bs → statements (lines bs) ≡ refusal 23
unfolding statements
no_statement [] h n = absurd (omega arith)
no_statement (b ∷ bs) h n = ap statements f.first ∙ go (statement_of f.line) refl
  where
    f : FirstLine (b ∷ bs)
    f = first_line b bs

    not_begun : (l : List ℕ) → begins (b ∷ bs) l ≡ false → f.line ≡ l → ⊥
    not_begun l t e = let z : true ≡ false = sym (begun (b ∷ bs) l f.rest (f.is ∙ ap (λ x. x ++ f.rest) e)) ∙ t in subst T z tt

    go : (x : Option Gate) → statement_of f.line ≡ x → earlier x (statements (lines f.rest)) ≡ refusal 23
    go None e = refl
    go (Some g) e = elim (forms f.line g e) [ inl i ↦ absurd (not_begun (statement g) (n.written g) i) | inr i ↦ absurd (not_begun (reversed g) (n.turned g) i) ]

-- nor does one stand there where more bytes follow, if these are enough for any
pub no_statement_more : (bs rest : List ℕ) → longest_statement ≤ length bs → NoStatement bs → NoStatement (bs ++ rest)
no_statement_more bs rest h n = record {
  written = λ g. let s = statement_long g in still (statement g) (omega arith) (n.written g);
  turned = λ g. let s = statement_long g in let m = reversed_long g in still (reversed g) (omega arith) (n.turned g);
}
  where
    still : (l : List ℕ) → length l ≤ length bs → begins bs l ≡ false → begins (bs ++ rest) l ≡ false
    still l k t = ap (λ d. same_list d l) (take-append-le (length l) bs rest k) ∙ t

-- the eight lines of the table
pub none : (bs : List ℕ) (at : ℕ)
    → None ≡ place_after bs at (statement H1)
    → None ≡ place_after bs at (statement H2)
    → None ≡ place_after bs at (statement S1)
    → None ≡ place_after bs at (statement S2)
    → None ≡ place_after bs at (statement Cz)
    → None ≡ place_after bs at (reversed Cz)
    → None ≡ place_after bs at (statement Cs)
    → None ≡ place_after bs at (reversed Cs)
    → NoStatement (drop at bs)
none bs at a b c d e f g h = record { written = written; turned = turned }
  where
    written : (g : Gate) → begins (drop at bs) (statement g) ≡ false
    written H1 = after_none bs at (statement H1) a
    written H2 = after_none bs at (statement H2) b
    written S1 = after_none bs at (statement S1) c
    written S2 = after_none bs at (statement S2) d
    written Cz = after_none bs at (statement Cz) e
    written Cs = after_none bs at (statement Cs) g

    turned : (g : Gate) → begins (drop at bs) (reversed g) ≡ false
    turned H1 = written H1
    turned H2 = written H2
    turned S1 = written S1
    turned S2 = written S2
    turned Cz = after_none bs at (reversed Cz) f
    turned Cs = after_none bs at (reversed Cs) h
