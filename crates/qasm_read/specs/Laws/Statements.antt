-- Statements one after the other.
use Rattle.std.specs.Prelude.{◌≡◌, refl, true, false, ◌⊎◌, ℕ, ◌≤◌, ◌<◌, T, length, take, drop, Some, None}
use Rattle.std.proofs.Common.{sym, subst, ◌∙◌, inl, inr, arith, take-append-drop, length-drop, drop_of_length-le, lt-ltb, le-ltb}
use Rattle.std.proofs.Math.Path.{ap}
use mathlib.Core.List.{List, [], ◌∷◌, ◌++◌, flatten, append_assoc, append-nil}
use Rattle.matrix.specs.Laws.Test.{same_list_lem}
use Rattle.letter.specs.declared.Gate.{Gate}
use Rattle.gate.specs.Reading.{Reading, gates, refusal, largest_list}
use Rattle.qasm.specs.Text.{version_line, include_line, register_line, first_lines, first_length}
use Rattle.qasm.specs.Reading.{lines, earlier, statements, after_lines, read_text, limited, read_qasm}
use Rattle.qasm.specs.Laws.Lines.{first_lines_lem, joined_lines, After, after_cases}
use Rattle.qasm.specs.Laws.Writing.{length_first}
use Rattle.qasm_read.specs.declared.Statements.{Statements}
use Rattle.qasm_read.specs.Statements.{begins, followed, StatementsFrom, place_after}
use Rattle.qasm_read.specs.Laws.Statement.{begins_long, after_begins, after_none, no_statement}

-- ---- a statement more

pub followed_none : (r : Reading) → r ≡ followed [] r
followed_none (gates v) = ap gates (sym (append-nil v))
followed_none (refusal n) = refl

pub followed_earlier : (w : List Gate) (g : Gate) (r : Reading) → followed w (earlier (Some g) r) ≡ followed (g ∷ w) r
followed_earlier w g (gates v) = ap gates (append_assoc v (g ∷ []) w)
followed_earlier w g (refusal n) = refl

-- ---- what is read from a place on

module _ (bs : List ℕ) (at : ℕ) (r : Statements) (s : StatementsFrom bs at r) where
  here : statements (lines (drop at bs)) ≡ followed s.list (statements (lines (drop r.end bs)))
  here = ap (λ d. statements (lines d)) s.stands ∙ s.reads (drop r.end bs)

  -- another line stands behind the statements
  pub stopped : r.end < length bs → statements (lines (drop at bs)) ≡ refusal 23
  stopped h = here ∙ ap (followed s.list) (no_statement (drop r.end bs) (let l = length-drop r.end bs in omega arith) (s.stops h))

  -- nothing does
  pub ended : length bs ≤ r.end → statements (lines (drop at bs)) ≡ gates s.list
  unfolding lines statements
  ended h = here ∙ ap (λ d. followed s.list (statements (lines d))) (drop_of_length-le bs h)

-- ---- the first three lines

-- by the place after them
module _ (bs : List ℕ) where
  pub not_started : None ≡ place_after bs 0 (flatten first_lines) → begins bs (flatten first_lines) ≡ false
  not_started e = after_none bs 0 (flatten first_lines) e

  pub started : (first : ℕ) → Some first ≡ place_after bs 0 (flatten first_lines) → (begins bs (flatten first_lines) ≡ true) × (first ≡ first_length) × (first ≤ length bs)
  started first e =
      let (t, f) = after_begins bs 0 (flatten first_lines) first e in
      let l = length_first in
      let m = begins_long bs (flatten first_lines) t in
      (t, omega arith, omega arith)

pub starts_right : (bs : List ℕ) → begins bs (flatten first_lines) ≡ true → read_text bs ≡ statements (lines (drop first_length bs))
unfolding read_text version_line include_line register_line flatten
starts_right bs t =
    let e : bs ≡ flatten first_lines ++ drop first_length bs = sym (take-append-drop first_length bs) ∙ ap (λ l. l ++ drop first_length bs) (same_list_lem (take first_length bs) (flatten first_lines) t) in
    ap (λ l. after_lines first_lines (lines l)) e ∙ ap (after_lines first_lines) (first_lines_lem (drop first_length bs))

pub starts_wrong : (bs : List ℕ) → begins bs (flatten first_lines) ≡ false → read_text bs ≡ refusal 23
unfolding read_text version_line include_line register_line flatten
starts_wrong bs t = go (after_cases first_lines (lines bs))
  where
    go : (after_lines first_lines (lines bs) ≡ refusal 23) ⊎ After first_lines (lines bs) (after_lines first_lines (lines bs)) → after_lines first_lines (lines bs) ≡ refusal 23
    go (inl e) = e
    go (inr a) =
        let e : bs ≡ flatten (first_lines ++ a.rest) = sym (joined_lines bs) ∙ ap flatten a.starts in
        let s : begins bs (flatten first_lines) ≡ true = ap (λ l. begins l (flatten first_lines)) e in
        let z : true ≡ false = sym s ∙ t in
        absurd (subst T z tt)

-- ---- the limit

pub wrong : (bs : List ℕ) → begins bs (flatten first_lines) ≡ false → read_qasm bs ≡ refusal 23
unfolding read_qasm
wrong bs t = ap limited (starts_wrong bs t)

module _ (bs : List ℕ) (t : begins bs (flatten first_lines) ≡ true) (r : Statements) (s : StatementsFrom bs first_length r) where
  pub other_line : r.end < length bs → read_qasm bs ≡ refusal 23
  unfolding read_qasm
  other_line h = ap limited (starts_right bs t ∙ stopped bs first_length r s h)

  module _ (h : length bs ≤ r.end) where
    limits : read_qasm bs ≡ limited (gates s.list)
    unfolding read_qasm
    limits = ap limited (starts_right bs t ∙ ended bs first_length r s h)

    pub too_many : largest_list < r.count → read_qasm bs ≡ refusal 7
    too_many l = let c = s.count in limits ∙ rw (lt-ltb largest_list (length s.list) (omega arith))

    pub in_limit : r.count ≤ largest_list → read_qasm bs ≡ gates s.list
    in_limit l = let c = s.count in limits ∙ rw (le-ltb largest_list (length s.list) (omega arith))
