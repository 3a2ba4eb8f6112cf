-- Long texts.
use Rattle.std.specs.Prelude.{◌≡◌, refl, true, false, ℕ, ◌-◌, ◌≤◌, ◌<◌, length, take, Some, None}
use Rattle.std.proofs.Common.{sym, subst, ◌∙◌, arith, length-take-le, lt-ltb}
use Rattle.std.proofs.Math.Path.{ap}
use mathlib.Core.List.{List, [], ◌++◌, flatten, append_assoc}
use Rattle.std.proofs.Math.ListN.{drop, length-append, length-drop}
use Rattle.std.proofs.lemmas.List.{take-append-le, drop-append-le}
use Rattle.matrix.specs.List.{same_list}
use Rattle.letter.specs.declared.Gate.{Gate}
use Rattle.gate.specs.Reading.{Reading, gates, refusal, largest_list}
use Rattle.qasm.specs.Text.{first_lines, first_length, longest_statement, longest_text}
use Rattle.qasm.specs.Reading.{lines, statements, read_text, limited, read_qasm}
use Rattle.qasm.specs.Laws.Writing.{length_first}
use Rattle.qasm_read.specs.declared.Statements.{Statements}
use Rattle.qasm_read.specs.Statements.{begins, NoStatement, followed, StatementsFrom}
use Rattle.qasm_read.specs.Laws.Statement.{no_statement, no_statement_more}
use Rattle.qasm_read.specs.Laws.Statements.{starts_right, wrong}
use Rattle.read_qasm.specs.Long.{longer, refused, behind, StartOf, LeftOf}

-- ---- behind more than 16,384 statements

limited_many : (w : List Gate) (r : Reading) → largest_list < length w → limited (followed w r) ≡ refused r
limited_many w (gates v) h = rw (lt-ltb largest_list (length (v ++ w)) (let a = length-append v w in omega arith))
limited_many w (refusal n) h = refl

refused_followed : (w : List Gate) (r : Reading) → refused (followed w r) ≡ refused r
refused_followed w (gates v) = refl
refused_followed w (refusal n) = refl

-- nothing more follows
pub behind_none : behind [] ≡ refusal 7
unfolding behind lines statements
behind_none = refl

-- what follows begins with no statement
pub behind_wrong : (bs : List ℕ) → 0 < length bs → NoStatement bs → behind bs ≡ refusal 23
unfolding behind
behind_wrong bs h n = ap refused (no_statement bs h n)

-- and, where it has as many bytes as any statement, whatever comes then
pub behind_stuck : (bs : List ℕ) → longest_statement ≤ length bs → NoStatement bs → (rest : List ℕ) → behind (bs ++ rest) ≡ refusal 23
behind_stuck bs h n rest = behind_wrong (bs ++ rest) (let a = length-append bs rest in omega arith) (no_statement_more bs rest h n)

-- statements that follow may be dropped
pub behind_dropped : (bs : List ℕ) (r : Statements) → StatementsFrom bs 0 r → (rest : List ℕ) → behind (drop r.end bs ++ rest) ≡ behind (bs ++ rest)
unfolding behind
behind_dropped bs r s rest =
    let d = drop r.end bs ++ rest in
    sym (ap (λ x. refused (statements (lines (x ++ rest)))) s.stands
    ∙ ap (λ x. refused (statements (lines x))) (append_assoc s.bytes (drop r.end bs) rest)
    ∙ ap refused (s.reads d)
    ∙ refused_followed s.list (statements (lines d)))

-- ---- the first bytes of a long text

begins_more : (bs rest l : List ℕ) → length l ≤ length bs → begins (bs ++ rest) l ≡ begins bs l
begins_more bs rest l h = ap (λ d. same_list d l) (take-append-le (length l) bs rest h)

module _ (bs : List ℕ) (h : longer ≤ length bs) where
  first_long : length (flatten first_lines) ≤ length bs
  first_long = let l = length_first in omega arith

  pub wrong_start : begins bs (flatten first_lines) ≡ false → StartOf bs None
  wrong_start t rest = wrong (bs ++ rest) (begins_more bs rest (flatten first_lines) first_long ∙ t)

  module _ (t : begins bs (flatten first_lines) ≡ true) (r : Statements) (s : StatementsFrom bs first_length r) where
    reads : (rest : List ℕ) → read_text (bs ++ rest) ≡ followed s.list (statements (lines (drop r.end bs ++ rest)))
    reads rest =
        starts_right (bs ++ rest) (begins_more bs rest (flatten first_lines) first_long ∙ t)
        ∙ ap (λ d. statements (lines d)) (
        drop-append-le first_length bs rest (omega arith)
        ∙ ap (λ d. d ++ rest) s.stands
        ∙ append_assoc s.bytes (drop r.end bs) rest)
        ∙ s.reads (drop r.end bs ++ rest)

    -- a line is wrong
    pub wrong_line : r.end ≤ longest_text → StartOf bs None
    unfolding read_qasm
    wrong_line e rest =
        let d = drop r.end bs in
        let m = length-drop r.end bs in
        let a = length-append d rest in
        ap limited (reads rest ∙ ap (followed s.list) (no_statement (d ++ rest) (omega arith) (no_statement_more d rest (omega arith) (s.stops (omega arith)))))

    -- there are more statements than are read
    pub long_start : longest_text < r.end → StartOf bs (Some r.end)
    unfolding read_qasm behind
    long_start e = record {
      inside = s.inside;
      long = e;
      earns = λ rest. ap limited (reads rest) ∙ limited_many s.list (statements (lines (drop r.end bs ++ rest))) (let k = s.short in let n = s.ends in omega arith);
    }

-- ---- a part of a buffer moved to its front

pub dropped : (old : List ℕ) (end : ℕ) → end ≤ length old → (r : Statements) → StatementsFrom (take end old) 0 r → (new : List ℕ) (n : ℕ)
    → n ≡ end - r.end → take n new ≡ drop r.end (take end old) → LeftOf (take end old) new n
dropped old end h r s new n m e =
    let k = length-take-le end old h in
    record {
      inside = omega arith;
      earns = λ rest. ap (λ d. behind (d ++ rest)) e ∙ behind_dropped (take end old) r s rest;
      stops = λ z. subst NoStatement (sym e) (s.stops (omega arith));
    }
