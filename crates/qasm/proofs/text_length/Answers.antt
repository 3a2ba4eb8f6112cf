use Rattle.std.specs.Prelude.{Option, Some, None, Ok, Err}
use mathlib.Core.Path.{◌≡◌, refl, sym, ap, ◌∙◌}
use mathlib.Core.List.{List, [], ◌∷◌, ◌++◌, append-nil, flatten}
use Prim.Native.Nat.{ℕ, ◌+◌}
use native.Mathlib.Omega.{arith}
use lib.ListN.{length, length-append}
use Rattle.std.proofs.lemmas.Result.{err_from_is_err_and}
use Rattle.std.specs.Iterator.Adapters.{rev_source}
use Rattle.std.specs.Slice.Iter.{iter_rest}
use Rattle.letter.specs.declared.Gate.{Gate}
use Rattle.letter.specs.Gate.{gate_of}
use Rattle.letter.specs.Laws.Gate.{converted, not_converted}
use Rattle.gate.specs.Reading.{gates}
use Rattle.qasm.specs.Text.{first_lines, statement as line, body, text_of, first_length}
use Rattle.qasm.specs.Reading.{before, letters_of}
use Rattle.qasm.specs.Promise.{size}
use Rattle.qasm.specs.Laws.Writing.{length_first, statement_long, one_back, none_left, letters_unknown}
use Rattle.qasm.proofs.text_length.Invariants.{Going}
use Rattle.qasm.proofs.text_length.Goals as goal

start : {bs left : List ℕ} → left ≡ bs → Going bs left first_length
unfolding letters_of text_of body
start {left = left} e = record {
  behind = [];
  are = sym (append-nil left ∙ e);
  small = let l = ap length e in omega arith;
  list = [];
  is = refl;
  long = let l = length-append (flatten first_lines) [] in let f = length_first in omega arith;
}

-- a turn at the last letter that is left
module _ {bs left : List ℕ} (front : List ℕ) (b : ℕ) (last : left ≡ front ++ b ∷ []) {n : ℕ} (s : Going bs left n) where
  here : {l : Option Gate} → gate_of b ≡ l → letters_of (b ∷ s.behind) ≡ before l (gates s.list)
  unfolding letters_of
  here {l} e = ap (before (gate_of b)) s.is ∙ ap (λ l. before l (gates s.list)) e

  turn : (g : Gate) (k : ℕ) → gate_of b ≡ Some g → k ≡ length (line g) → Going bs front (n + k)
  unfolding text_of body
  turn g k e l =
      let f = flatten first_lines in
      let w = body s.list in
      record {
        behind = b ∷ s.behind;
        are = one_back s.behind front b s.are last;
        small = let r = s.small in let m = statement_long g in let a = ap length last ∙ length-append front (b ∷ []) in omega arith;
        list = g ∷ s.list;
        is = here e;
        long =
            let x = s.long in
            let y = length-append f w in
            let z = length-append f (w ++ line g) in
            let v = length-append w (line g) in
            omega arith;
      }

  unknown : gate_of b ≡ None → Err 8 ≡ size text_of (letters_of bs)
  unknown e = sym (ap (size text_of) (ap letters_of (one_back s.behind front b s.are last) ∙ letters_unknown front (b ∷ s.behind) (here e)))

pub loop-b-init : goal.loop-b-init
loop-b-init c =
    let e = c.into_iter-b-iterator.ensures.into_iter_gives in
    start (ap (λ r. iter_rest (rev_source r)) e ∙ ap iter_rest c.rev-b-items.ensures.source ∙ c.iter.ensures.rest)

pub loop-b-preserved : goal.loop-b-preserved
loop-b-preserved c =
    turn _ _ c.in-Some.ensures.steps c.loop-b.invariant _ _ (converted _ _ c.in_ok-g.ensures) (ap length c.statement.ensures)

pub returns-in_err-g : goal.returns-in_err-g
returns-in_err-g c =
    let p = err_from_is_err_and c.from_residual.result c.from_residual.ensures.1 in
    let n = not_converted _ _ c.in_err-g.ensures in
    rw (p.1, p.2, n.1) (unknown _ _ c.in-Some.ensures.steps c.loop-b.invariant n.0)

pub returns : goal.returns
returns c =
    let s = c.loop-b.invariant in
    ap Ok s.long ∙ sym (ap (size text_of) (ap letters_of (none_left _ s.behind s.are c.in-None.ensures.steps.0) ∙ s.is))
