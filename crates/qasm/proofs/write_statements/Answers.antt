use mathlib.Core.Path.{◌≡◌, sym, ap, ◌∙◌}
use mathlib.Core.List.{List, [], ◌∷◌, ◌++◌, append-nil}
use Prim.Native.Nat.{ℕ, ◌+◌, ◌≤◌}
use native.Mathlib.Omega.{arith}
use lib.ListN.{length, length-append}
use Rattle.std.specs.Iterator.Adapters.{rev_source}
use Rattle.std.specs.Slice.Iter.{iter_rest}
use Rattle.letter.specs.Gate.{gate_of}
use Rattle.text.specs.Writer.{Room, Writes}
use Rattle.text.specs.declared.Writer.{Writer}
use Rattle.text.specs.Laws.Writer.{writes_none, writes_as, room_after, writes_append}
use Rattle.qasm.specs.Reading.{line_of, body_of}
use Rattle.qasm.specs.Laws.Writing.{one_back, none_left, body_room}
use Rattle.qasm.proofs.write_statements.Invariants.{Going}
use Rattle.qasm.proofs.write_statements.Goals as goal

start : {bs left : List ℕ} (w : Writer) → left ≡ bs → Going bs left w w
unfolding body_of
start {left = left} w e = record { behind = []; are = sym (append-nil left ∙ e); writes = writes_none w }

-- a turn at the last letter that is left
module _ {bs left : List ℕ} (front : List ℕ) (b : ℕ) (last : left ≡ front ++ b ∷ []) {old new : Writer} (s : Going bs left old new) (fits : Room (body_of bs) old) where
  long : length (body_of s.behind) + length (line_of (gate_of b)) ≤ length (body_of bs)
  unfolding body_of
  long =
      let r = body_room front (b ∷ s.behind) in
      let m = ap (λ l. length (body_of l)) (one_back s.behind front b s.are last) in
      let l = length-append (body_of s.behind) (line_of (gate_of b)) in
      omega arith

  room : Room (line_of (gate_of b)) new
  room = let l = long in room_after s.writes _ (omega arith)

  turn : {end : Writer} → Writes (line_of (gate_of b)) new end → Going bs front old end
  unfolding body_of
  turn a =
      let l = long in
      record { behind = b ∷ s.behind; are = one_back s.behind front b s.are last; writes = writes_append s.writes (omega arith) a }

pub loop-b-init : goal.loop-b-init
loop-b-init c =
    let e = c.into_iter-b-iterator.ensures.into_iter_gives in
    start _ (ap (λ r. iter_rest (rev_source r)) e ∙ ap iter_rest c.rev-b-items.ensures.source ∙ c.iter.ensures.rest)

pub write_letter-requires : goal.write_letter-requires
write_letter-requires c = room _ _ c.in-Some.ensures.steps c.loop-b.invariant c.requires

pub loop-b-preserved : goal.loop-b-preserved
loop-b-preserved c = turn _ _ c.in-Some.ensures.steps c.loop-b.invariant c.requires c.write_letter.ensures

pub returns : goal.returns
returns c =
    let s = c.loop-b.invariant in
    writes_as s.writes (ap body_of (sym (none_left _ s.behind s.are c.in-None.ensures.steps.0)))
