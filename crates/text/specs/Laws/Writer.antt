-- What writers write, put together.
use Rattle.std.specs.Prelude.{List, [], ℕ, ◌≡◌, refl, ◌+◌, ◌≤◌, ◌++◌, length, take}
use Rattle.std.specs.Borrow.{MutBor}
use Rattle.std.proofs.Common.{ap, subst, ◌∙◌, arith}
use Rattle.file.specs.File.{Appended}
use Rattle.file.specs.Laws.Written.{appended_as, appended_none, appended_append, appended_length}
use Rattle.text.specs.Writer.{Begins, RoomFor, Room, Writes}
use Rattle.text.specs.declared.Writer.{Writer}
use Rattle.text.specs.Laws.Text.{taken}

pub writes_none : (w : Writer) → Writes [] w w
writes_none w = record { bytes = appended_none w.at w.out.now; lent = refl }

module _ {bs : List ℕ} {old new : Writer} (h : Writes bs old new) where
  pub writes_as : {cs : List ℕ} → bs ≡ cs → Writes cs old new
  writes_as e = record { bytes = appended_as e h.bytes; lent = h.lent }

  -- room for n more bytes
  pub room_after : (n : ℕ) → old.at + length bs + n ≤ length old.out.now → RoomFor n new
  room_after n fits = let l = appended_length h.bytes (omega arith) in let e = h.bytes.next in omega arith

  -- more bytes, right after the first
  pub writes_append : Room bs old → {cs : List ℕ} {last : Writer} → Writes cs new last → Writes (bs ++ cs) old last
  writes_append fits k = record { bytes = appended_append h.bytes fits k.bytes; lent = k.lent ∙ h.lent }

-- at the front
module _ {out : MutBor (List ℕ)} {w : Writer} (b : Begins out w) where
  pub room_front : (n : ℕ) → n ≤ length out.now → RoomFor n w
  room_front n fits = let l = ap length b.buffer in let z = b.at in omega arith

  pub writes_front : {bs : List ℕ} {last : Writer} → Writes bs w last → Appended bs 0 out.now last.out.now last.at
  writes_front {bs} {last} h =
      subst (λ at. Appended bs at out.now last.out.now last.at) b.at (subst (λ old. Appended bs w.at old last.out.now last.at) b.buffer h.bytes)

  -- what it has written
  pub written_is : {bs : List ℕ} {last : Writer} → Writes bs w last → length bs ≤ length out.now → take last.at last.out.now ≡ bs
  written_is h fits = taken (writes_front h) fits
