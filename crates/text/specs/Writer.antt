-- What a writer writes: the bytes that it adds to its buffer, and that it goes on with the same one (`ghost_name`).
use Rattle.std.specs.Prelude.{List, ℕ, ◌≡◌, ◌+◌, ◌≤◌, length}
use Rattle.std.specs.Borrow.{MutBor}
use Rattle.file.specs.File.{Appended}
use Rattle.text.specs.declared.Writer.{Writer}

-- a writer at the front of a lent buffer
pub record Begins (out : MutBor (List ℕ)) (w : Writer) : Type 0 where
  pub at : w.at ≡ 0
  pub buffer : w.out.now ≡ out.now
  pub lent : w.out.ghost_name ≡ out.ghost_name

-- the buffer has room for n more bytes
abbrev pub RoomFor : ℕ → Writer → Type 0
RoomFor n w = w.at + n ≤ length w.out.now

-- the buffer has room for these bytes
abbrev pub Room : List ℕ → Writer → Type 0
Room bs w = RoomFor (length bs) w

-- the bytes bs stand at the place of `old`, and that of `new` is behind them
pub record Writes (bs : List ℕ) (old new : Writer) : Type 0 where
  pub bytes : Appended bs old.at old.out.now new.out.now new.at
  pub lent : new.out.ghost_name ≡ old.out.ghost_name
