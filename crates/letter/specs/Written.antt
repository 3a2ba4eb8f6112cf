-- Words in a buffer of letters.
use Rattle.std.specs.Prelude.{List, ◌++◌, map, ◌≡◌, ℕ, ◌+◌, length, take, drop}
use Rattle.letter.specs.declared.Gate.{Gate}
use Rattle.letter.specs.Gate.{letter}

-- the letters of the word w stand in the buffer from `at` on, and the rest is as it was; r is the place after them
pub record Written (w : List Gate) (at : ℕ) (old new : List ℕ) (r : ℕ) : Type 0 where
  pub next : r ≡ at + length w
  pub buffer : new ≡ take at old ++ map letter w ++ drop (at + length w) old
