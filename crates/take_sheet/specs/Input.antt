-- What is kept of an input that may be longer than a buffer.
use Rattle.std.specs.Prelude.{◌≡◌, List, ℕ, ◌≤◌, ◌<◌, length}
use Rattle.take_sheet.specs.Output.{last_two}

-- what a buffer of so many bytes keeps of an input: all of it, or, where it is no shorter, as many bytes, of which the last two are those of the input
pub record KeptOf (room : ℕ) (all kept : List ℕ) : Type 0 where
  pub whole : length all < room → kept ≡ all
  pub last : room ≤ length all → (length kept ≡ room) × (last_two kept ≡ last_two all)
