-- A word that a writer writes.
use Rattle.std.specs.Prelude.{List, ◌≡◌}
use Rattle.letter.specs.declared.Gate.{Gate}
use Rattle.letter.specs.Written.{Written}
use Rattle.text.specs.declared.Writer.{Writer}

-- the letters of the word w stand at the place of `old`, and that of `new` is behind them; the buffer is still the one that was lent (`ghost_name`)
pub record WritesWord (w : List Gate) (old new : Writer) : Type 0 where
  pub written : Written w old.at old.out.now new.out.now new.at
  pub lent : new.out.ghost_name ≡ old.out.ghost_name
