-- Words that writers write, put together.
use Rattle.std.specs.Prelude.{◌≡◌, refl, List, [], ◌∷◌, ◌++◌, ℕ, ◌+◌, ◌≤◌, length}
use Rattle.std.proofs.Common.{ap, ◌∙◌}
use Rattle.file.specs.Laws.Written.{appended_as}
use Rattle.letter.specs.declared.Gate.{Gate}
use Rattle.letter.specs.Gate.{letter}
use Rattle.letter.specs.Laws.Written.{appended_written, written_as, written_none, written_length, written_append}
use Rattle.text.specs.declared.Writer.{Writer}
use Rattle.text.specs.Writer.{Writes}
use Rattle.word_code.specs.Writer.{WritesWord}

pub word_none : (w : Writer) → WritesWord [] w w
word_none w = record { written = written_none w.at w.out.now; lent = refl }

-- a letter's byte
pub word_one : {old new : Writer} (g : Gate) {b : ℕ} → b ≡ letter g → Writes (b ∷ []) old new → WritesWord (g ∷ []) old new
word_one g e h = record { written = appended_written (appended_as (ap (λ x. x ∷ []) e) h.bytes); lent = h.lent }

module _ {w : List Gate} {old new : Writer} (h : WritesWord w old new) where
  pub word_as : {u : List Gate} → w ≡ u → WritesWord u old new
  word_as e = record { written = written_as e h.written; lent = h.lent }

  -- the buffer is as long as before
  pub word_length : old.at + length w ≤ length old.out.now → length new.out.now ≡ length old.out.now
  word_length fits = written_length h.written fits

  -- a second word, right after the first
  pub word_append : old.at + length w ≤ length old.out.now → {v : List Gate} {last : Writer} → WritesWord v new last → WritesWord (w ++ v) old last
  word_append fits k = record { written = written_append h.written fits k.written; lent = k.lent ∙ h.lent }
