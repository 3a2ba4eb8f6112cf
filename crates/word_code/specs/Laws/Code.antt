-- Digits taken off a number one after the other are the letters of its word.
use Rattle.std.specs.Prelude.{◌≡◌, refl, ◌≢◌, List, [], ◌∷◌, ◌++◌, ℕ, ◌+◌, ◌/◌, ◌%◌, ◌<◌, ◌≤◌, length}
use Rattle.std.proofs.Common.{sym, ap, ◌∙◌, append_assoc, append-nil, arith, length-append}
use Rattle.letter.specs.declared.Gate.{Gate}
use Rattle.letter.specs.declared.Gate.TheVariants.{H1, H2, S1, S2, Cz, Cs}
use Rattle.letter.specs.Gate.{letter}
use Rattle.text.specs.declared.Writer.{Writer}
use Rattle.text.specs.Writer.{Writes}
use Rattle.word_code.specs.Code.{digit, letter_at, encoded}
use Rattle.word_code.specs.Writer.{WritesWord}
use Rattle.word_code.specs.Laws.Writer.{word_none, word_one, word_as, word_append}

digit_letter : (g : Gate) → letter_at (digit g) ≡ letter g
digit_letter H1 = refl
digit_letter H2 = refl
digit_letter S1 = refl
digit_letter S2 = refl
digit_letter Cz = refl
digit_letter Cs = refl

digit_bounds : (g : Gate) → (1 ≤ digit g) × (digit g < 8)
digit_bounds H1 = (omega arith, omega arith)
digit_bounds H2 = (omega arith, omega arith)
digit_bounds S1 = (omega arith, omega arith)
digit_bounds S2 = (omega arith, omega arith)
digit_bounds Cz = (omega arith, omega arith)
digit_bounds Cs = (omega arith, omega arith)

-- the letters of the word w that are written, and `rest`, the number of those that are left
pub record Begun (w : List Gate) (old new : Writer) (rest : ℕ) : Type 0 where
  pub done : List Gate
  pub left : List Gate
  pub whole : w ≡ done ++ left
  pub written : WritesWord done old new
  pub number : rest ≡ encoded left

pub begun : (w : List Gate) (old : Writer) (code : ℕ) → code ≡ encoded w → Begun w old old code
begun w old code e = record { done = []; left = w; whole = refl; written = word_none old; number = e }

module _ {w : List Gate} {old new : Writer} {rest : ℕ} (s : Begun w old new rest) where
  pub taken : old.at + length s.done ≡ new.at
  taken = sym s.written.written.next

  -- a letter more
  pub more : rest ≢ 0 → new.at ≤ length old.out.now → {last : Writer} → Writes (letter_at (rest % 8) ∷ []) new last → Begun w old last (rest / 8)
  more n h {last} k = go s.left s.whole s.number
    where
      go : (v : List Gate) → w ≡ s.done ++ v → rest ≡ encoded v → Begun w old last (rest / 8)
      go [] p q = absurd (n q)
      go (g ∷ v) p q =
          let (l, u) = digit_bounds g in
          let d : rest % 8 ≡ digit g = omega arith in
          let e = taken in
          record {
            done = s.done ++ g ∷ [];
            left = v;
            whole = p ∙ sym (append_assoc s.done (g ∷ []) v);
            written = word_append s.written (omega arith) (word_one g (ap letter_at d ∙ digit_letter g) k);
            number = omega arith;
          }

  -- no letter is left
  pub over : rest ≡ 0 → WritesWord w old new
  over z = go s.left s.whole s.number
    where
      go : (v : List Gate) → w ≡ s.done ++ v → rest ≡ encoded v → WritesWord w old new
      go [] p q = word_as s.written (sym (p ∙ append-nil s.done))
      go (g ∷ v) p q = let (l, u) = digit_bounds g in absurd (omega arith)

  pub full : old.at + length w ≤ new.at → WritesWord w old new
  full h = go s.left s.whole
    where
      go : (v : List Gate) → w ≡ s.done ++ v → WritesWord w old new
      go [] p = word_as s.written (sym (p ∙ append-nil s.done))
      go (g ∷ v) p = let e : length w ≡ length s.done + length (g ∷ v) = ap length p ∙ length-append s.done (g ∷ v) in let t = taken in absurd (omega arith)
