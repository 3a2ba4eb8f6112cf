-- The ways out of a call that writes a list as bytes: each is a case of the definitions.
use Rattle.std.specs.Prelude.{◌≡◌, refl, List, map, ℕ, ◌≤◌, ◌<◌, length, Result, Ok, Err}
use Rattle.std.proofs.Common.{sym, ap, subst, arith, lt-ltb, le-ltb}
use Rattle.file.specs.File.{written}
use Rattle.letter.specs.declared.Gate.{Gate}
use Rattle.letter.specs.Gate.{letter}
use Rattle.gate.specs.Reading.{Reading, gates, refusal}
use Rattle.qasm.specs.Text.{text_of}
use Rattle.qasm.specs.Reading.{read_qasm, read_letters}
use Rattle.qasm.specs.Promise.{size, written_answer, written_buffer, WrittenAs, TextPromise, ReadAs, LettersPromise}
use Rattle.qasm.specs.Laws.Text.{written_again, read_within, text_read, letters_taken, taken_letters}
use Rattle.qasm.specs.Laws.Meaning.{text_means, means_list}

-- ---- how many bytes a list is written as

pub record Sized (bytes_of : List Gate → List ℕ) (r : Reading) (n : ℕ) : Type 0 where
  pub list : List Gate
  pub is : r ≡ gates list
  pub long : n ≡ length (bytes_of list)

module _ (bytes_of : List Gate → List ℕ) where
  pub sized : (r : Reading) (n : ℕ) → Ok n ≡ size bytes_of r → Sized bytes_of r n
  sized (gates w) n e = record { list = w; is = refl; long = cc }
  sized (refusal k) n e = let z : ◌≡◌ {A = ℕ} 0 1 = cc in absurd (omega arith)

  pub size_refused : (r : Reading) (n : ℕ) → Err n ≡ size bytes_of r → r ≡ refusal n
  size_refused (gates w) n e = let z : ◌≡◌ {A = ℕ} 0 1 = cc in absurd (omega arith)
  size_refused (refusal k) n e = let s : k ≡ n = cc in ap refusal s

-- ---- the answer and the buffer

abbrev pub Done : (List Gate → List ℕ) → Reading → List ℕ → List ℕ → Result ℕ ℕ → Type 0
Done bytes_of r old new a = (a ≡ written_answer bytes_of (length old) r) × (new ≡ written_buffer bytes_of old r)

module _ (bytes_of : List Gate → List ℕ) {r : Reading} (old : List ℕ) where
  pub refused : {n : ℕ} → r ≡ refusal n → Done bytes_of r old old (Err n)
  refused {n} e = subst (λ x. Done bytes_of x old old (Err n)) (sym e) (refl, refl)

  module _ {w : List Gate} {n : ℕ} (e : r ≡ gates w) (l : n ≡ length (bytes_of w)) where
    pub no_room : length old < n → Done bytes_of r old old (Err 6)
    no_room h = subst (λ x. Done bytes_of x old old (Err 6)) (sym e) (rw (lt-ltb (length old) (length (bytes_of w)) (omega arith)) (refl, refl))

    pub room : {new : List ℕ} → n ≤ length old → new ≡ written old (bytes_of w) → Done bytes_of r old new (Ok n)
    room {new} h b = subst (λ x. Done bytes_of x old new (Ok n)) (sym e) (rw (le-ltb (length old) (length (bytes_of w)) (omega arith)) (ap Ok l, b))

-- ---- what is promised beside them

written_as : (bs : List ℕ) (w : List Gate) → read_letters bs ≡ gates w → WrittenAs bs w
written_as bs w e = let (s, l) = taken_letters bs w e in record { letters = s; reads = text_read w l; means = means_list w }

pub text_promise : {bs old new : List ℕ} {a : Result ℕ ℕ} → Done text_of (read_letters bs) old new a → TextPromise bs old new a
text_promise {bs} d = record { answer = d.0; buffer = d.1; list = written_as bs }

read_as : (bs : List ℕ) (w : List Gate) → read_qasm bs ≡ gates w → ReadAs bs w
read_as bs w e = let (s, l) = read_within bs w e in record { again = written_again bs w s; means = text_means bs w s; taken = letters_taken w l }

pub letters_promise : {bs old new : List ℕ} {a : Result ℕ ℕ} → Done (map letter) (read_qasm bs) old new a → LettersPromise bs old new a
letters_promise {bs} d = record { answer = d.0; buffer = d.1; list = read_as bs }
