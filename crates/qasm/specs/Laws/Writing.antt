-- The text of a list, from its letters.
use Rattle.std.specs.Prelude.{◌≡◌, refl, ℕ, ◌+◌, ◌*◌, ◌≤◌, ◌<◌, length, get_or, drop, Option, Some, None}
use Rattle.std.proofs.Common.{sym, ap, ◌∙◌, add-one, arith, length-append, drop-cons, lt-ltb, le-ltb}
use Rattle.std.proofs.lemmas.List.{nil_from_length}
use Rattle.std.proofs.Math.Seq.{append_snoc}
use mathlib.Core.List.{List, [], ◌∷◌, ◌++◌, flatten}
use Rattle.letter.specs.declared.Gate.{Gate}
use Rattle.letter.specs.declared.Gate.TheVariants.{H1, H2, S1, S2, Cz, Cs}
use Rattle.letter.specs.Gate.{gate_of}
use Rattle.gate.specs.Reading.{Reading, gates, refusal, largest_list}
use Rattle.qasm.specs.Text.{version_line, include_line, register_line, first_lines, first_length, statement, longest_statement, body, text_of}
use Rattle.qasm.specs.Reading.{before, letters_of, read_letters, line_of, body_of}

-- ---- lengths

pub length_first : length (flatten first_lines) ≡ first_length
unfolding version_line include_line register_line flatten
length_first = refl

pub statement_long : (g : Gate) → length (statement g) ≤ longest_statement
statement_long H1 = omega arith
statement_long H2 = omega arith
statement_long S1 = omega arith
statement_long S2 = omega arith
statement_long Cz = omega arith
statement_long Cs = omega arith

body_long : (w : List Gate) → length (body w) ≤ longest_statement * length w
unfolding body
body_long [] = omega arith
body_long (g ∷ w) = let h = body_long w in let s = statement_long g in let l = length-append (body w) (statement g) in omega arith

-- what a buffer needs at most
pub text_long : (w : List Gate) → length (text_of w) ≤ first_length + longest_statement * length w
unfolding text_of
text_long w = let b = body_long w in let l = length-append (flatten first_lines) (body w) in let f = length_first in omega arith

-- ---- the statements of letters

pub body_of_lem : (bs : List ℕ) (w : List Gate) → letters_of bs ≡ gates w → body_of bs ≡ body w
unfolding letters_of body body_of
body_of_lem [] w e = let s : w ≡ [] = cc in rw s
body_of_lem (b ∷ bs) w e = go (gate_of b) (letters_of bs) (body_of_lem bs) e
  where
    go : (l : Option Gate) (r : Reading) → ((v : List Gate) → r ≡ gates v → body_of bs ≡ body v) → before l r ≡ gates w → body_of bs ++ line_of l ≡ body w
    go None r f e = let z : ◌≡◌ {A = ℕ} 0 1 = cc in absurd (omega arith)
    go (Some g) (refusal n) f e = let z : ◌≡◌ {A = ℕ} 0 1 = cc in absurd (omega arith)
    go (Some g) (gates v) f e = let t : w ≡ g ∷ v = cc in rw t (ap (λ x. x ++ statement g) (f v refl))

-- ---- from the last letter to the first

-- a letter, and those behind it
pub letters_next : (bs : List ℕ) (i : ℕ) → i < length bs → letters_of (drop i bs) ≡ before (gate_of (get_or bs i 0)) (letters_of (drop (i + 1) bs))
unfolding letters_of
letters_next bs i h = rw (drop-cons bs i 0 h, add-one i)

pub body_next : (bs : List ℕ) (i : ℕ) → i < length bs → body_of (drop i bs) ≡ body_of (drop (i + 1) bs) ++ line_of (gate_of (get_or bs i 0))
unfolding body_of
body_next bs i h = rw (drop-cons bs i 0 h, add-one i)

-- the letters are those that are left and those behind them
pub one_back : {bs left : List ℕ} (behind front : List ℕ) (b : ℕ) → bs ≡ left ++ behind → left ≡ front ++ b ∷ [] → bs ≡ front ++ b ∷ behind
one_back behind front b are e = are ∙ ap (λ l. l ++ behind) e ∙ append_snoc front b behind

pub none_left : {bs : List ℕ} (left behind : List ℕ) → bs ≡ left ++ behind → length left ≡ 0 → bs ≡ behind
none_left left behind are z = are ∙ ap (λ l. l ++ behind) (nil_from_length left z)

-- a byte that is no letter, wherever it stands
pub letters_unknown : (front bs : List ℕ) → letters_of bs ≡ refusal 8 → letters_of (front ++ bs) ≡ refusal 8
unfolding letters_of
letters_unknown [] bs e = e
letters_unknown (b ∷ front) bs e = go (gate_of b) (letters_unknown front bs e)
  where
    go : (l : Option Gate) → letters_of (front ++ bs) ≡ refusal 8 → before l (letters_of (front ++ bs)) ≡ refusal 8
    go None f = refl
    go (Some g) f = ap (before (Some g)) f

pub body_room : (front bs : List ℕ) → length (body_of bs) ≤ length (body_of (front ++ bs))
unfolding body_of
body_room [] bs = omega arith
body_room (b ∷ front) bs = let h = body_room front bs in let l = length-append (body_of (front ++ bs)) (line_of (gate_of b)) in omega arith

-- ---- the whole text

pub letters_short : (bs : List ℕ) → length bs ≤ largest_list → read_letters bs ≡ letters_of bs
unfolding read_letters
letters_short bs h = rw (le-ltb largest_list (length bs) h)

pub letters_long : (bs : List ℕ) → largest_list < length bs → read_letters bs ≡ refusal 7
unfolding read_letters
letters_long bs h = rw (lt-ltb largest_list (length bs) h)

-- the text of a list is the first three lines and the statements of its letters
pub text_of_lem : (bs : List ℕ) (w : List Gate) → letters_of bs ≡ gates w → text_of w ≡ flatten first_lines ++ body_of bs
unfolding text_of
text_of_lem bs w e = ap (λ b. flatten first_lines ++ b) (sym (body_of_lem bs w e))

pub text_length : (bs : List ℕ) (w : List Gate) → letters_of bs ≡ gates w → length (text_of w) ≡ first_length + length (body_of bs)
text_length bs w e = ap length (text_of_lem bs w e) ∙ length-append (flatten first_lines) (body_of bs) ∙ ap (λ n. n + length (body_of bs)) length_first
