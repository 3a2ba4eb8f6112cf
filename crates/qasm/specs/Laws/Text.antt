-- Lists and their texts: what is written and read is the same list, and what is read and written is the same text but for the order of qubits.
use Rattle.std.specs.Prelude.{◌≡◌, refl, Bool, true, false, cond, ◌⊎◌, ℕ, ◌≤◌, ltb, length, Option, Some, None}
use Rattle.std.proofs.Common.{sym, ap, ap₂, ◌∙◌, inl, inr, arith, le-ltb, ltb-false}
use mathlib.Core.List.{List, [], ◌∷◌, ◌++◌, flatten, map, append_assoc, append-nil}
use Rattle.std.proofs.lemmas.List.{length-map}
use Rattle.std.proofs.Math.Seq.{append_snoc}
use Rattle.letter.specs.declared.Gate.{Gate}
use Rattle.letter.specs.declared.Gate.TheVariants.{H1, H2, S1, S2, Cz, Cs}
use Rattle.letter.specs.Gate.{letter, gate_of}
use Rattle.letter.specs.Laws.Gate.{gate_of_letter, letter_of_gate}
use Rattle.gate.specs.Reading.{Reading, gates, refusal, largest_list}
use Rattle.qasm.specs.Text.{version_line, include_line, register_line, first_lines, statement, reversed, body, text_of}
use Rattle.qasm.specs.Reading.{statement_of, lines, earlier, statements, after_lines, read_text, limited, read_qasm, normal, normalised, before, letters_of, read_letters}
use Rattle.qasm.specs.Laws.Lines.{statement_line, statement_of_lem, forms, first_lines_lem, after_lines_lem}

-- ---- written and read

-- the statements of w before a text of the list v
read_body : (w v : List Gate) (bs : List ℕ) → statements (lines bs) ≡ gates v → statements (lines (body w ++ bs)) ≡ gates (v ++ w)
unfolding body statements
read_body [] v bs e = e ∙ ap gates (sym (append-nil v))
read_body (g ∷ w) v bs e =
    let next : statements (lines (statement g ++ bs)) ≡ gates (v ++ g ∷ []) = ap statements (statement_line g bs) ∙ ap₂ earlier (statement_of_lem g) e in
    ap (λ t. statements (lines t)) (append_assoc (body w) (statement g) bs)
    ∙ read_body w (v ++ g ∷ []) (statement g ++ bs) next
    ∙ ap gates (append_snoc v g w)

-- "A list written and read is the same list.", of any length
pub read_text_lem : (w : List Gate) → read_text (text_of w) ≡ gates w
unfolding read_text text_of version_line include_line register_line lines statements
read_text_lem w = ap (after_lines first_lines) (first_lines_lem (body w)) ∙ ap (λ t. statements (lines t)) (sym (append-nil (body w))) ∙ read_body w [] [] refl

-- two lists with the same text are equal
pub text_injective : (v w : List Gate) → text_of v ≡ text_of w → v ≡ w
text_injective v w e = let s : gates v ≡ gates w = sym (read_text_lem v) ∙ ap read_text e ∙ read_text_lem w in cc

-- the text of the empty list
pub text_empty : text_of [] ≡ flatten first_lines
unfolding text_of body version_line include_line register_line flatten
text_empty = refl

-- ---- read and written again

normal_forms : (g : Gate) → (normal (statement g) ≡ statement g) × (normal (reversed g) ≡ statement g)
unfolding normal
normal_forms H1 = (refl, refl)
normal_forms H2 = (refl, refl)
normal_forms S1 = (refl, refl)
normal_forms S2 = (refl, refl)
normal_forms Cz = (refl, refl)
normal_forms Cs = (refl, refl)

normal_statement : (l : List ℕ) (g : Gate) → statement_of l ≡ Some g → normal l ≡ statement g
normal_statement l g e = go (forms l g e)
  where
    go : (l ≡ statement g) ⊎ (l ≡ reversed g) → normal l ≡ statement g
    go (inl f) = ap normal f ∙ (normal_forms g).0
    go (inr f) = ap normal f ∙ (normal_forms g).1

body_last : (v : List Gate) (g : Gate) → body (v ++ g ∷ []) ≡ statement g ++ body v
unfolding body
body_last [] g = sym (append-nil (statement g))
body_last (x ∷ v) g = ap (λ b. b ++ statement x) (body_last v g) ∙ append_assoc (statement g) (body v) (statement x)

body_lines : (ls : List (List ℕ)) (w : List Gate) → statements ls ≡ gates w → body w ≡ flatten (map normal ls)
unfolding statements body flatten
body_lines [] w e = let s : w ≡ [] = cc in rw s
body_lines (l ∷ ls) w e = go (statement_of l) refl (statements ls) (body_lines ls) e
  where
    go : (x : Option Gate) → statement_of l ≡ x → (r : Reading) → ((v : List Gate) → r ≡ gates v → body v ≡ flatten (map normal ls)) → earlier x r ≡ gates w → body w ≡ normal l ++ flatten (map normal ls)
    go None s r f e = let z : ◌≡◌ {A = ℕ} 0 1 = cc in absurd (omega arith)
    go (Some g) s (refusal n) f e = let z : ◌≡◌ {A = ℕ} 0 1 = cc in absurd (omega arith)
    go (Some g) s (gates v) f e =
        let t : w ≡ v ++ g ∷ [] = cc in
        ap body t ∙ body_last v g ∙ ap₂ ◌++◌ (sym (normal_statement l g s)) (f v refl)

-- "on reading also the reverse": that alone is lost
pub written_again : (bs : List ℕ) (w : List Gate) → read_text bs ≡ gates w → text_of w ≡ normalised bs
unfolding read_text text_of normalised normal version_line include_line register_line flatten
written_again bs w e =
    let a = after_lines_lem first_lines (lines bs) w e in
    ap (λ b. flatten first_lines ++ b) (body_lines a.rest w a.reads) ∙ ap (λ ls. flatten (map normal ls)) (sym a.starts)

pub text_normal : (w : List Gate) → normalised (text_of w) ≡ text_of w
text_normal w = sym (written_again (text_of w) w (read_text_lem w))

-- ---- the limit

within : (r : Reading) (w : List Gate) → limited r ≡ gates w → (r ≡ gates w) × (length w ≤ largest_list)
within (refusal n) w e = let z : ◌≡◌ {A = ℕ} 0 1 = cc in absurd (omega arith)
within (gates v) w e = go (ltb largest_list (length v)) refl e
  where
    go : (t : Bool) → ltb largest_list (length v) ≡ t → cond t (refusal 7) (gates v) ≡ gates w → (gates v ≡ gates w) × (length w ≤ largest_list)
    go true t e = let z : ◌≡◌ {A = ℕ} 0 1 = cc in absurd (omega arith)
    go false t e = let s : v ≡ w = cc in let l = ltb-false largest_list (length v) t in let m = ap length s in (ap gates s, omega arith)

-- a text that is read, without its limit
pub read_within : (bs : List ℕ) (w : List Gate) → read_qasm bs ≡ gates w → (read_text bs ≡ gates w) × (length w ≤ largest_list)
unfolding read_qasm
read_within bs w e = within (read_text bs) w e

pub text_read : (w : List Gate) → length w ≤ largest_list → read_qasm (text_of w) ≡ gates w
unfolding read_qasm
text_read w h = rw (read_text_lem w, le-ltb largest_list (length w) h)

-- ---- letters

letters_of_lem : (w : List Gate) → letters_of (map letter w) ≡ gates w
unfolding letters_of
letters_of_lem [] = refl
letters_of_lem (g ∷ w) = ap₂ before (gate_of_letter g) (letters_of_lem w)

of_letters : (bs : List ℕ) (w : List Gate) → letters_of bs ≡ gates w → bs ≡ map letter w
unfolding letters_of
of_letters [] w e = let s : w ≡ [] = cc in rw s
of_letters (b ∷ bs) w e = go (gate_of b) refl (letters_of bs) (of_letters bs) e
  where
    go : (x : Option Gate) → gate_of b ≡ x → (r : Reading) → ((v : List Gate) → r ≡ gates v → bs ≡ map letter v) → before x r ≡ gates w → b ∷ bs ≡ map letter w
    go None q r f e = let z : ◌≡◌ {A = ℕ} 0 1 = cc in absurd (omega arith)
    go (Some g) q (refusal n) f e = let z : ◌≡◌ {A = ℕ} 0 1 = cc in absurd (omega arith)
    go (Some g) q (gates v) f e = let t : w ≡ g ∷ v = cc in rw t (ap₂ ◌∷◌ (letter_of_gate b g q) (f v refl))

-- the letters of a list that is short enough are taken, and no other bytes are
pub letters_taken : (w : List Gate) → length w ≤ largest_list → read_letters (map letter w) ≡ gates w
unfolding read_letters
letters_taken w h = let m = length-map w letter in rw (le-ltb largest_list (length (map letter w)) (omega arith)) (letters_of_lem w)

pub taken_letters : (bs : List ℕ) (w : List Gate) → read_letters bs ≡ gates w → (bs ≡ map letter w) × (length w ≤ largest_list)
unfolding read_letters
taken_letters bs w e = go (ltb largest_list (length bs)) refl e
  where
    go : (t : Bool) → ltb largest_list (length bs) ≡ t → cond t (refusal 7) (letters_of bs) ≡ gates w → (bs ≡ map letter w) × (length w ≤ largest_list)
    go true t e = let z : ◌≡◌ {A = ℕ} 0 1 = cc in absurd (omega arith)
    go false t e =
        let s = of_letters bs w e in
        let l = ltb-false largest_list (length bs) t in
        let m = length-map w letter in
        let n = ap length s in
        (s, omega arith)
