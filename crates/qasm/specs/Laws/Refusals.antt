-- Which refusals the calls have, and how long what they write is.
use Rattle.std.specs.Prelude.{◌≡◌, Bool, true, false, cond, ◌⊎◌, List, [], ◌∷◌, map, ℕ, ◌≤◌, ltb, length, Option, Some, None}
use Rattle.std.proofs.Common.{◌∙◌, inl, inr, arith}
use Rattle.std.proofs.lemmas.List.{length-map}
use Rattle.letter.specs.declared.Gate.{Gate}
use Rattle.letter.specs.Gate.{letter, gate_of}
use Rattle.gate.specs.Reading.{Reading, gates, refusal, largest_list}
use Rattle.qasm.specs.Text.{first_lines, text_of, longest_text}
use Rattle.qasm.specs.Reading.{lines, statement_of, earlier, statements, after_lines, read_text, limited, read_qasm, before, letters_of, read_letters}
use Rattle.qasm.specs.Laws.Lines.{After, after_cases}
use Rattle.qasm.specs.Laws.Text.{read_within, taken_letters}
use Rattle.qasm.specs.Laws.Writing.{text_long}

-- ---- writing

letters_refused_lem : (bs : List ℕ) (n : ℕ) → letters_of bs ≡ refusal n → n ≡ 8
unfolding letters_of
letters_refused_lem [] n e = let z : ◌≡◌ {A = ℕ} 0 1 = cc in absurd (omega arith)
letters_refused_lem (b ∷ bs) n e = go (gate_of b) (letters_of bs) (letters_refused_lem bs n) e
  where
    go : (l : Option Gate) (r : Reading) → (r ≡ refusal n → n ≡ 8) → before l r ≡ refusal n → n ≡ 8
    go None r f e = cc
    go (Some g) (gates v) f e = let z : ◌≡◌ {A = ℕ} 0 1 = cc in absurd (omega arith)
    go (Some g) (refusal k) f e = f e

-- a list is refused with 7 or with 8
pub writing_refused : (bs : List ℕ) (n : ℕ) → read_letters bs ≡ refusal n → (n ≡ 7) ⊎ (n ≡ 8)
unfolding read_letters
writing_refused bs n e = go (ltb largest_list (length bs)) e
  where
    go : (t : Bool) → cond t (refusal 7) (letters_of bs) ≡ refusal n → (n ≡ 7) ⊎ (n ≡ 8)
    go true e = inl (cc)
    go false e = inr (letters_refused_lem bs n e)

pub text_small : (bs : List ℕ) (w : List Gate) → read_letters bs ≡ gates w → length (text_of w) ≤ longest_text
text_small bs w e = let l = (taken_letters bs w e).1 in let t = text_long w in omega arith

-- ---- reading

statements_refused : (ls : List (List ℕ)) (n : ℕ) → statements ls ≡ refusal n → n ≡ 23
unfolding statements
statements_refused [] n e = let z : ◌≡◌ {A = ℕ} 0 1 = cc in absurd (omega arith)
statements_refused (l ∷ ls) n e = go (statement_of l) (statements ls) (statements_refused ls n) e
  where
    go : (x : Option Gate) (r : Reading) → (r ≡ refusal n → n ≡ 23) → earlier x r ≡ refusal n → n ≡ 23
    go None r f e = cc
    go (Some g) (gates v) f e = let z : ◌≡◌ {A = ℕ} 0 1 = cc in absurd (omega arith)
    go (Some g) (refusal k) f e = f e

text_refused_lem : (bs : List ℕ) (n : ℕ) → read_text bs ≡ refusal n → n ≡ 23
unfolding read_text
text_refused_lem bs n e = go (after_cases first_lines (lines bs))
  where
    go : (after_lines first_lines (lines bs) ≡ refusal 23) ⊎ After first_lines (lines bs) (after_lines first_lines (lines bs)) → n ≡ 23
    go (inl f) = cc
    go (inr a) = statements_refused a.rest n (a.reads ∙ e)

-- a text is refused with 23 or with 7
pub reading_refused : (bs : List ℕ) (n : ℕ) → read_qasm bs ≡ refusal n → (n ≡ 23) ⊎ (n ≡ 7)
unfolding read_qasm
reading_refused bs n e = go (read_text bs) (text_refused_lem bs) e
  where
    over : (t : Bool) (v : List Gate) → cond t (refusal 7) (gates v) ≡ refusal n → n ≡ 7
    over true v e = cc
    over false v e = let z : ◌≡◌ {A = ℕ} 0 1 = cc in absurd (omega arith)

    go : (r : Reading) → ((n : ℕ) → r ≡ refusal n → n ≡ 23) → limited r ≡ refusal n → (n ≡ 23) ⊎ (n ≡ 7)
    go (gates v) f e = inr (over (ltb largest_list (length v)) v e)
    go (refusal k) f e = inl (f n e)

pub letters_small : (bs : List ℕ) (w : List Gate) → read_qasm bs ≡ gates w → length (map letter w) ≤ largest_list
letters_small bs w e = let l = (read_within bs w e).1 in let m = length-map w letter in omega arith
