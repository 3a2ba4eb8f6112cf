-- The lines of a text.
use Rattle.std.specs.Prelude.{◌≡◌, refl, Bool, true, false, cond, ◌||◌, ◌⊎◌, ℕ, eqb, Some}
use Rattle.std.proofs.Common.{ap, ap₂, subst, ◌∙◌, inl, inr, arith}
use mathlib.Core.List.{List, [], ◌∷◌, ◌++◌, flatten}
use Rattle.matrix.specs.List.{same_list}
use Rattle.matrix.specs.Laws.Test.{same_list_lem}
use Rattle.letter.specs.declared.Gate.{Gate}
use Rattle.letter.specs.declared.Gate.TheVariants.{H1, H2, S1, S2, Cz, Cs}
use Rattle.gate.specs.Reading.{Reading, gates, refusal}
use Rattle.qasm.specs.Text.{line_feed, version_line, include_line, register_line, first_lines, statement, reversed}
use Rattle.qasm.specs.Reading.{beginning, lines, is_statement, gates_of_table, look_up, statement_of, statements, after_lines}

-- ---- the first line

pub record FirstLine (bs : List ℕ) : Type 0 where
  pub line : List ℕ
  pub rest : List ℕ
  pub is : bs ≡ line ++ rest
  pub first : lines bs ≡ line ∷ lines rest

pub first_line : (b : ℕ) (bs : List ℕ) → FirstLine (b ∷ bs)
unfolding lines
first_line b [] = record { line = b ∷ []; rest = []; is = refl; first = go (eqb b line_feed) }
  where
    go : (t : Bool) → cond t ((b ∷ []) ∷ []) ((b ∷ []) ∷ []) ≡ (b ∷ []) ∷ []
    go true = refl
    go false = refl
first_line b (c ∷ bs) = go (eqb b line_feed) refl (first_line c bs)
  where
    go : (t : Bool) → eqb b line_feed ≡ t → FirstLine (c ∷ bs) → FirstLine (b ∷ c ∷ bs)
    go true t f = record { line = b ∷ []; rest = c ∷ bs; is = refl; first = rw t }
    go false t f = record { line = b ∷ f.line; rest = f.rest; is = ap (λ l. b ∷ l) f.is; first = rw t (ap (beginning b) f.first) }

-- ---- the lines are the text

joined_beginning : (b : ℕ) (ls : List (List ℕ)) → flatten (beginning b ls) ≡ b ∷ flatten ls
unfolding flatten
joined_beginning b [] = refl
joined_beginning b (l ∷ ls) = refl

pub joined_lines : (bs : List ℕ) → flatten (lines bs) ≡ bs
unfolding lines flatten
joined_lines [] = refl
joined_lines (b ∷ bs) = go (eqb b line_feed) (joined_lines bs)
  where
    go : (t : Bool) → flatten (lines bs) ≡ bs → flatten (cond t ((b ∷ []) ∷ lines bs) (beginning b (lines bs))) ≡ b ∷ bs
    go true h = ap (λ l. b ∷ l) h
    go false h = joined_beginning b (lines bs) ∙ ap (λ l. b ∷ l) h

-- ---- statements

pub statement_line : (g : Gate) (bs : List ℕ) → lines (statement g ++ bs) ≡ statement g ∷ lines bs
unfolding lines
statement_line H1 bs = refl
statement_line H2 bs = refl
statement_line S1 bs = refl
statement_line S2 bs = refl
statement_line Cz bs = refl
statement_line Cs bs = refl

pub reversed_line : (g : Gate) (bs : List ℕ) → lines (reversed g ++ bs) ≡ reversed g ∷ lines bs
unfolding lines
reversed_line H1 bs = refl
reversed_line H2 bs = refl
reversed_line S1 bs = refl
reversed_line S2 bs = refl
reversed_line Cz bs = refl
reversed_line Cs bs = refl

pub statement_of_lem : (g : Gate) → statement_of (statement g) ≡ Some g
unfolding statement_of
statement_of_lem H1 = refl
statement_of_lem H2 = refl
statement_of_lem S1 = refl
statement_of_lem S2 = refl
statement_of_lem Cz = refl
statement_of_lem Cs = refl

pub reversed_of : (g : Gate) → statement_of (reversed g) ≡ Some g
unfolding statement_of
reversed_of H1 = refl
reversed_of H2 = refl
reversed_of S1 = refl
reversed_of S2 = refl
reversed_of Cz = refl
reversed_of Cs = refl

-- the two forms of a line, by its gate
either : (l m n : List ℕ) → (same_list l m || same_list l n) ≡ true → (l ≡ m) ⊎ (l ≡ n)
either l m n = go (same_list l m) refl
  where
    go : (t : Bool) → same_list l m ≡ t → (t || same_list l n) ≡ true → (l ≡ m) ⊎ (l ≡ n)
    go true t e = inl (same_list_lem l m t)
    go false t e = inr (same_list_lem l n e)

looked_up : (gs : List Gate) (l : List ℕ) (g : Gate) → look_up gs l ≡ Some g → is_statement l g ≡ true
looked_up [] l g e = let z : ◌≡◌ {A = ℕ} 0 1 = cc in absurd (omega arith)
looked_up (h ∷ gs) l g e = go (is_statement l h) refl (looked_up gs l g) e
  where
    go : (t : Bool) → is_statement l h ≡ t → (look_up gs l ≡ Some g → is_statement l g ≡ true) → cond t (Some h) (look_up gs l) ≡ Some g → is_statement l g ≡ true
    go true t f e = let s : h ≡ g = cc in subst (λ k. is_statement l k ≡ true) s t
    go false t f e = f e

pub forms : (l : List ℕ) (g : Gate) → statement_of l ≡ Some g → (l ≡ statement g) ⊎ (l ≡ reversed g)
unfolding statement_of
forms l g e = either l (statement g) (reversed g) (looked_up gates_of_table l g e)

-- ---- the first three lines

pub first_lines_lem : (bs : List ℕ) → lines (flatten first_lines ++ bs) ≡ first_lines ++ lines bs
unfolding lines version_line include_line register_line flatten
first_lines_lem bs = refl

-- what is read past the first lines hs
pub record After (hs ls : List (List ℕ)) (r : Reading) : Type 0 where
  pub rest : List (List ℕ)
  pub starts : ls ≡ hs ++ rest
  pub reads : statements rest ≡ r

pub after_cases : (hs ls : List (List ℕ)) → (after_lines hs ls ≡ refusal 23) ⊎ After hs ls (after_lines hs ls)
after_cases [] ls = inr (record { rest = ls; starts = refl; reads = refl })
after_cases (h ∷ hs) [] = inl refl
after_cases (h ∷ hs) (l ∷ ls) = go (same_list l h) refl (after_cases hs ls)
  where
    more : same_list l h ≡ true → {r : Reading} → After hs ls r → After (h ∷ hs) (l ∷ ls) r
    more t a = record { rest = a.rest; starts = ap₂ ◌∷◌ (same_list_lem l h t) a.starts; reads = a.reads }

    go : (t : Bool) → same_list l h ≡ t → (after_lines hs ls ≡ refusal 23) ⊎ After hs ls (after_lines hs ls)
        → (cond t (after_lines hs ls) (refusal 23) ≡ refusal 23) ⊎ After (h ∷ hs) (l ∷ ls) (cond t (after_lines hs ls) (refusal 23))
    go true t (inl e) = inl e
    go true t (inr a) = inr (more t a)
    go false t a = inl refl

pub after_lines_lem : (hs ls : List (List ℕ)) (w : List Gate) → after_lines hs ls ≡ gates w → After hs ls (gates w)
after_lines_lem hs ls w e = go (after_cases hs ls)
  where
    go : (after_lines hs ls ≡ refusal 23) ⊎ After hs ls (after_lines hs ls) → After hs ls (gates w)
    go (inl f) = let z : ◌≡◌ {A = ℕ} 0 1 = cc in absurd (omega arith)
    go (inr a) = record { rest = a.rest; starts = a.starts; reads = a.reads ∙ e }
