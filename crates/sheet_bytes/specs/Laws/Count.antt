-- The first byte. A sheet says how long it is, so that sheets laid end to end can be told apart; bytes that do not say it are not read.
use Rattle.std.specs.Prelude.{◌≡◌, refl, ◌≢◌, Bool, true, false, cond, ◌||◌, ℕ, suc, ◌+◌, ◌-◌, ◌≤◌, ◌<◌, ltb, ℤ, length, get_or, take, drop}
use Rattle.std.proofs.Common.{sym, ap₂, ◌∙◌, ⊎_elim, arith, take_at, drop_at, ltb-false, ne_eqb}
use Rattle.std.proofs.Math.Path.{ap}
use mathlib.Core.List.{List, [], ◌∷◌, ◌++◌, flatten}
use Rattle.std.proofs.Math.Decide.{ℕ_discrete}
use Rattle.matrix.specs.Matrix.{entry}
use Rattle.matrix.specs.Operator.{operator, Orthogonal}
use Rattle.matrix.specs.Laws.Test.{and_left}
use Rattle.clifford.specs.Columns.{is_column_byte, are_column_bytes}
use Rattle.clifford.specs.Laws.Columns.{byte_cases}
use Rattle.reduction.specs.Reduction.{count, taken}
use Rattle.reduction.specs.Laws.NormalForm.{Numbers, cutting}
use Rattle.sheet_bytes.specs.Bytes.{shortest, longest, count_byte, sheet}
use Rattle.sheet_bytes.specs.Sheet.{Counted, sheet_refusal}
use Rattle.sheet_bytes.specs.Laws.Bytes.{count_first}
use Rattle.sheet_bytes.specs.Laws.Sheet.{columns_left, length_sheet}

-- ---- a sheet that is written

module _ (k : ℕ) (m : List ℤ) (o : Orthogonal (operator k (entry m))) where
  -- "The count … becomes the first byte of every sheet, with 64 added"
  pub sheet_first : get_or (sheet k m) 0 0 ≡ count_byte (count k m)
  unfolding sheet
  sheet_first = count_first (taken k m) (columns_left k m) ∙ ap count_byte (cutting k m o).exact

  pub sheet_counted : Counted (sheet k m)
  sheet_counted = let f = sheet_first in let l = length_sheet k m o in omega arith

-- ---- bytes handed in

-- the refusal of bytes that do not say how long they are: 10 for a length that is not allowed, and else 16
abbrev pub uncounted_refusal : List ℕ → ℕ
uncounted_refusal s = cond (ltb (length s) shortest || ltb longest (length s)) 10 16

pub uncounted_not_read : (s : List ℕ) → uncounted_refusal s ≢ 0
uncounted_not_read s = go (ltb (length s) shortest || ltb longest (length s))
  where
    go : (t : Bool) → ◌≢◌ {A = ℕ} (cond t 10 16) 0
    go true e = omega arith
    go false e = omega arith

pub uncounted : (s : List ℕ) → (shortest ≤ length s → length s ≤ longest → get_or s 0 0 ≢ length s + 56) → sheet_refusal s ≡ uncounted_refusal s
unfolding sheet_refusal
uncounted s h = go (ltb (length s) shortest) refl (ltb longest (length s)) refl
  where
    go : (a : Bool) → ltb (length s) shortest ≡ a → (b : Bool) → ltb longest (length s) ≡ b → sheet_refusal s ≡ uncounted_refusal s
    go true p b q = rw p
    go false p true q = rw (p, q)
    go false p false q = rw (p, q, ne_eqb (get_or s 0 0) (length s + 56) (h (ltb-false _ _ p) (ltb-false _ _ q)))

pub read_counted : (s : List ℕ) → sheet_refusal s ≡ 0 → Counted s
read_counted s z = elim (ℕ_discrete (get_or s 0 0) (length s + 56)) [
  | yes e ↦ e
  | no n ↦ absurd (uncounted_not_read s (sym (uncounted s (λ _ _. n)) ∙ z))
]

-- ---- older sheets

-- "sheets without that byte are not read": bytes that start with generator numbers gs and six column bytes bs, whatever follows them. A sheet of
-- document 01 ends there, and one of P2 has a byte more
pub older_refused : (gs bs more : List ℕ) → Numbers gs → length bs ≡ 6 → are_column_bytes bs ≡ true
    → sheet_refusal (gs ++ (bs ++ more)) ≡ uncounted_refusal (gs ++ (bs ++ more))
older_refused (g ∷ gs) bs more n l c = uncounted (g ∷ (gs ++ (bs ++ more))) (λ u v e. let h = (n 0 (omega arith)).1 in omega arith)
older_refused [] (b ∷ bs) more n l c =
    uncounted (b ∷ (bs ++ more)) (λ u v e. ⊎_elim (λ h. let x = h.1 in omega arith) (λ h. let x = h.0 in omega arith) (byte_cases b (and_left (is_column_byte b) (are_column_bytes bs) c)))
older_refused [] [] more n l c = absurd (omega arith)

-- ---- sheets laid end to end

-- where the first of sheets laid end to end ends, by its first byte
abbrev pub first_end : List ℕ → ℕ
first_end b = get_or b 0 0 - 56

pub first_end_lem : (s rest : List ℕ) → Counted s → length s ≡ first_end (s ++ rest)
first_end_lem [] rest c = absurd (omega arith)
first_end_lem (x ∷ s) rest c = omega arith

module _ (s rest : List ℕ) (c : Counted s) where
  pub first_sheet : take (first_end (s ++ rest)) (s ++ rest) ≡ s
  first_sheet = take_at s rest (first_end (s ++ rest)) (first_end_lem s rest c)

  pub further_sheets : drop (first_end (s ++ rest)) (s ++ rest) ≡ rest
  further_sheets = drop_at s rest (first_end (s ++ rest)) (first_end_lem s rest c)

-- of each list among these it holds
abbrev pub Each : (List ℕ → Type 0) → List (List ℕ) → Type 0
Each P ss = (n : ℕ) → n < length ss → P (get_or ss n [])

not_nothing : (s rest : List ℕ) → Counted s → [] ≢ s ++ rest
not_nothing [] rest c e = omega arith
not_nothing (x ∷ s) rest c e = let l = ap length e in omega arith

pub told_apart : (ss ts : List (List ℕ)) → Each Counted ss → Each Counted ts → flatten ss ≡ flatten ts → ss ≡ ts
unfolding flatten
told_apart [] [] c d e = refl
told_apart [] (t ∷ ts) c d e = absurd (not_nothing t (flatten ts) (d 0 (omega arith)) e)
told_apart (s ∷ ss) [] c d e = absurd (not_nothing s (flatten ss) (c 0 (omega arith)) (sym e))
told_apart (s ∷ ss) (t ∷ ts) c d e =
    let x = c 0 (omega arith) in
    let y = d 0 (omega arith) in
    ap₂ (λ h hs. h ∷ hs)
    (sym (first_sheet s (flatten ss) x) ∙ ap (λ b. take (first_end b) b) e ∙ first_sheet t (flatten ts) y)
    (told_apart ss ts (λ n h. c (suc n) (omega arith)) (λ n h. d (suc n) (omega arith))
    (sym (further_sheets s (flatten ss) x) ∙ ap (λ b. drop (first_end b) b) e ∙ further_sheets t (flatten ts) y))

-- of two lists of sheets with the same bytes end to end each sheet is the same
pub sheets_told_apart : (ss ts : List (List ℕ)) → Each (λ s. sheet_refusal s ≡ 0) ss → Each (λ s. sheet_refusal s ≡ 0) ts → flatten ss ≡ flatten ts → ss ≡ ts
sheets_told_apart ss ts c d e = told_apart ss ts (λ n h. read_counted (get_or ss n []) (c n h)) (λ n h. read_counted (get_or ts n []) (d n h)) e
