-- The table of stretches has the word of each, and its sign above the word.
use Rattle.std.specs.Prelude.{◌≡◌, refl, Bool, true, false, cond, ◌&&◌, List, ℕ, suc, ◌+◌, ◌*◌, ◌-◌, ◌/◌, ◌%◌, ◌<◌, ◌≤◌, leb, ltb, length, get_or}
use Rattle.std.proofs.Common.{◌∙◌, arith}
use borrow.Author.Tests.{leb-true, ltb-true}
use Rattle.matrix.specs.Range.{every_from, every}
use Rattle.matrix.specs.Laws.Test.{and_left, and_right, T_true}
use Rattle.matrix.specs.Laws.Range.{get_d_tabulate}
use Rattle.clifford.specs.Columns.{is_even}
use Rattle.residue.specs.Laws.Table.{numbered}
use Rattle.word.specs.Word.{part_words, part_inverses, local_columns, rotation_words, halves_even, clifford_word, word_sign}
use Rattle.word_code.specs.Code.{encoded}
use Rattle.gate_list.specs.List.{lefts, rights, left_of, right_of, stretch, stretch_sign}
use Rattle.gate_list.specs.Stretches.{sign_place, stretch_code, stretch_codes}

stretch_code_lem : (g h : ℕ) → 1 ≤ g → g ≤ 15 → 1 ≤ h → h ≤ 15 → get_or stretch_codes ((g - 1) * 15 + (h - 1)) 0 ≡ stretch_code (right_of g) h
unfolding stretch_codes
stretch_code_lem g h lg ug lh uh =
    let k = (g - 1) * 15 + (h - 1) in
    let a : (0 + k) / 15 + 1 ≡ g = omega arith in
    let b : (0 + k) % 15 + 1 ≡ h = omega arith in
    get_d_tabulate (λ k. stretch_code (right_of (k / 15 + 1)) (k % 15 + 1)) 0 225 k 0 (omega arith) ∙ rw (a, b)

pub sign_small : (bs : List ℕ) → word_sign bs ≤ 1
sign_small bs = go (halves_even bs)
  where
    go : (t : Bool) → cond t 0 1 ≤ 1
    go true = omega arith
    go false = omega arith

-- a word's digits leave the place of the sign free
is_short : ℕ → ℕ → Bool
is_short g h = leb (length (stretch (right_of g) h)) 16 && ltb (encoded (stretch (right_of g) h)) sign_place

all_short : every 15 (λ a. every 15 (λ b. is_short (suc a) (suc b))) ≡ true
unfolding is_short every_from is_even part_words part_inverses local_columns rotation_words clifford_word lefts rights left_of right_of
all_short = refl

module _ (g h : ℕ) (lg : 1 ≤ g) (ug : g ≤ 15) (lh : 1 ≤ h) (uh : h ≤ 15) where
  short : is_short g h ≡ true
  short = T_true _ (numbered (is_short g) 15 (T_true _ (numbered (λ a. every 15 (λ b. is_short a (suc b))) 15 all_short g lg ug)) h lh uh)

  pub stretch_short : length (stretch (right_of g) h) ≤ 16
  unfolding is_short
  stretch_short = leb-true _ _ (and_left (leb (length (stretch (right_of g) h)) 16) _ short)

  low : encoded (stretch (right_of g) h) < sign_place
  unfolding is_short
  low = ltb-true _ _ (and_right (leb (length (stretch (right_of g) h)) 16) _ short)

  -- the letters and the sign of the number c in the table
  module _ (c : ℕ) (e : c ≡ get_or stretch_codes ((g - 1) * 15 + (h - 1)) 0) where
    pub code_letters : c % sign_place ≡ encoded (stretch (right_of g) h)
    code_letters = let f = e ∙ stretch_code_lem g h lg ug lh uh in let l = low in omega arith

    pub code_sign : c / sign_place ≡ stretch_sign (right_of g) h
    code_sign = let f = e ∙ stretch_code_lem g h lg ug lh uh in let l = low in omega arith
