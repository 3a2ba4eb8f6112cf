-- A gate list in a buffer, written a stretch at a time.
use Rattle.std.specs.Prelude.{◌≡◌, refl, List, [], ◌∷◌, ◌++◌, ℕ, ◌+◌, ◌*◌, ◌%◌, ◌≤◌, ◌<◌, length, get_or, take}
use Rattle.std.proofs.Math.Path.{sym, ap, ap₂}
use Rattle.std.proofs.Common.{subst, ◌∙◌, append_assoc, zero-add, add-one, length-take-le, get_or-take}
use native.Mathlib.Omega.{arith}
use Rattle.std.proofs.Math.ListN.{drop, length-append}
use Rattle.std.proofs.Math.Seq.{drop-cons, drop-length}
use Rattle.reduction.specs.Laws.NormalForm.{Numbers}
use Rattle.letter.specs.declared.Gate.{Gate}
use Rattle.letter.specs.declared.Gate.TheVariants.{Cs}
use Rattle.letter.specs.Composition.{composed, identity_columns}
use Rattle.letter.specs.Written.{Written}
use Rattle.letter.specs.Laws.Written.{written_as, written_none, written_length, written_append}
use Rattle.word.specs.Word.{clifford_word, word_sign}
use Rattle.gate_list.specs.List.{rights, left_of, right_of, stretch, stretch_sign, stretches, signs, gate_list, list_sign}
use Rattle.gate_list.specs.Laws.Stretches.{sign_small, stretch_short}

-- the stretches before number n are written, `sum` of them have sign 1, and `before` is the number in front of number n
pub record Listing (gs columns old new : List ℕ) (before at sum n : ℕ) : Type 0 where
  pub low : 1 ≤ before
  pub high : before ≤ 15
  pub w : List Gate
  pub short : length w ≤ 16 * n
  pub written : Written w 0 old new at
  pub rest : gate_list gs columns ≡ w ++ stretches (right_of before) (drop n gs) columns
  pub few : sum ≤ n
  pub others : signs identity_columns gs columns ≡ sum + signs (right_of before) (drop n gs) columns

-- CS stands between identities, so a list may begin as behind it
pub listing_none : (gs columns old : List ℕ) → Listing gs columns old old 3 0 0 0
unfolding right_of rights
listing_none gs columns old = record {
  low = omega arith;
  high = omega arith;
  w = [];
  short = omega arith;
  written = written_none 0 old;
  rest = refl;
  few = omega arith;
  others = sym (zero-add (signs identity_columns gs columns));
}

module _ (gs columns old new : List ℕ) (before at sum n : ℕ) (s : Listing gs columns old new before at sum n) (h : 16 * n ≤ length old) where
  room : 0 + length s.w ≤ length old
  room = let l = s.short in omega arith

  pub same_size : length new ≡ length old
  same_size = written_length s.written room

  pub place : at ≤ 16 * n
  place = let e = s.written.next in let l = s.short in omega arith

  -- a stretch more
  pub listing_more : (g : ℕ) (last : List ℕ) (r t : ℕ) → n < length gs → g ≡ get_or gs n 0 → 1 ≤ g → g ≤ 15 → Written (stretch (right_of before) g) at new last r → t ≡ stretch_sign (right_of before) g
      → Listing gs columns old last g r (sum + t) (n + 1)
  unfolding stretches signs
  listing_more g last r t u e low high k f =
      let bs = right_of before in
      let d : drop n gs ≡ g ∷ drop (n + 1) gs = drop-cons gs n 0 u ∙ ap₂ (λ x y. x ∷ drop y gs) (sym e) (sym (add-one n)) in
      record {
        low = low;
        high = high;
        w = s.w ++ stretch bs g;
        short = let a = stretch_short before g s.low s.high low high in let b = s.short in let x = length-append s.w (stretch bs g) in omega arith;
        written = written_append s.written room k;
        rest = s.rest ∙ ap (λ x. s.w ++ stretches bs x columns) d
            ∙ ap (λ x. s.w ++ x) (sym (append_assoc (clifford_word (composed bs (left_of g))) (Cs ∷ []) (stretches (right_of g) (drop (n + 1) gs) columns)))
            ∙ sym (append_assoc s.w (stretch bs g) (stretches (right_of g) (drop (n + 1) gs) columns));
        few = let a = s.few in let b = sign_small (composed bs (left_of g)) in omega arith;
        others = let a = s.others in let b : signs bs (drop n gs) columns ≡ stretch_sign bs g + signs (right_of g) (drop (n + 1) gs) columns = ap (λ x. signs bs x columns) d in omega arith;
      }

  -- the last word
  module _ (e : n ≡ length gs) where
    all_dropped : drop n gs ≡ []
    all_dropped = ap (λ x. drop x gs) e ∙ drop-length gs

    pub listing_all : (last : List ℕ) (r : ℕ) → Written (clifford_word (composed (right_of before) columns)) at new last r → Written (gate_list gs columns) 0 old last r
    unfolding stretches
    listing_all last r k = written_as (sym (s.rest ∙ ap (λ x. s.w ++ stretches (right_of before) x columns) all_dropped)) (written_append s.written room k)

    pub listing_sign : (t : ℕ) → t ≡ word_sign (composed (right_of before) columns) → (sum + t) % 2 ≡ list_sign gs columns
    unfolding signs
    listing_sign t f = let a = s.others in let b : signs (right_of before) (drop n gs) columns ≡ word_sign (composed (right_of before) columns) = ap (λ x. signs (right_of before) x columns) all_dropped in omega arith

-- the numbers that count
module _ (count : ℕ) (numbers : List ℕ) (h : count ≤ length numbers) where
  pub counted : length (take count numbers) ≡ count
  counted = length-take-le count numbers h

  pub counted_number : Numbers (take count numbers) → (n : ℕ) → n < count → (1 ≤ get_or numbers n 0) × (get_or numbers n 0 ≤ 15)
  counted_number v n u = subst (λ g. (1 ≤ g) × (g ≤ 15)) (get_or-take count numbers n 0 u) (v n (let e = counted in omega arith))
