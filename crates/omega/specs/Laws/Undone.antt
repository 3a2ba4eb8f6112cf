-- The inverse of each gate times a column, entry by entry, and the letters of a list, undone one after the other.
use Rattle.std.specs.Prelude.{◌≡◌, refl, List, [], ◌∷◌, map, ℕ, zero, suc, ◌+◌, ◌*◌, ◌%◌, ◌<◌, Some, None}
use Rattle.std.proofs.Math.Path.{sym, ap, ap₂}
use Rattle.std.proofs.Common.{◌∙◌, add-one, arith, drop-cons}
use Rattle.std.proofs.Math.ListN.{length, get_or, drop, length-map}
use Rattle.std.proofs.Math.Seq.{drop-length}
use Rattle.matrix.specs.Matrix.{δ}
use Rattle.matrix.specs.Range.{tabulate, total}
use Rattle.letter.specs.declared.Gate.{Gate}
use Rattle.letter.specs.declared.Gate.TheVariants.{H1, H2, S1, S2, Cz, Cs}
use Rattle.letter.specs.Gate.{letter, gate_of}
use Rattle.letter.specs.Laws.Gate.{gate_of_letter}
use Rattle.gaussian.specs.Gaussian.{◌⊗◌, conj}
use Rattle.unitary.specs.Unitary.{plain}
use Rattle.omega.specs.Modular.{remainder, Residues, undone, undone_all}

-- what the code computes of two entries
abbrev sum_of : ℕ → ℕ → ℕ
sum_of a b = 14 * (a + b) % 17

abbrev difference_of : ℕ → ℕ → ℕ
difference_of a b = (14 * a + 3 * b) % 17

four : {a b c d w x y z : ℕ} → a ≡ w → b ≡ x → c ≡ y → d ≡ z → a ∷ b ∷ c ∷ d ∷ [] ≡ w ∷ x ∷ y ∷ z ∷ []
four p q r s = λ i. p i ∷ q i ∷ r i ∷ s i ∷ []

module _ (v : List ℕ) (h : Residues v) where
  pub undone_h1 : {w x y z : ℕ} → w ≡ sum_of (get_or v 0 0) (get_or v 2 0) → x ≡ sum_of (get_or v 1 0) (get_or v 3 0) → y ≡ difference_of (get_or v 0 0) (get_or v 2 0)
      → z ≡ difference_of (get_or v 1 0) (get_or v 3 0) → w ∷ x ∷ y ∷ z ∷ [] ≡ undone H1 v
  unfolding undone plain tabulate total remainder conj ◌⊗◌ δ
  undone_h1 p q r s = four (omega arith) (omega arith) (omega arith) (omega arith)

  pub undone_h2 : {w x y z : ℕ} → w ≡ sum_of (get_or v 0 0) (get_or v 1 0) → x ≡ difference_of (get_or v 0 0) (get_or v 1 0) → y ≡ sum_of (get_or v 2 0) (get_or v 3 0)
      → z ≡ difference_of (get_or v 2 0) (get_or v 3 0) → w ∷ x ∷ y ∷ z ∷ [] ≡ undone H2 v
  unfolding undone plain tabulate total remainder conj ◌⊗◌ δ
  undone_h2 p q r s = four (omega arith) (omega arith) (omega arith) (omega arith)

  pub undone_s1 : get_or v 0 0 ∷ get_or v 1 0 ∷ 13 * get_or v 2 0 % 17 ∷ 13 * get_or v 3 0 % 17 ∷ [] ≡ undone S1 v
  unfolding undone plain tabulate total remainder conj ◌⊗◌ δ
  undone_s1 = let l = h 0 in let m = h 1 in four (omega arith) (omega arith) (omega arith) (omega arith)

  pub undone_s2 : get_or v 0 0 ∷ 13 * get_or v 1 0 % 17 ∷ get_or v 2 0 ∷ 13 * get_or v 3 0 % 17 ∷ [] ≡ undone S2 v
  unfolding undone plain tabulate total remainder conj ◌⊗◌ δ
  undone_s2 = let l = h 0 in let m = h 2 in four (omega arith) (omega arith) (omega arith) (omega arith)

  pub undone_cz : get_or v 0 0 ∷ get_or v 1 0 ∷ get_or v 2 0 ∷ 16 * get_or v 3 0 % 17 ∷ [] ≡ undone Cz v
  unfolding undone plain tabulate total remainder conj
  undone_cz = let l = h 0 in let m = h 1 in let n = h 2 in four (omega arith) (omega arith) (omega arith) (omega arith)

  pub undone_cs : get_or v 0 0 ∷ get_or v 1 0 ∷ get_or v 2 0 ∷ 13 * get_or v 3 0 % 17 ∷ [] ≡ undone Cs v
  unfolding undone plain tabulate total remainder conj
  undone_cs = let l = h 0 in let m = h 1 in let n = h 2 in four (omega arith) (omega arith) (omega arith) (omega arith)

-- ---- the letters of a list

pub same_gate : (b : ℕ) (g h : Gate) → gate_of b ≡ Some g → b ≡ letter h → g ≡ h
same_gate b g h e f = let s : Some g ≡ Some h = sym e ∙ ap gate_of f ∙ gate_of_letter h in cc

pub no_gate : (b : ℕ) (h : Gate) → gate_of b ≡ None → b ≡ letter h → {u v : List ℕ} → u ≡ v
no_gate b h e f {u} {v} = let s : None ≡ Some h = sym e ∙ ap gate_of f ∙ gate_of_letter h in cc

letter_at_lem : (w : List Gate) (n : ℕ) → n < length w → get_or (map letter w) n 0 ≡ letter (get_or w n H1)
letter_at_lem [] n h = absurd (omega arith)
letter_at_lem (g ∷ w) zero h = refl
letter_at_lem (g ∷ w) (suc n) h = letter_at_lem w n (omega arith)

-- of every list with these letters, those before number n are undone: the others undone on v leave what all of them leave on the first column
abbrev pub Begun : List ℕ → List ℕ → ℕ → List ℕ → Type 0
Begun bs first n v = (w : List Gate) → bs ≡ map letter w → undone_all (drop n w) v ≡ undone_all w first

module _ (bs first : List ℕ) where
  pub begun_none : Begun bs first 0 first
  begun_none w e = refl

  module _ (n : ℕ) (v : List ℕ) (s : Begun bs first n v) where
    pub begun_more : (next : List ℕ) → n < length bs → ((g : Gate) → get_or bs n 0 ≡ letter g → next ≡ undone g v) → Begun bs first (n + 1) next
    unfolding undone_all
    begun_more next h u w e =
        let l = ap length e ∙ length-map w letter in
        let g = get_or w n H1 in
        ap₂ (λ m x. undone_all (drop m w) x) (add-one n) (u g (ap (λ b. get_or b n 0) e ∙ letter_at_lem w n (omega arith)))
        ∙ sym (ap (λ r. undone_all r v) (drop-cons w n H1 (omega arith))) ∙ s w e

    pub begun_all : length bs ≡ n → (w : List Gate) → bs ≡ map letter w → v ≡ undone_all w first
    unfolding undone_all
    begun_all h w e = let l = ap length e ∙ length-map w letter in sym (ap (λ r. undone_all r v) (ap (λ m. drop m w) (sym h ∙ l) ∙ drop-length w)) ∙ s w e
