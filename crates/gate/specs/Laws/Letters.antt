-- A list read from the left on, a stretch and the letter behind it at a time.
use Rattle.std.specs.Prelude.{◌≡◌, refl, List, [], ◌∷◌, ◌++◌, ℕ, ◌+◌, ◌≤◌, ◌<◌, ℤ, Option, Result, Ok, Err}
use Rattle.std.proofs.Math.Path.{sym, ap}
use Rattle.std.proofs.Common.{ap₂, subst, ◌∙◌, add-one, drop-cons}
use native.Mathlib.Omega.{arith}
use Rattle.std.proofs.Math.ListN.{length, get_or, drop}
use Rattle.std.proofs.Math.Seq.{drop-length}
use Rattle.matrix.specs.Matrix.{δ, entry, listed}
use Rattle.matrix.specs.Operator.{operator, Orthogonal}
use Rattle.matrix.specs.declared.Scaled.{Scaled}
use Rattle.matrix.specs.Array.{least, least_form, operator_of}
use Rattle.file.specs.File.{largest_exponent}
use Rattle.letter.specs.declared.Gate.{Gate}
use Rattle.letter.specs.Gate.{gate_of}
use Rattle.letter.specs.Composition.{identity_columns}
use Rattle.gate.specs.declared.Stretch.{Stretch}
use Rattle.gate.specs.Product.{product_of}
use Rattle.gate.specs.Reading.{Reading, least_of, read_letter, read_from, ReadAs}
use Rattle.gate.specs.Stretch.{times_columns, held, StretchOf, read_byte}
use Rattle.gate.specs.Laws.Reading.{least_of_orthogonal}
use Rattle.gate.specs.Laws.Stretch.{held_none, onward, stopped}

-- the bytes before n are read as w, and (k, m) is its product at the least exponent
pub record ReadTo (bs : List ℕ) (k : ℕ) (m : List ℤ) (n : ℕ) : Type 0 where
  pub inside : n ≤ length bs
  pub w : List Gate
  pub reads : read_from [] bs ≡ read_from w (drop n bs)
  pub exponent : k ≡ (least_of w).exponent
  pub matrix : m ≡ (least_of w).matrix
  pub small : k ≤ largest_exponent

pub read_none : (bs : List ℕ) (m : List ℤ) → m ≡ listed δ → ReadTo bs 0 m 0
unfolding least_of product_of least_form
read_none bs m e = record { inside = omega arith; w = []; reads = refl; exponent = refl; matrix = e; small = omega arith }

module _ (bs : List ℕ) (k : ℕ) (m : List ℤ) (n : ℕ) (s : ReadTo bs k m n) where
  pub read_orthogonal : Orthogonal (operator k (entry m))
  read_orthogonal = subst (λ (l : Scaled). Orthogonal (operator_of l)) (λ i. record { exponent = sym s.exponent i; matrix = sym s.matrix i }) (least_of_orthogonal s.w)

  -- all letters are read
  pub read_all : length bs ≤ n → ReadAs (read_from [] bs) (Ok (least k m))
  unfolding read_from
  read_all h =
      let e : n ≡ length bs = let i = s.inside in omega arith in
      rw (s.reads ∙ ap (read_from s.w) (ap (λ x. drop x bs) e ∙ drop-length bs)) (ap₂ (λ a b. Ok (least a b)) s.exponent s.matrix, rw s.exponent at s.small)

  -- a stretch behind it
  module _ (t : Stretch) (z : StretchOf bs n t) where
    v : List Gate
    v = s.w ++ z.letters.gates

    held_here : least_of s.w ≡ held k m identity_columns
    held_here = held_none s.w ∙ ap₂ (λ a b. held a b identity_columns) (sym s.exponent) (sym s.matrix)

    held_then : least_of v ≡ held k m t.columns
    unfolding v
    held_then = z.letters.product s.w k m held_here

    -- the list goes on where the stretch ends
    pub read_stretch : ReadTo bs k (times_columns m t.columns) t.next
    unfolding v
    read_stretch = record {
      inside = z.letters.inside;
      w = v;
      reads = s.reads ∙ z.letters.reads s.w k m s.small held_here;
      exponent = sym (ap (λ (f : Scaled). f.exponent) held_then);
      matrix = sym (ap (λ (f : Scaled). f.matrix) held_then);
      small = s.small;
    }

-- a letter more
module _ (bs : List ℕ) (k : ℕ) (m : List ℤ) (n : ℕ) (s : ReadTo bs k m n) (h : n < length bs) where
  rest : List Gate → Reading
  rest v = read_from v (drop (n + 1) bs)

  letter_here : Option Gate
  letter_here = gate_of (get_or bs n 0)

  same : {r : Result Scaled ℕ} → r ≡ read_byte k m letter_here → r ≡ read_byte (least_of s.w).exponent (least_of s.w).matrix letter_here
  same e = e ∙ ap₂ (λ a b. read_byte a b letter_here) s.exponent s.matrix

  here : read_from [] bs ≡ read_letter s.w rest letter_here
  unfolding read_from rest letter_here
  here = s.reads ∙ ap (read_from s.w) (drop-cons bs n 0 h ∙ ap (λ x. get_or bs n 0 ∷ drop x bs) (sym (add-one n)))

  pub read_more : (r : Scaled) → Ok r ≡ read_byte k m (gate_of (get_or bs n 0)) → ReadTo bs r.exponent r.matrix (n + 1)
  unfolding rest letter_here
  read_more r e =
      let o = onward s.w rest letter_here r (same e) in
      let x = ap (λ (f : Scaled). f.exponent) o.product in
      record { inside = omega arith; w = s.w ++ o.gate ∷ []; reads = here ∙ o.reads; exponent = x; matrix = ap (λ (f : Scaled). f.matrix) o.product; small = rw x o.small }

  pub read_over : (e : ℕ) → Err e ≡ read_byte k m (gate_of (get_or bs n 0)) → ReadAs (read_from [] bs) (Err e)
  unfolding letter_here
  read_over e z = subst (λ x. ReadAs x (Err e)) (sym (here ∙ stopped s.w rest letter_here e (same z))) refl
