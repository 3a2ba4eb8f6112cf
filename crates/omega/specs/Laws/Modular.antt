-- The power of ω by which a list gives a unitary is read from the first column of the unitary, modulo 17.
use Rattle.std.specs.Prelude.{◌≡◌, refl, true, List, [], ◌∷◌, ℕ, zero, suc, ◌+◌, ◌*◌, ◌%◌, ◌^◌, ◌<◌, eqb, ◌+ℤ◌, ◌*ℤ◌, get_or}
use Rattle.std.proofs.Common.{sym, ◌∙◌, ap, ap₂, ⊎_elim, arith, pow-suc, zero-add, pow-add, eqb-true}
use Rattle.std.proofs.Math.Nat.{pow-succ'}
use Rattle.std.proofs.Math.IntN.{pos}
use Rattle.matrix.specs.Range.{every_from, every, first_from, tabulate, total}
use Rattle.matrix.specs.Laws.Ring.{var, num, ◌:+◌, ◌:-◌, ◌:*◌, ring}
use Rattle.matrix.specs.Laws.Integer.{*ℤ-unit-l}
use Rattle.matrix.specs.Laws.Sum.{δ_same}
use Rattle.matrix.specs.Laws.Range.{every_sound, get_d_tabulate}
use Rattle.letter.specs.declared.Gate.{Gate}
use Rattle.gaussian.specs.declared.Gaussian.{Gaussian}
use Rattle.gaussian.specs.Gaussian.{real, one+i, ◌⊕◌, ◌⊗◌, conj, power, sum, Matrix, product, adjoint, scaled}
use Rattle.unitary.specs.Unitary.{Quotient, Unitary, turned, plain, plain_of, Gives}
use Rattle.omega.specs.Modular.{remainder, image_of, residue_of, Residues, first_column, undone, undone_all, exponent_of, power_of}
use Rattle.gaussian.specs.Laws.Gaussian.{⊗-comm, ⊗-unit-r, real_times}
use Rattle.gaussian.specs.Laws.Matrix.{product_cong, product_assoc, product_id_l, product_scaled_r, adjoint_product, same_refl}
use Rattle.gaussian.specs.Laws.Power.{norm}
use Rattle.unitary.specs.Laws.Plain.{identity_adjoint, list_columns}
use Rattle.unitary.specs.Laws.Quotient.{Multiple, same_multiple, unitary_nz}
use Rattle.omega.specs.Laws.Congruence.{Alike, alike_of, alike_sym, alike_trans, alike_add, alike_mul, alike_remainder, remainder_lt, alike_equal}

-- ---- the image is a homomorphism

image-⊕ : (k : ℕ) (x y : Gaussian) → image_of k (x ⊕ y) ≡ image_of k x +ℤ image_of k y
unfolding ◌⊕◌
image-⊕ k x y =
    ring (pos (14 ^ k) ∷ x.re ∷ x.im ∷ y.re ∷ y.im ∷ []) (var 0 :* (var 1 :+ var 3 :+ num (pos 4) :* (var 2 :+ var 4)))
    (var 0 :* (var 1 :+ num (pos 4) :* var 2) :+ var 0 :* (var 3 :+ num (pos 4) :* var 4)) refl

image-⊗ : (h k : ℕ) (c x : Gaussian) → Alike (image_of (h + k) (c ⊗ x)) (image_of h c *ℤ image_of k x)
unfolding ◌⊗◌
image-⊗ h k c x = record {
  less = pos (14 ^ h) *ℤ pos (14 ^ k) *ℤ (c.im *ℤ x.im);
  more = pos 0;
  equal = ap (λ n. pos n *ℤ ((c ⊗ x).re +ℤ pos 4 *ℤ (c ⊗ x).im) +ℤ pos 17 *ℤ (pos (14 ^ h) *ℤ pos (14 ^ k) *ℤ (c.im *ℤ x.im))) (pow-add 14 h k)
      ∙ ring (pos (14 ^ h) ∷ pos (14 ^ k) ∷ c.re ∷ c.im ∷ x.re ∷ x.im ∷ [])
      (var 0 :* var 1 :* (var 2 :* var 4 :- var 3 :* var 5 :+ num (pos 4) :* (var 2 :* var 5 :+ var 3 :* var 4)) :+ num (pos 17) :* (var 0 :* var 1 :* (var 3 :* var 5)))
      (var 0 :* (var 2 :+ num (pos 4) :* var 3) :* (var 1 :* (var 4 :+ num (pos 4) :* var 5)) :+ num (pos 17) :* num (pos 0)) refl;
}

-- 14 · 14 · 2 is 1
one : (d : ℕ) → Alike (pos (14 ^ (d + d)) *ℤ pos (2 ^ d)) (pos 1)
one zero = alike_of refl
one (suc d) =
    alike_trans
    (alike_of
    (ap₂ (λ x y. pos x *ℤ pos y) (ap (λ n. 14 ^ n) (twice d) ∙ pow-suc 14 (suc (d + d)) ∙ ap (λ x. x * 14) (pow-suc 14 (d + d))) (pow-suc 2 d)
    ∙ ring (pos (14 ^ (d + d)) ∷ pos (2 ^ d) ∷ []) (var 0 :* num (pos 14) :* num (pos 14) :* (var 1 :* num (pos 2))) (var 0 :* var 1 :* num (pos 392)) refl))
    (alike_mul {a = pos 392} {b = pos 1} (one d) (record { less = pos 0; more = pos 23; equal = refl }))
  where
    twice : (d : ℕ) → suc d + suc d ≡ suc (suc (d + d))
    twice d = omega arith

-- 2^d x over 2 d more powers of root two
image_more : (k d : ℕ) (x : Gaussian) → Alike (image_of (k + (d + d)) (norm d ⊗ x)) (image_of k x)
image_more k d x =
    alike_trans
    (alike_of
    (ap₂ (λ n y. pos n *ℤ (y.re +ℤ pos 4 *ℤ y.im)) (pow-add 14 k (d + d)) (real_times (pos (2 ^ d)) x)
    ∙ ring (pos (14 ^ k) ∷ pos (14 ^ (d + d)) ∷ pos (2 ^ d) ∷ x.re ∷ x.im ∷ []) (var 0 :* var 1 :* (var 2 :* var 3 :+ num (pos 4) :* (var 2 :* var 4))) (var 1 :* var 2 :* (var 0 :* (var 3 :+ num (pos 4) :* var 4))) refl))
    (alike_trans (alike_mul (one d) (alike_of {x = image_of k x} refl)) (alike_of (*ℤ-unit-l (image_of k x))))

-- ω is 2
image_power : (a : ℕ) → Alike (image_of a (power one+i a)) (pos (2 ^ a))
unfolding power
image_power zero = alike_of refl
image_power (suc a) =
    alike_trans (alike_of (ap (λ n. image_of n (one+i ⊗ power one+i a)) (suc_is a)))
    (alike_trans (image-⊗ 1 a one+i (power one+i a))
    (alike_trans (alike_mul {x = pos 70} {y = pos 2} (record { less = pos 0; more = pos 4; equal = refl }) (image_power a)) (alike_of (ap pos (sym (pow-succ' 2 a))))))
  where
    suc_is : (a : ℕ) → suc a ≡ 1 + a
    suc_is a = omega arith

-- ---- columns

-- v is the image of column 0 of X over root two to the power k
abbrev Images : ℕ → Matrix → List ℕ → Type 0
Images k X v = (i : ℕ) → i < 4 → Alike (pos (get_or v i 0)) (image_of k (X i 0))

image_four : (k : ℕ) (f : ℕ → Gaussian) → image_of k (sum 4 f) ≡ image_of k (f 0) +ℤ (image_of k (f 1) +ℤ (image_of k (f 2) +ℤ (image_of k (f 3) +ℤ pos 0)))
unfolding sum
image_four k f =
    image-⊕ k (real (pos 0) ⊕ f 0 ⊕ f 1 ⊕ f 2) (f 3)
    ∙ ap (λ x. x +ℤ image_of k (f 3)) (image-⊕ k (real (pos 0) ⊕ f 0 ⊕ f 1) (f 2) ∙ ap (λ x. x +ℤ image_of k (f 2)) (image-⊕ k (real (pos 0) ⊕ f 0) (f 1) ∙ ap (λ x. x +ℤ image_of k (f 1)) (image-⊕ k (real (pos 0)) (f 0))))
    ∙ ring (pos (14 ^ k) ∷ image_of k (f 0) ∷ image_of k (f 1) ∷ image_of k (f 2) ∷ image_of k (f 3) ∷ [])
    (var 0 :* (num (pos 0) :+ num (pos 4) :* num (pos 0)) :+ var 1 :+ var 2 :+ var 3 :+ var 4) (var 1 :+ (var 2 :+ (var 3 :+ (var 4 :+ num (pos 0))))) refl

-- entry i of a column that is made of four entries
four_at : (f : ℕ → ℕ) (i : ℕ) → i < 4 → get_or (tabulate f 0 4) i 0 ≡ f i
four_at f i h = get_d_tabulate f 0 4 i 0 h ∙ ap f (zero-add i)

undone_images : (g : Gate) (k : ℕ) (X : Matrix) (v : List ℕ) → Images k X v → Images ((plain g).exponent + k) (product 4 (adjoint (plain g).matrix) X) (undone g v)
unfolding undone total remainder
undone_images g k X v h i hi =
    alike_trans (alike_of (ap pos (four_at (λ i. total (λ j. residue_of (plain g).exponent (conj ((plain g).matrix j i)) * get_or v j 0) 0 4 % 17) i hi)))
    (alike_trans (alike_remainder (pos (total (λ j. residue_of (plain g).exponent (conj ((plain g).matrix j i)) * get_or v j 0) 0 4)))
    (alike_trans (alike_add (each 0 (omega arith)) (alike_add (each 1 (omega arith)) (alike_add (each 2 (omega arith)) (alike_add (each 3 (omega arith)) (alike_of {x = pos 0} refl)))))
    (alike_of (sym (image_four ((plain g).exponent + k) (λ j. conj ((plain g).matrix j i) ⊗ X j 0))))))
  where
    each : (j : ℕ) → j < 4 → Alike (pos (residue_of (plain g).exponent (conj ((plain g).matrix j i))) *ℤ pos (get_or v j 0)) (image_of ((plain g).exponent + k) (conj ((plain g).matrix j i) ⊗ X j 0))
    each j hj =
        let c = conj ((plain g).matrix j i) in
        alike_trans (alike_mul (alike_remainder (image_of (plain g).exponent c)) (h j hj)) (alike_sym (image-⊗ (plain g).exponent k c (X j 0)))

all_images : (w : List Gate) (k : ℕ) (X : Matrix) (v : List ℕ) → Images k X v → Images ((plain_of w).exponent + k) (product 4 (adjoint (plain_of w).matrix) X) (undone_all w v)
unfolding undone_all plain_of
all_images [] k X v h i hi =
    alike_trans (h i hi)
    (alike_of
    (ap₂ image_of (sym (zero-add k)) (sym (product_cong (λ i j hi hj. identity_adjoint i j) (same_refl 4 X) i 0 hi (omega arith) ∙ product_id_l 4 X i 0 hi (omega arith)))))
all_images (g ∷ w) k X v h i hi =
    alike_trans (all_images w ((plain g).exponent + k) (product 4 (adjoint (plain g).matrix) X) (undone g v) (undone_images g k X v h) i hi)
    (alike_of
    (ap₂ (λ n Y. image_of n (Y i 0)) (order (plain_of w).exponent (plain g).exponent k)
    (sym (product_assoc 4 (adjoint (plain_of w).matrix) (adjoint (plain g).matrix) X) ∙ ap (λ Y. product 4 Y X) (sym (adjoint_product 4 (plain g).matrix (plain_of w).matrix)))))
  where
    order : (a b c : ℕ) → a + (b + c) ≡ b + a + c
    order a b c = omega arith

-- ---- residues

four_residues : (f : ℕ → ℕ) → ((i : ℕ) → f i < 17) → Residues (tabulate f 0 4)
unfolding tabulate
four_residues f h zero = h 0
four_residues f h (suc zero) = h 1
four_residues f h (suc (suc zero)) = h 2
four_residues f h (suc (suc (suc zero))) = h 3
four_residues f h (suc (suc (suc (suc i)))) = omega arith

pub first_residues : (U : Quotient) → Residues (first_column U)
unfolding first_column
first_residues U = four_residues _ (λ i. remainder_lt (image_of U.exponent (U.matrix i 0)))

pub undone_residues : (g : Gate) (v : List ℕ) → Residues (undone g v)
unfolding undone
undone_residues g v = four_residues _ (λ i. omega arith)

all_residues : (w : List Gate) (v : List ℕ) → Residues v → Residues (undone_all w v)
unfolding undone_all
all_residues [] v h = h
all_residues (g ∷ w) v h = all_residues w (undone g v) (undone_residues g v)

-- ---- the power

module _ (U : Quotient) (o : Unitary U) (w : List Gate) (a : ℕ) (s : Gives w a U) where
  abbrev M : Matrix
  M = (plain_of w).matrix

  abbrev l : ℕ
  l = (plain_of w).exponent

  abbrev z : Gaussian
  z = product 4 (adjoint M) U.matrix 0 0

  -- the columns of the list's product, times c
  inner : (c : Gaussian) → product 4 (adjoint M) (scaled c M) 0 0 ≡ norm l ⊗ c
  inner c =
      ap (λ X. X 0 0) (product_scaled_r 4 c (adjoint M) M) ∙ ap (λ x. c ⊗ x) (list_columns w 0 0 (omega arith) (omega arith) ∙ ap (λ x. norm l ⊗ real x) (δ_same 0) ∙ ⊗-unit-r (norm l))
      ∙ ⊗-comm c (norm l)

  ends : (e : ℕ) → e ≡ a + (l + l) → Alike (image_of e (norm l ⊗ power one+i a)) (pos (2 ^ a))
  ends e f = alike_trans (alike_of (ap (λ n. image_of n (norm l ⊗ power one+i a)) f)) (alike_trans (image_more a l (power one+i a)) (image_power a))

  up : Multiple (turned a (plain_of w)) U → Alike (image_of (l + U.exponent) z) (pos (2 ^ a))
  up m =
      let d = m.twos in
      let f : a + l ≡ U.exponent + (d + d) = m.exponents in
      let p : norm d ⊗ z ≡ norm l ⊗ power one+i a =
      ap (λ X. X 0 0) (sym (product_scaled_r 4 (norm d) (adjoint M) U.matrix))
      ∙ product_cong (same_refl 4 (adjoint M)) (λ i j hi hj. sym (m.entries i j hi hj)) 0 0 (omega arith) (omega arith) ∙ inner (power one+i a) in
      alike_trans (alike_sym (image_more (l + U.exponent) d z))
      (alike_trans (alike_of (ap (image_of (l + U.exponent + (d + d))) p)) (ends (l + U.exponent + (d + d)) (omega arith)))

  down : Multiple U (turned a (plain_of w)) → Alike (image_of (l + U.exponent) z) (pos (2 ^ a))
  down m =
      let d = m.twos in
      let f : U.exponent ≡ a + l + (d + d) = m.exponents in
      let p : z ≡ norm d ⊗ (norm l ⊗ power one+i a) =
      product_cong (same_refl 4 (adjoint M)) m.entries 0 0 (omega arith) (omega arith)
      ∙ ap (λ X. X 0 0) (product_scaled_r 4 (norm d) (adjoint M) (scaled (power one+i a) M)) ∙ ap (λ x. norm d ⊗ x) (inner (power one+i a)) in
      alike_trans (alike_of (ap₂ image_of (order a l d U.exponent f) p))
      (alike_trans (image_more (a + (l + l)) d (norm l ⊗ power one+i a)) (ends (a + (l + l)) refl))
    where
      order : (a l d k : ℕ) → k ≡ a + l + (d + d) → l + k ≡ a + (l + l) + (d + d)
      order a l d k f = omega arith

  first_images : Images U.exponent U.matrix (first_column U)
  unfolding first_column
  first_images i hi =
      alike_trans (alike_of (ap pos (four_at (λ i. residue_of U.exponent (U.matrix i 0)) i hi))) (alike_remainder (image_of U.exponent (U.matrix i 0)))

  power_of_lem : get_or (undone_all w (first_column U)) 0 0 ≡ 2 ^ a % 17
  unfolding remainder
  power_of_lem =
      alike_equal (get_or (undone_all w (first_column U)) 0 0) (2 ^ a % 17) (all_residues w (first_column U) (first_residues U) 0) (omega arith)
      (alike_trans (all_images w U.exponent U.matrix (first_column U) first_images 0 (omega arith))
      (alike_trans (⊎_elim up down (same_multiple (turned a (plain_of w)) U s (unitary_nz U o))) (alike_sym (alike_remainder (pos (2 ^ a))))))

found : every 8 (λ a. eqb (exponent_of (2 ^ a % 17)) a) ≡ true
unfolding every_from first_from exponent_of
found = refl

-- a list gives a unitary by one power from 0 to 7 at most
pub power_is : (U : Quotient) → Unitary U → (w : List Gate) (a : ℕ) → a < 8 → Gives w a U → power_of U w ≡ a
power_is U o w a l g = ap exponent_of (power_of_lem U o w a g) ∙ eqb-true (exponent_of (2 ^ a % 17)) a (every_sound 8 (λ a. eqb (exponent_of (2 ^ a % 17)) a) found a l)
