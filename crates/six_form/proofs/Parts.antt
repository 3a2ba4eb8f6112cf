-- The real or the imaginary parts of the form's entries, f of each: as they are tested, written and listed.
use mathlib.Core.Path.{◌≡◌, refl, sym, ap, ◌∙◌}
use mathlib.Core.Bool.{Bool}
use mathlib.Core.List.{List, ◌∷◌, map}
use Prim.Native.Nat.{ℕ, zero, suc, ◌+◌}
use native.Mathlib.Omega.{arith}
use lib.IntN.{ℤ, pos}
use lib.ListN.{length, get_or}
use Rattle.std.specs.List.{list_all}
use Rattle.std.proofs.lemmas.List.{length-map, get_or-map}
use Rattle.matrix.specs.Range.{tabulate}
use Rattle.matrix.specs.Integer.{equals}
use Rattle.matrix.specs.Matrix.{listed}
use Rattle.matrix.specs.Laws.Range.{tabulate_is}
use Rattle.matrix.proofs.Chains.{every_place}
use Rattle.gaussian.specs.declared.Gaussian.{Gaussian}
use Rattle.gaussian.specs.Gaussian.{Matrix}
use Rattle.unitary.specs.Form.{six_form}
use Rattle.six_form.specs.Places.{form_entries, real_parts, imaginary_parts, is_zero}

module _ (f : Gaussian → ℤ) where
  module _ (d : Gaussian) (m : List Gaussian) (l : length m ≡ 36) where
    pub parts_zero : list_all (λ x. equals (f x) (pos 0)) m ≡ is_zero (map f m)
    unfolding is_zero
    parts_zero =
        let test : ℕ → Bool = λ i. equals (get_or (map f m) i (pos 0)) (pos 0) in
        rw l at (every_place test (λ x. equals (f x) (pos 0)) d 0 m (λ i h. let z : 0 + i ≡ i = omega arith in rw z (ap (λ x. equals x (pos 0)) (get_or-map f m i d (pos 0) h))))

    pub parts_written : tabulate (λ i. f (get_or m i d)) 0 36 ≡ map f m
    parts_written = sym (tabulate_is (λ i. f (get_or m i d)) 36 (pos 0) (map f m) (length-map m f ∙ l) (λ i h. get_or-map f m i d (pos 0) (rw l h)))

  parts_from : (t : ℕ → Gaussian) (a n : ℕ) → map f (tabulate t a n) ≡ tabulate (λ i. f (t i)) a n
  unfolding tabulate
  parts_from t a zero = refl
  parts_from t a (suc n) = ap (λ l. f (t a) ∷ l) (parts_from t (suc a) n)

pub real_listed : (N : Matrix) → real_parts (form_entries N) ≡ listed (λ r c. (six_form N r c).re)
unfolding form_entries listed
real_listed N = parts_from (λ x. x.re) _ 0 36

pub imaginary_listed : (N : Matrix) → imaginary_parts (form_entries N) ≡ listed (λ r c. (six_form N r c).im)
unfolding form_entries listed
imaginary_listed N = parts_from (λ x. x.im) _ 0 36
