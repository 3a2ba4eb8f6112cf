-- The two entries of each basis matrix are enough, and none is larger than a unit.
use Rattle.std.specs.Prelude.{◌≡◌, refl, Bool, true, ◌||◌, ◌&&◌, ◌≢◌, ℕ, zero, suc, ◌-◌, ◌<◌, eqb, leb, pos, nat_abs}
use Rattle.std.proofs.Common.{ap, ap₂, ◌∙◌, arith, ne_eqb, leb-true}
use Rattle.matrix.specs.Range.{every, every_from}
use Rattle.matrix.specs.Laws.Range.{every_sound}
use Rattle.matrix.specs.Laws.Test.{and_left, and_right}
use Rattle.gaussian.specs.Gaussian.{real, Within, Matrix, ◌⊕◌, ◌⊗◌, conj, product, adjoint, equals}
use Rattle.gaussian.specs.Laws.Gaussian.{⊗-comm, ⊗-zero, zero-⊗, conj_real}
use Rattle.gaussian.specs.Laws.Matrix.{equals_sound, sum_two}
use Rattle.unitary.specs.Form.{basis}
use Rattle.six_form.specs.Places.{place_of}

-- elsewhere a basis matrix has nothing
off_places : ℕ → ℕ → Bool
off_places c q = eqb q (place_of c) || (eqb q (5 - place_of c) || equals (basis q c) (real (pos 0)))

all_off : every 6 (λ c. every 6 (off_places c)) ≡ true
unfolding every_from off_places basis
all_off = refl

off_places_lem : (c q : ℕ) → c < 6 → q < 6 → q ≢ place_of c → q ≢ 5 - place_of c → basis q c ≡ real (pos 0)
unfolding off_places
off_places_lem c q hc hq m n =
    let t = every_sound 6 (off_places c) (every_sound 6 (λ c. every 6 (off_places c)) all_off c hc) q hq in
    equals_sound (basis q c) (real (pos 0)) (rw (ne_eqb q (place_of c) m, ne_eqb q (5 - place_of c) n) at t)

pub place_lt : (c : ℕ) → place_of c < 3
place_lt zero = omega arith
place_lt (suc zero) = omega arith
place_lt (suc (suc zero)) = omega arith
place_lt (suc (suc (suc zero))) = omega arith
place_lt (suc (suc (suc (suc zero)))) = omega arith
place_lt (suc (suc (suc (suc (suc zero))))) = omega arith
place_lt (suc (suc (suc (suc (suc (suc c)))))) = omega arith

pub half_entry : (C : Matrix) (p c : ℕ) → c < 6 → product 6 C basis p c ≡ basis (place_of c) c ⊗ C p (place_of c) ⊕ basis (5 - place_of c) c ⊗ C p (5 - place_of c)
half_entry C p c hc =
    let l = place_lt c in
    sum_two 6 (place_of c) (5 - place_of c) (λ q. C p q ⊗ basis q c) (omega arith) (omega arith)
    (λ q hq m n. ap (λ x. C p q ⊗ x) (off_places_lem c q hc hq m n) ∙ ⊗-zero (C p q))
    ∙ ap₂ (λ x y. x ⊕ y) (⊗-comm (C p (place_of c)) (basis (place_of c) c)) (⊗-comm (C p (5 - place_of c)) (basis (5 - place_of c) c))

pub whole_entry : (X : Matrix) (r c : ℕ) → r < 6 → product 6 (adjoint basis) X r c ≡ conj (basis (place_of r) r) ⊗ X (place_of r) c ⊕ conj (basis (5 - place_of r) r) ⊗ X (5 - place_of r) c
whole_entry X r c hr =
    let l = place_lt r in
    sum_two 6 (place_of r) (5 - place_of r) (λ q. adjoint basis r q ⊗ X q c) (omega arith) (omega arith)
    (λ q hq m n. ap (λ x. conj x ⊗ X q c) (off_places_lem r q hr hq m n) ∙ ap (λ x. x ⊗ X q c) (conj_real (pos 0)) ∙ zero-⊗ (X q c))

-- ---- sizes

is_unit : ℕ → ℕ → Bool
is_unit p c = leb (nat_abs (basis p c).re) 1 && leb (nat_abs (basis p c).im) 1

all_units : every 6 (λ p. every 6 (is_unit p)) ≡ true
unfolding every_from is_unit basis
all_units = refl

pub basis_within : (p c : ℕ) → p < 6 → c < 6 → Within 1 (basis p c)
unfolding is_unit
basis_within p c hp hc =
    let t = every_sound 6 (is_unit p) (every_sound 6 (λ p. every 6 (is_unit p)) all_units p hp) c hc in
    record { re = leb-true _ _ (and_left (leb (nat_abs (basis p c).re) 1) _ t); im = leb-true _ _ (and_right (leb (nat_abs (basis p c).re) 1) _ t) }
