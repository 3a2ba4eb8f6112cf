-- Letters and gates: a byte is the letter of one gate or of none.
use Rattle.std.specs.Prelude.{◌≡◌, refl, Bool, true, false, cond, ℕ, eqb, Option, Some, None, Result, Ok, Err, ok_or}
use Rattle.std.proofs.Common.{ap, ◌∙◌, eqb-true}
use Rattle.refusal.specs.declared.Refusal.{Refusal}
use Rattle.letter.specs.declared.Gate.{Gate}
use Rattle.letter.specs.declared.Gate.TheVariants.{H1, H2, S1, S2, Cz, Cs}
use Rattle.letter.specs.Gate.{letter, gate_of}

pub gate_of_letter : (g : Gate) → gate_of (letter g) ≡ Some g
unfolding gate_of
gate_of_letter H1 = refl
gate_of_letter H2 = refl
gate_of_letter S1 = refl
gate_of_letter S2 = refl
gate_of_letter Cz = refl
gate_of_letter Cs = refl

-- one test of the definition
tested : (b : ℕ) (g h : Gate) (other : Option Gate) → (other ≡ Some g → b ≡ letter g) → cond (eqb b (letter h)) (Some h) other ≡ Some g → b ≡ letter g
tested b g h other rest e = go (eqb b (letter h)) refl e
  where
    go : (t : Bool) → eqb b (letter h) ≡ t → cond t (Some h) other ≡ Some g → b ≡ letter g
    go true t e = let s : h ≡ g = cc in eqb-true b (letter h) t ∙ ap letter s
    go false t e = rest e

pub letter_of_gate : (b : ℕ) (g : Gate) → gate_of b ≡ Some g → b ≡ letter g
unfolding gate_of
letter_of_gate b g e =
    tested b g H1 _ (tested b g H2 _ (tested b g S1 _ (tested b g S2 _ (tested b g Cz _ (tested b g Cs None (λ z. cc)))))) e

-- what a conversion of a byte says of it
pub converted : (r : Refusal) (o : Option Gate) {g : Gate} → ◌≡◌ {A = Result Gate Refusal} (Ok g) (ok_or o r) → o ≡ Some g
converted r (Some x) e = cc
converted r None e = cc

pub not_converted : (r : Refusal) (o : Option Gate) {e : Refusal} → ◌≡◌ {A = Result Gate Refusal} (Err e) (ok_or o r) → (o ≡ None) × (e ≡ r)
not_converted r (Some x) e = cc
not_converted r None e = (refl, cc)
