-- 65 bytes with an exponent in range are refused for their entries exactly when no list gives the matrix up to a power of ω.
use Rattle.std.specs.Prelude.{◌≡◌, refl, Bool, true, false, not, cond, ◌≢◌, List, ℕ, ◌≤◌, length}
use Rattle.std.proofs.Common.{◌∙◌, inl, inr, ⊎_elim, arith}
use Rattle.file.specs.File.{file_exponent}
use Rattle.letter.specs.declared.Gate.{Gate}
use Rattle.unitary.specs.Unitary.{Quotient, Gives}
use Rattle.unitary.specs.Laws.Quotient.{given_unitary}
use Rattle.unitary.specs.Laws.Exact.{some_list}
use Rattle.unitary_file.specs.Unitary.{is_small, is_unitary, largest_unitary, unitary_length, unitary_of, unitary_refusal}
use Rattle.unitary_file.specs.Laws.Reading.{in_form}
use Rattle.unitary_file.specs.Laws.Accepted.{entries_complete, accepted}
use Rattle.unitary_gates.specs.Promise.{ForEntries, ExactlyRefused, NoList}

not_without : (b : List ℕ) → unitary_refusal b ≡ 0 → NoList (unitary_of b) → ⊥
not_without b z none = let (w, a, l, g) = some_list (unitary_of b) (accepted b z).unitary in none w a g

given_accepted : (b : List ℕ) → length b ≡ unitary_length → file_exponent b ≤ largest_unitary → (w : List Gate) (q : ℕ) → Gives w q (unitary_of b) → unitary_refusal b ≡ 0
given_accepted b l r w q g = in_form b l r ∙ entries_complete (unitary_of b) (given_unitary w q (unitary_of b) g)

for_entries : (b : List ℕ) → length b ≡ unitary_length → file_exponent b ≤ largest_unitary → unitary_refusal b ≢ 0 → ForEntries (unitary_refusal b)
for_entries b l r h = rw (in_form b l r) (go (is_small U.exponent U.matrix) (is_unitary U.exponent U.matrix) (λ z. h (in_form b l r ∙ z)))
  where
    U : Quotient
    U = unitary_of b

    go : (x y : Bool) → ◌≢◌ {A = ℕ} (cond (not x) 18 (cond (not y) 19 0)) 0 → ForEntries (cond (not x) 18 (cond (not y) 19 0))
    go false y n = inl refl
    go true false n = inr refl
    go true true n = absurd (n refl)

-- so it is for an answer that is the refusal of the bytes
pub exactly_refused : (b : List ℕ) (n : ℕ) → n ≡ unitary_refusal b → ExactlyRefused b n
exactly_refused b n e = record {
  refused = λ l r f w q g. let z = given_accepted b l r w q g in ⊎_elim (λ x. omega arith) (λ x. omega arith) f;
  no_list = λ l r none. rw e (for_entries b l r (λ z. not_without b z none));
}

-- and for one that is none of accepted bytes
pub exactly_accepted : (b : List ℕ) (n : ℕ) → unitary_refusal b ≡ 0 → (ForEntries n → ⊥) → ExactlyRefused b n
exactly_accepted b n z h = record { refused = λ l r f. absurd (h f); no_list = λ l r none. absurd (not_without b z none) }
