-- A file of the right length with an exponent in range is refused for its entries exactly when no gate list multiplies to its operator.
use Rattle.std.specs.Prelude.{◌≡◌, refl, Bool, true, false, not, cond, ◌≢◌, List, ℕ}
use Rattle.std.proofs.Common.{◌∙◌, inl, inr, ⊎_elim, arith}
use Rattle.matrix.specs.Operator.{Operator}
use Rattle.matrix.specs.Array.{is_within, is_orthogonal}
use Rattle.file.specs.File.{file_operator, InForm}
use Rattle.letter.specs.declared.Gate.{Gate}
use Rattle.gate.specs.Product.{MultipliesTo}
use Rattle.gate.specs.Laws.Product.{multiplied_orthogonal, multiplied_proper}
use Rattle.gate_list.specs.Laws.List.{some_list}
use Rattle.acceptance.specs.Acceptance.{is_proper, file_refusal}
use Rattle.operator.specs.Promise.{ForEntries, ExactlyRefused}
use Rattle.acceptance.specs.Laws.Acceptance.{accepted, entries_complete, in_form}

pub accepted_multiplies : (b : List ℕ) → file_refusal b ≡ 0 → (w : List Gate) × MultipliesTo w (file_operator b)
accepted_multiplies b z =
    let a = (accepted b z).entries in
    let (w, m, n) = some_list a.orthogonal a.proper in
    (w, m)

pub multiplies_accepted : (b : List ℕ) → InForm b → (w : List Gate) → MultipliesTo w (file_operator b) → file_refusal b ≡ 0
multiplies_accepted b f w m =
    in_form b f ∙ entries_complete (file_operator b) (record { orthogonal = multiplied_orthogonal m; proper = multiplied_proper m })

-- the refusals of a file in form are those for its entries
for_entries : (b : List ℕ) → InForm b → file_refusal b ≢ 0 → ForEntries (file_refusal b)
for_entries b f h = rw (in_form b f) (go (is_within A.exponent A.matrix) (is_orthogonal A.exponent A.matrix) (is_proper A.matrix) (λ z. h (in_form b f ∙ z)))
  where
    A : Operator
    A = file_operator b

    go : (x y z : Bool) → ◌≢◌ {A = ℕ} (cond (not x) 3 (cond (not y) 4 (cond (not z) 5 0))) 0 → ForEntries (cond (not x) 3 (cond (not y) 4 (cond (not z) 5 0)))
    go false y z n = inl refl
    go true false z n = inr (inl refl)
    go true true false n = inr (inr refl)
    go true true true n = absurd (n refl)

-- so it is for an answer that is the file's refusal
pub exactly_refused : (b : List ℕ) (n : ℕ) → n ≡ file_refusal b → ExactlyRefused b n
exactly_refused b n e = record {
  refused = λ f n w m. let z = multiplies_accepted b f w m in ⊎_elim (λ x. omega arith) (λ y. ⊎_elim (λ x. omega arith) (λ x. omega arith) y) n;
  no_list = λ f none. rw e (for_entries b f (λ z. let (w, m) = accepted_multiplies b z in none w m));
}

-- and for one that is none of an accepted file's
pub exactly_accepted : (b : List ℕ) (n : ℕ) → file_refusal b ≡ 0 → (ForEntries n → ⊥) → ExactlyRefused b n
exactly_accepted b n z h = record { refused = λ f n. absurd (h n); no_list = λ f none. let (w, m) = accepted_multiplies b z in absurd (none w m) }
