-- Refusals are numbered from 1, so that no number is that of no refusal; a value is no refusal, and each is what it is of.
use Rattle.std.specs.Prelude.{◌≡◌, ℕ, ◌≤◌, T, is_ok, Result, Ok, Err}
use Rattle.std.proofs.Common.{ap, subst}
use native.Mathlib.Omega.{arith}
use Rattle.refusal.specs.declared.Refusal.{Refusal}
use Rattle.refusal.specs.declared.Refusal.TheVariants as refusal
use Rattle.refusal.specs.Refusal.{number, refusal_of}

pub number_positive : (r : Refusal) → 1 ≤ number r
number_positive refusal.FileLength = omega arith
number_positive refusal.FileExponent = omega arith
number_positive refusal.Entry = omega arith
number_positive refusal.NotOrthogonal = omega arith
number_positive refusal.NotProper = omega arith
number_positive refusal.Buffer = omega arith
number_positive refusal.ListLength = omega arith
number_positive refusal.Letter = omega arith
number_positive refusal.ProductExponent = omega arith
number_positive refusal.SheetLength = omega arith
number_positive refusal.SheetByte = omega arith
number_positive refusal.NotClifford = omega arith
number_positive refusal.NotCanonical = omega arith
number_positive refusal.Order = omega arith
number_positive refusal.SheetSign = omega arith
number_positive refusal.SheetCount = omega arith
number_positive refusal.UnitaryLength = omega arith
number_positive refusal.UnitaryEntry = omega arith
number_positive refusal.NotUnitary = omega arith
number_positive refusal.Trailer = omega arith
number_positive refusal.Offsets = omega arith
number_positive refusal.SheetNumber = omega arith
number_positive refusal.Line = omega arith
number_positive refusal.ProgramLength = omega arith
number_positive refusal.Qubits = omega arith

module _ {A : Type 0} where
  pub ok_err : {a : A} {n : ℕ} → ◌≡◌ {A = Result A ℕ} (Ok a) (Err n) → ⊥
  ok_err e = subst (λ (r : Result A ℕ). T (is_ok r)) e tt

  pub same_err : {m n : ℕ} → ◌≡◌ {A = Result A ℕ} (Err m) (Err n) → m ≡ n
  same_err e = ap refusal_of e

  value_or : A → Result A ℕ → A
  value_or a (Ok b) = b
  value_or a (Err n) = a

  pub same_ok : {a b : A} → ◌≡◌ {A = Result A ℕ} (Ok a) (Ok b) → a ≡ b
  unfolding value_or
  same_ok {a} e = ap (value_or a) e
