-- A file that earns no refusal has an orthogonal and proper operator with an exponent in range, and only such a file.
use Rattle.std.specs.Prelude.{◌≡◌, refl, Bool, true, false, not, cond, List, ℕ, ◌≤◌, ltb, length}
use Rattle.std.proofs.Common.{arith, ltb-false, le-ltb}
use Rattle.matrix.specs.Operator.{Operator, SameOperator, ProperOrthogonal}
use Rattle.matrix.specs.Array.{is_within, is_orthogonal}
use Rattle.matrix.specs.Laws.Test.{T_true, true_T, same_test_lem}
use Rattle.matrix.specs.Laws.Operator.{same_operator_sym, same_proper}
use Rattle.matrix.specs.Laws.Array.{orthogonal_sound, orthogonal_complete, within_orthogonal, same_within, same_is_orthogonal}
use Rattle.file.specs.File.{Kind, short_file, long_file, largest_exponent, exponent_of, is_length, kind_of, file_exponent, file_operator, InForm}
use Rattle.file.specs.Laws.File.{is_length_lem, length_is}
use Rattle.acceptance.specs.Acceptance.{is_proper, entries_refusal, file_refusal}

pub entries_sound : (A : Operator) → entries_refusal A ≡ 0 → ProperOrthogonal A
entries_sound A e = go (is_within A.exponent A.matrix) (is_orthogonal A.exponent A.matrix) refl (is_proper A.matrix) refl e
  where
    go : (a b : Bool) → is_orthogonal A.exponent A.matrix ≡ b → (c : Bool) → is_proper A.matrix ≡ c → ◌≡◌ {A = ℕ} (cond (not a) 3 (cond (not b) 4 (cond (not c) 5 0))) 0 → ProperOrthogonal A
    go true true o true p e = record { orthogonal = orthogonal_sound A.exponent A.matrix o; proper = record { positive = record { lt = true_T p } } }
    go true true o false p e = absurd (omega arith)
    go true false o c p e = absurd (omega arith)
    go false b o c p e = absurd (omega arith)

pub entries_complete : (A : Operator) → ProperOrthogonal A → entries_refusal A ≡ 0
entries_complete A a =
    rw (within_orthogonal A.exponent A.matrix a.orthogonal, orthogonal_complete A.exponent A.matrix a.orthogonal, T_true (is_proper A.matrix) a.proper.positive.lt)

-- operators that stand for the same matrix earn the same refusal
pub same_entries : {A B : Operator} → SameOperator A B → entries_refusal A ≡ entries_refusal B
same_entries {A} {B} h = rw (same_within h, same_is_orthogonal h, same_test_lem (is_proper A.matrix) (is_proper B.matrix) (pass h) (pass (same_operator_sym h))) refl
  where
    pass : {A B : Operator} → SameOperator A B → is_proper A.matrix ≡ true → is_proper B.matrix ≡ true
    pass {A} {B} h e = T_true (is_proper B.matrix) (same_proper {A = A} {B = B} h (record { positive = record { lt = true_T e } })).positive.lt

-- ---- files

pub record Accepted (b : List ℕ) : Type 0 where
  pub form : InForm b
  pub entries : ProperOrthogonal (file_operator b)

-- an exponent of either kind
pub range_most : (b : List ℕ) → InForm b → file_exponent b ≤ largest_exponent
range_most b f = go (kind_of (length b)) f.range
  where
    go : (t : Kind) → file_exponent b ≤ exponent_of t → file_exponent b ≤ largest_exponent
    go short_file h = omega arith
    go long_file h = h

pub accepted : (b : List ℕ) → file_refusal b ≡ 0 → Accepted b
unfolding file_refusal
accepted b e = go (is_length (length b)) refl (ltb (exponent_of (kind_of (length b))) (file_exponent b)) refl e
  where
    go : (a : Bool) → is_length (length b) ≡ a → (c : Bool) → ltb (exponent_of (kind_of (length b))) (file_exponent b) ≡ c
        → ◌≡◌ {A = ℕ} (cond (not a) 1 (cond c 2 (entries_refusal (file_operator b)))) 0 → Accepted b
    go true l false r e = record { form = record { size = length_is (length b) l; range = ltb-false _ _ r }; entries = entries_sound (file_operator b) e }
    go true l true r e = absurd (omega arith)
    go false l c r e = absurd (omega arith)

-- of a file of the right length with an exponent in range
pub in_form : (b : List ℕ) → InForm b → file_refusal b ≡ entries_refusal (file_operator b)
unfolding file_refusal
in_form b f = rw (is_length_lem (length b) f.size, le-ltb (exponent_of (kind_of (length b))) (file_exponent b) f.range)
