-- What is computed of an operator file: its refusal, or its normal form.
use Rattle.std.specs.Prelude.{List, ◌≡◌, ℕ, ℤ, Result}
use Rattle.refusal.specs.Refusal.{RefusedOr}
use Rattle.matrix.specs.Matrix.{entry}
use Rattle.clifford.specs.Columns.{column_bytes}
use Rattle.file.specs.File.{file_exponent, file_matrix}
use Rattle.reduction.specs.Reduction as reduction
use Rattle.reduction.specs.Result.{numbers_of}
use Rattle.reduction.specs.declared.Cut.{Cut}
use Rattle.acceptance.specs.Acceptance.{file_refusal}

abbrev pub file_count : List ℕ → ℕ
file_count b = reduction.count (file_exponent b) (file_matrix b)

abbrev pub file_loose : List ℕ → ℕ
file_loose b = reduction.loose (file_exponent b) (file_matrix b)

abbrev pub file_numbers : List ℕ → List ℕ
file_numbers b = reduction.taken (file_exponent b) (file_matrix b)

abbrev pub file_columns : List ℕ → List ℕ
file_columns b = column_bytes (entry (reduction.remaining (file_exponent b) (file_matrix b)))

-- the normal form of the pair (k, m)
pub record CutFrom (k : ℕ) (m : List ℤ) (r : Cut) : Type 0 where
  pub count : r.count ≡ reduction.count k m
  pub loose : r.loose ≡ reduction.loose k m
  pub numbers : r.numbers ≡ numbers_of (reduction.count k m) (reduction.taken k m)
  pub columns : r.columns ≡ column_bytes (entry (reduction.remaining k m))

-- of the pair (k, m), where n is its refusal
abbrev pub CutAs : ℕ → ℕ → List ℤ → Result Cut ℕ → Type 0
CutAs n k m r = RefusedOr n (CutFrom k m) r

abbrev pub CutOf : List ℕ → Result Cut ℕ → Type 0
CutOf b r = CutAs (file_refusal b) (file_exponent b) (file_matrix b) r
