-- L, the number of cuts that grouped as 2 and 4 (document 02, P3): fewer than the count, but for a Clifford; the same of −M, with a signed
-- permutation on the right, and of every pair that stands for the same matrix.
use Rattle.std.specs.Prelude.{◌≡◌, Bool, true, false, List, ℤ, length}
use Rattle.std.proofs.Math.Path.{refl, ap₂}
use Rattle.std.proofs.Common.{ap, ◌∙◌, arith}
use Rattle.std.proofs.Math.Bool.{cond}
use Prim.Native.Nat.{ℕ, zero, suc, ◌+◌, ◌<◌, ◌≤◌}
use Rattle.matrix.specs.Matrix.{Matrix, entry}
use Rattle.matrix.specs.Operator.{operator, SameOperator, Orthogonal, Reduced}
use Rattle.matrix.specs.Array.{row_mask, least_form}
use Rattle.matrix.specs.Laws.Array.{least_form_lem, least_orthogonal, same_least_form}
use Rattle.matrix.specs.Laws.Right.{masks_right}
use Rattle.grouping.specs.Laws.Loose.{loose_cong}
use Rattle.grouping.proofs.Grouping.{forced_at_one}
use Rattle.reduction.specs.Reduction.{step, remainder, loose_cut, loose_cuts, count, loose}
use Rattle.reduction.specs.Laws.NormalForm.{step_orthogonal, step_reduced}
use Rattle.reduction.specs.Laws.Right.{times_right, right_step, least_times}
use Rattle.reduction.specs.Laws.Negative.{negative_of, negative_right, minus_one, minus_one_orthogonal}

-- a cut counts once at most
pub at_most_one : (t : Bool) → cond t 1 0 ≤ 1
at_most_one true = omega arith
at_most_one false = omega arith

-- ---- a reduction that is under way

pub loose_next : (n : ℕ) (m : List ℤ) → loose_cuts (suc n) m ≡ loose_cuts n m + cond (loose_cut (remainder n m)) 1 0
unfolding loose_cuts remainder
loose_next zero m = omega arith
loose_next (suc n) m = let e = loose_next n (step m) in omega arith

pub loose_at_most : (n : ℕ) (m : List ℤ) → loose_cuts n m ≤ n
unfolding loose_cuts
loose_at_most zero m = omega arith
loose_at_most (suc n) m = let one = at_most_one (loose_cut m) in let rest = loose_at_most n (step m) in omega arith

-- the last cut, at k = 1, is forced
loose_fewer : (k : ℕ) (m : List ℤ) → Orthogonal (operator k (entry m)) → Reduced (operator k (entry m)) → 1 ≤ k → loose_cuts k m < k
unfolding loose_cuts
loose_fewer zero m o r h = absurd (omega arith)
loose_fewer (suc zero) m o r h = rw (forced_at_one (entry m) o) (omega arith)
loose_fewer (suc (suc k)) m o r h =
    let one = at_most_one (loose_cut m) in
    let rest = loose_fewer (suc k) (step m) (step_orthogonal (suc k) m o r) (step_reduced (suc k) m o r) (omega arith) in
    omega arith

-- ---- of any pair

pub loose_count : (k : ℕ) (m : List ℤ) → loose k m ≤ count k m
loose_count k m = loose_at_most (least_form k m).exponent (least_form k m).matrix

pub loose_below : (k : ℕ) (m : List ℤ) → Orthogonal (operator k (entry m)) → 1 ≤ count k m → loose k m < count k m
loose_below k m o h = loose_fewer (least_form k m).exponent (least_form k m).matrix (least_orthogonal k m o) (least_form_lem k m).reduced h

-- ---- what it does not depend on

module _ (D : Matrix) (d : Orthogonal (operator 0 D)) where
  cuts_right : (k : ℕ) (m : List ℤ) → Orthogonal (operator k (entry m)) → Reduced (operator k (entry m)) → loose_cuts k (times_right m D) ≡ loose_cuts k m
  unfolding loose_cuts
  cuts_right zero m o r = refl
  cuts_right (suc k) m o r =
      ap₂ (λ t n. cond t 1 0 + n) (loose_cong (row_mask (entry (times_right m D))) (row_mask (entry m)) (masks_right D d (entry m)))
      (ap (loose_cuts k) (right_step D d k m o r) ∙ cuts_right k (step m) (step_orthogonal k m o r) (step_reduced k m o r))

  pub loose_right : (k : ℕ) (m : List ℤ) → Orthogonal (operator k (entry m)) → loose k (times_right m D) ≡ loose k m
  loose_right k m o =
      ap (λ l. loose_cuts l.exponent l.matrix) (least_times D d k m o) ∙ cuts_right (least_form k m).exponent (least_form k m).matrix (least_orthogonal k m o) (least_form_lem k m).reduced

pub loose_negative : (k : ℕ) (m : List ℤ) → Orthogonal (operator k (entry m)) → loose k (negative_of m) ≡ loose k m
loose_negative k m o = ap (loose k) (negative_right m) ∙ loose_right minus_one minus_one_orthogonal k m o

pub loose_same : (k l : ℕ) (m n : List ℤ) → length m ≡ 36 → length n ≡ 36 → Orthogonal (operator k (entry m)) → Orthogonal (operator l (entry n))
    → SameOperator (operator k (entry m)) (operator l (entry n)) → loose k m ≡ loose l n
loose_same k l m n hm hn o p h = ap (λ f. loose_cuts f.exponent f.matrix) (same_least_form k l m n hm hn o p h)
