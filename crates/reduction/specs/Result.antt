-- What the results of one cut and of a reduction hold.
use Rattle.std.specs.Prelude.{List, ◌++◌, ◌≡◌, ℕ, suc, ◌-◌, ◌<◌, ℤ, replicate}
use Rattle.matrix.specs.Matrix.{entry}
use Rattle.matrix.specs.Operator.{operator, Orthogonal, Reduced}
use Rattle.reduction.specs.declared.Normal.{Normal}
use Rattle.reduction.specs.declared.Step.{Step}
use Rattle.reduction.specs.Reduction as reduction
use Rattle.reduction.specs.Reduction.{chosen, step, generators, remainder, loose_cut, loose_cuts, taken, remaining}

-- what a cut takes: a reduced orthogonal operator of exponent 1 to 60, which is one more than that of the rest
pub record Cuttable (m : List ℤ) : Type 0 where
  pub rest : ℕ
  pub small : rest < 60
  pub orthogonal : Orthogonal (operator (suc rest) (entry m))
  pub reduced : Reduced (operator (suc rest) (entry m))

-- of one cut: "Each single cut now also says whether its rows grouped as 2 and 4" (document 02, P3)
pub record StepOf (m : List ℤ) (r : Step) : Type 0 where
  pub number : r.number ≡ chosen m
  pub loose : r.loose ≡ loose_cut m
  pub matrix : r.matrix ≡ step m

-- the numbers of k generators at the front of the array, and 0 behind them
abbrev pub numbers_of : ℕ → List ℕ → List ℕ
numbers_of k gs = gs ++ replicate (60 - k) 0

-- of a pair at its least exponent
pub record Whole (k : ℕ) (m : List ℤ) (r : Normal) : Type 0 where
  pub count : r.count ≡ k
  pub loose : r.loose ≡ loose_cuts k m
  pub numbers : r.numbers ≡ numbers_of k (generators k m)
  pub matrix : r.matrix ≡ remainder k m

-- of any pair
pub record WholeOf (k : ℕ) (m : List ℤ) (r : Normal) : Type 0 where
  pub count : r.count ≡ reduction.count k m
  pub loose : r.loose ≡ reduction.loose k m
  pub numbers : r.numbers ≡ numbers_of (reduction.count k m) (taken k m)
  pub matrix : r.matrix ≡ remaining k m
