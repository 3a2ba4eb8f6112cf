use mathlib.Core.Path.{◌≡◌, refl, sym, ap, ◌∙◌}
use Prim.Native.Nat.{ℕ, suc, ◌+◌, ◌≤◌, ◌<◌}
use native.Mathlib.Omega.{arith}
use mathlib.Core.List.{List}
use lib.IntN.{ℤ}
use lib.ListN.{length, get_or, drop}
use lib.Seq.{drop-cons, drop-length}
use Rattle.matrix.specs.Matrix.{Matrix, Same, δ, entry, listed, product}
use Rattle.matrix.specs.Operator.{operator, times_operator, identity}
use Rattle.matrix.specs.Laws.Matrix.{product_cong, product_assoc, product_id_l}
use Rattle.matrix.specs.Laws.Operator.{times_orthogonal, same_orthogonal, same_operator_of}
use Rattle.matrix.specs.Laws.Inverse.{identity_orthogonal}
use Rattle.matrix.specs.Laws.Array.{entry_listed, listed_cong, orthogonal_bounded}
use Rattle.residue.specs.Generator.{generator}
use Rattle.residue.specs.Laws.Generator.{generator_orthogonal}
use Rattle.reduction.specs.Reduction.{normal_form}
use Rattle.sheet.proofs.multiplied.Invariants.{Going}
use Rattle.sheet.proofs.multiplied.Goals as goal

start : (gs : List ℕ) (C : Matrix) (m : List ℤ) → m ≡ listed δ → Going gs C m 0
start gs C m e = record {
  orthogonal = same_orthogonal (same_operator_of identity (operator 0 (entry m)) refl (λ i j hi hj. sym (identity_entry i j hi hj))) identity_orthogonal;
  whole = λ i j hi hj. sym (product_cong {B = (normal_form gs C).matrix} {B' = (normal_form gs C).matrix} identity_entry (λ i j hi hj. refl) i j hi hj ∙ product_id_l 6 (normal_form gs C).matrix i j hi hj);
}
  where
    identity_entry : Same 6 (entry m) δ
    identity_entry i j hi hj = ap (λ x. entry x i j) e ∙ entry_listed δ i j hi hj

-- a generator more
more : (gs : List ℕ) (C : Matrix) (m r : List ℤ) (n : ℕ) → n < length gs → 1 ≤ get_or gs n 0 → get_or gs n 0 ≤ 15 → Going gs C m n → r ≡ listed (product 6 (entry m) (generator (get_or gs n 0))) → Going gs C r (n + 1)
unfolding normal_form
more gs C m r n h l u s e =
    let g = get_or gs n 0 in
    let same : Same 6 (entry r) (product 6 (entry m) (generator g)) = λ i j hi hj. ap (λ x. entry x i j) e ∙ entry_listed (product 6 (entry m) (generator g)) i j hi hj in
    let k : n + 1 ≡ suc n = omega arith in
    record {
      orthogonal = same_orthogonal (same_operator_of (times_operator (operator n (entry m)) (operator 1 (generator g))) (operator (n + 1) (entry r)) refl (λ i j hi hj. sym (same i j hi hj))) (times_orthogonal s.orthogonal (generator_orthogonal g l u));
      whole = λ i j hi hj.
          s.whole i j hi hj
          ∙ ap (λ x. product 6 (entry m) (normal_form x C).matrix i j) (drop-cons gs n 0 h)
          ∙ ap (λ (X : Matrix). X i j) (sym (product_assoc 6 (entry m) (generator g) (normal_form (drop (suc n) gs) C).matrix))
          ∙ sym (product_cong same (λ i j hi hj. ap (λ x. (normal_form (drop x gs) C).matrix i j) k) i j hi hj);
    }

all : (gs : List ℕ) (C : Matrix) (m r : List ℤ) (n : ℕ) → n ≡ length gs → Going gs C m n → r ≡ listed (product 6 (entry m) C) → r ≡ listed (normal_form gs C).matrix
unfolding normal_form
all gs C m r n h s e =
    e
    ∙ listed_cong (product 6 (entry m) C) (normal_form gs C).matrix
    (λ i j hi hj. sym (s.whole i j hi hj ∙ ap (λ x. product 6 (entry m) (normal_form x C).matrix i j) (ap (λ x. drop x gs) h ∙ drop-length gs)))

pub loop-number-init : goal.loop-number-init
loop-number-init c = start _ _ _ c.identity-m.ensures

pub times_generator-next-requires : goal.times_generator-next-requires
times_generator-next-requires c =
    let n = c.loop-number.number-index in
    let (low, high) = c.requires.1 n c.loop-number-test.true in
    (low, high, orthogonal_bounded n 30 (entry c.loop-number.m) c.loop-number.invariant.orthogonal (omega arith))

pub loop-number-preserved : goal.loop-number-preserved
loop-number-preserved c =
    let n = c.loop-number.number-index in
    let (low, high) = c.requires.1 n c.loop-number-test.true in
    more c.args.numbers.now _ c.loop-number.m _ n (omega arith) low high c.loop-number.invariant c.times_generator-next.ensures

pub times_columns-requires : goal.times_columns-requires
times_columns-requires c = (c.requires.2, orthogonal_bounded c.loop-number.number-index 30 (entry c.loop-number.m) c.loop-number.invariant.orthogonal (omega arith))

pub returns : goal.returns
returns c = all c.args.numbers.now _ c.loop-number.m _ c.loop-number.number-index (omega arith) c.loop-number.invariant c.times_columns.ensures
