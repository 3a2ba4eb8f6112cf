use mathlib.Core.Bool.{Bool, true, false, cond}
use mathlib.Core.List.{List, [], ◌∷◌, ◌++◌, append_assoc}
use mathlib.Core.Path.{◌≡◌, refl, sym, ap, ap₂, ◌∙◌}
use Prim.Native.Nat.{ℕ, suc, ◌+◌, ◌-◌, ◌<◌}
use native.Mathlib.Numerals.{add-one}
use native.Mathlib.Omega.{arith}
use lib.ListN.{length, set, replicate}
use lib.Seq.{set_at}
use mir.Val.{bool_byte}
use Rattle.reduction.specs.Reduction.{chosen, step, generators, remainder, loose_cut, loose_cuts}
use Rattle.reduction.specs.Result.{numbers_of}
use Rattle.reduction.specs.Laws.NormalForm.{remainder_next, generators_next, length_generators, under_way}
use Rattle.reduction.specs.Laws.Loose.{at_most_one, loose_next, loose_at_most}
use Rattle.reduction.proofs.reduce.Goals as goal

-- a number more in the array
numbers_more : (n x : ℕ) (gs : List ℕ) → length gs ≡ n → n < 60 → set (numbers_of n gs) n x ≡ numbers_of (n + 1) (gs ++ (x ∷ []))
numbers_more n x gs l h =
    let e : 60 - n ≡ suc (60 - (n + 1)) = omega arith in
    rw e (set_at gs 0 (replicate (60 - (n + 1)) 0) x n l) ∙ sym (append_assoc gs (x ∷ []) (replicate (60 - (n + 1)) 0))

-- a flag as a number
byte_is : (t : Bool) → bool_byte t ≡ cond t 1 0
byte_is true = refl
byte_is false = refl

pub loop-n-init : goal.loop-n-init
unfolding remainder generators loose_cuts
loop-n-init c = (refl, refl, refl)

pub cut_once-step-requires : goal.cut_once-step-requires
cut_once-step-requires c =
    let left = c.args.operator.exponent - (c.loop-n.n + 1) in
    let (o, r) = under_way c.loop-n.n c.args.operator.exponent (suc left) c.args.operator.matrix (omega arith) c.requires.1 c.requires.2 in
    rw c.loop-n.invariant.0 (record { rest = left; small = omega arith; orthogonal = o; reduced = r })

pub overflow_add-loose : goal.overflow_add-loose
overflow_add-loose c =
    let h = loose_at_most c.loop-n.n c.args.operator.matrix in
    let t = c.cut_once-step.result.loose in
    let e = byte_is t in
    let one = at_most_one t in
    omega arith

pub loop-n-preserved : goal.loop-n-preserved
loop-n-preserved c =
    let n = c.loop-n.n in
    let m = c.args.operator.matrix in
    let cut = c.cut_once-step.ensures in
    let q = c.loop-n.invariant.0 in (
      rw add-one (cut.matrix ∙ ap step q ∙ sym (remainder_next n m)),
      ap₂ (λ xs x. set xs n x) c.loop-n.invariant.1 (cut.number ∙ ap chosen q) ∙ numbers_more n _ (generators n m) (length_generators n m) (omega arith)
          ∙ ap (numbers_of (n + 1)) (sym (generators_next n m) ∙ ap (λ x. generators x m) (sym (add-one n))),
      ap₂ (λ x t. x + bool_byte t) c.loop-n.invariant.2 (cut.loose ∙ ap loose_cut q) ∙ ap (λ x. loose_cuts n m + x) (byte_is (loose_cut (remainder n m)))
          ∙ sym (loose_next n m) ∙ ap (λ x. loose_cuts x m) (sym (add-one n)),
    )
