use mathlib.Core.Path.{refl, subst, ◌∙◌}
use mathlib.Core.List.{[], ◌∷◌}
use native.Mathlib.Omega.{arith}
use Rattle.text.specs.Writer.{Writes}
use Rattle.file.specs.Laws.Written.{appended_length}
use Rattle.word_code.specs.Laws.Code.{begun, more, over, full}
use Rattle.word_code.proofs.write_code.Goals as goal

pub loop-init : goal.loop-init
loop-init c = record { place = omega arith; long = refl; word = λ w e. begun w _ _ e }

pub returns-then-rest-eq0 : goal.returns-then-rest-eq0
returns-then-rest-eq0 c = λ w e h. over (c.loop.invariant.word w e) c.if-rest-eq0.true

pub byte-requires : goal.byte-requires
byte-requires c = omega (arith, c.requires)

pub loop-preserved : goal.loop-preserved
loop-preserved c =
    let next = c.byte.ensures.bytes.next in
    let place = c.loop.invariant.place in
    record {
      place = omega arith;
      long = appended_length c.byte.ensures.bytes (omega (arith, c.requires)) ∙ c.loop.invariant.long;
      word = λ w e. more (c.loop.invariant.word w e) c.if-rest-eq0.false (omega (arith, c.requires)) (subst (λ x. Writes (x ∷ []) c.loop.writer c.byte.new.self) c.letter_at.ensures c.byte.ensures);
    }

pub returns : goal.returns
returns c = λ w e h. full (c.loop.invariant.word w e) (omega arith)
