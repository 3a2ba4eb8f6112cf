-- The parts stand right after the rotations, which have at most 12 letters; the sign says whether the halves are even.
use mathlib.Core.Bool.{Bool, true, false, not, cond}
use mathlib.Core.Path.{◌≡◌, refl, ap, ◌∙◌}
use mathlib.Core.List.{◌++◌}
use native.Mathlib.Omega.{arith}
use mir.Val.{bool_byte}
use Rattle.word.specs.Word.{is_even_half, halves_even, rotations_of, parts_of, clifford_word}
use Rattle.word.specs.Laws.Word.{rotations_length}
use Rattle.word_code.specs.Laws.Writer.{word_as, word_length, word_append}
use Rattle.word_table.proofs.write_clifford.Goals as goal

sign_is : (t : Bool) → bool_byte (not t) ≡ cond t 0 1
sign_is true = refl
sign_is false = refl

pub write_parts-requires : goal.write_parts-requires
write_parts-requires c =
    let rotations = c.write_rotations.ensures in
    let n = rotations_length c.is_even-even.result c.local_columns-local.result in
    let l = word_length rotations (omega (arith, c.requires)) in
    let e = rotations.written.next in
    omega (arith, c.requires)

pub returns : goal.returns
unfolding clifford_word
returns c =
    let bs = c.args.columns in
    let local = c.local_columns-local in
    let even = c.is_even-even in
    let rotations = c.write_rotations.ensures in
    let e : even.result ≡ halves_even bs = even.ensures ∙ ap is_even_half local.ensures in
    let n = rotations_length even.result local.result in (
      word_as (word_append rotations (omega (arith, c.requires)) c.write_parts.ensures)
          (ap (λ t. rotations_of t local.result ++ parts_of bs) even.ensures ∙ ap (λ x. rotations_of (is_even_half x) x ++ parts_of bs) local.ensures),
      sign_is even.result ∙ ap (λ t. cond t 0 1) e,
    )
