-- Each word of the table, computed.
use mathlib.Core.Path.{◌≡◌, refl, sym, ◌∙◌}
use mathlib.Core.Bool.{Bool, true}
use mathlib.Core.List.{List, [], map}
use Prim.Native.Nat.{ℕ, ◌+◌, ◌^◌}
use native.Mathlib.Omega.{arith}
use borrow.Author.Tests.{ltb-true}
use lib.Dec.{ltb}
use lib.ListN.{get_or, get_or-map}
use Rattle.std.specs.Prelude.{bit_and}
use Rattle.matrix.specs.Range.{every, every_from}
use Rattle.matrix.specs.Laws.Range.{every_sound}
use Rattle.letter.specs.declared.Gate.{Gate}
use Rattle.word.specs.Word.{rotation_words, on_second}
use Rattle.word_code.specs.Code.{encoded}
use Rattle.word_table.proofs.second_rotation_code.Goals as goal

word : ℕ → List Gate
word row = get_or rotation_words row []

second : (row : ℕ) → encoded (get_or rotation_words row []) + bit_and (encoded (get_or rotation_words row [])) 37449 ≡ encoded (map on_second (get_or rotation_words row []))
unfolding rotation_words
second row =
    sym (get_or-map (λ w. encoded w + bit_and (encoded w) 37449) rotation_words row []) ∙ get_or-map (λ w. encoded (map on_second w)) rotation_words row []

short : ℕ → Bool
short row = ltb (encoded (map on_second (get_or rotation_words row []))) (8 ^ 6)

all_short : every 36 short ≡ true
unfolding every_from rotation_words short
all_short = refl

pub overflow_add-result : goal.overflow_add-result
unfolding short
overflow_add-result c =
    let row = c.args.row in
    rw (c.rotation_code-code.ensures, second row) (record { fits = omega (arith, ltb-true _ _ (every_sound 36 short all_short row c.requires)) })

pub returns : goal.returns
returns c = rw c.rotation_code-code.ensures (second c.args.row)
