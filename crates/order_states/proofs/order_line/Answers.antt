-- The line has room.
use mathlib.Core.List.{[], ◌∷◌}
use native.Mathlib.Omega.{arith}
use Rattle.text.specs.Text.{order_word}
use Rattle.text.specs.Laws.Text.{line_length, refused_length}
use Rattle.text.specs.Laws.Writer.{room_front}
use Rattle.order_states.proofs.order_line.Goals as goal

pub write_line-requires : goal.write_line-requires
write_line-requires c = let l = line_length order_word (c.in-Ok.states ∷ []) in room_front c.new-w.ensures _ (omega arith)

pub refused-requires : goal.refused-requires
refused-requires c = omega (arith, refused_length c.number.result)
