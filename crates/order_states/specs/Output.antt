-- What `order_states` writes: the line `order N` or `refused 14`, and nothing where an argument is no number.
use Rattle.std.specs.Prelude.{List, [], ℕ, Option, Some, None, Result, Ok, Err}
use Rattle.order.specs.Order.{order_answer}
use Rattle.text.specs.Text.{order_line, refused_line}

abbrev pub answer_line : Result ℕ ℕ → List ℕ
answer_line (Ok n) = order_line n
answer_line (Err n) = refused_line n

-- for the count t and the spoilage p
abbrev pub order_text : Option ℕ → Option ℕ → List ℕ
order_text (Some t) (Some p) = answer_line (order_answer t p)
order_text (Some t) None = []
order_text None p = []
