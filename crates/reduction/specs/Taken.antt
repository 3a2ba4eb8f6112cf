-- What a normal form takes.
use Rattle.std.specs.Prelude.{List, ℕ, take}
use Rattle.reduction.specs.declared.Cut.{Cut}

-- the numbers of its generators
abbrev pub numbers_in : Cut → List ℕ
numbers_in c = take c.count c.numbers
