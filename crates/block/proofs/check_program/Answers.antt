-- Each return is the refusal that the tests before it lead to.
use mathlib.Core.Path.{sym, ◌∙◌}
use Rattle.block.specs.Laws.Block.{refused_part, refused_many, refused_qubits, refused_none}
use Rattle.block.proofs.check_program.Goals as goal
use Rattle.block.proofs.check_program.Goals.{then-bytes-w-ne0-via-then-bytes-w-ne0, then-bytes-w-ne0-via-else-bytes-w-ne0+then-bytes-w-gt-MOST_BLOCKS}

pub returns-then-bytes-w-ne0 : goal.returns-then-bytes-w-ne0
returns-then-bytes-w-ne0 c =
    elim c.then-bytes-w-ne0.branch [
      | then-bytes-w-ne0-via-then-bytes-w-ne0 w ↦ sym (refused_part _ _ w.if-bytes-w-ne0.true)
      | then-bytes-w-ne0-via-else-bytes-w-ne0+then-bytes-w-gt-MOST_BLOCKS w ↦
          sym (refused_many _ _ w.if-bytes-w-ne0.false w.if-bytes-w-gt-MOST_BLOCKS.true)
    ]

pub returns-then-not-are_on_two : goal.returns-then-not-are_on_two
returns-then-not-are_on_two c =
    sym (refused_qubits _ _ c.if-bytes-w-ne0.false c.if-bytes-w-gt-MOST_BLOCKS.false (sym c.are_on_two.ensures ∙ c.if-not-are_on_two.true))

pub returns : goal.returns
returns c = sym (refused_none _ _ c.if-bytes-w-ne0.false c.if-bytes-w-gt-MOST_BLOCKS.false (sym c.are_on_two.ensures ∙ c.if-not-are_on_two.false))
