-- The table is the definition's.
use mathlib.Core.List.{[]}
use lib.ListN.{get_or-map}
use Rattle.word.specs.Word.{part_words}
use Rattle.word_code.specs.Code.{encoded}
use Rattle.word_table.proofs.part_code.Goals as goal

pub returns : goal.returns
unfolding part_words
returns c = get_or-map encoded part_words c.args.part []
