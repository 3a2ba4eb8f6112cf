-- The table is the definition's.
use mathlib.Core.List.{[]}
use lib.ListN.{get_or-map}
use Rattle.word.specs.Word.{rotation_words}
use Rattle.word_code.specs.Code.{encoded}
use Rattle.word_table.proofs.rotation_code.Goals as goal

pub returns : goal.returns
unfolding rotation_words
returns c = get_or-map encoded rotation_words c.args.row []
