use borrow.Author.Rules.{rules}
use borrow.Author.Tests.{tests}
use lib.IntN.{pos}
use Rattle.matrix.proofs.Chains.{made}
use Rattle.file.specs.File.{short_file, entry_of}
use Rattle.unitary_file.specs.Unitary.{unitary_entries}
use Rattle.unitary_file.proofs.decode.Goals as goal

pub returns : goal.returns
unfolding unitary_entries
returns c = made _ (entry_of short_file c.args.bytes.now) (pos 0) c.from_fn.result (λ x y q k. search (rules, tests)) 32 c.from_fn.ensures.items
