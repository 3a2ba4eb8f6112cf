use borrow.Author.Rules.{rules}
use lib.IntN.{pos}
use lib.ListN.{length}
use Rattle.matrix.proofs.Chains.{made}
use Rattle.file.specs.File.{file_matrix, entry_of, kind_of}
use Rattle.file.proofs.decode.Goals as goal

pub returns : goal.returns
unfolding file_matrix
returns c =
    let b = c.args.bytes.now in
    made _ (entry_of (kind_of (length b)) b) (pos 0) c.from_fn.result (λ x y q k. search rules) 36 c.from_fn.ensures.items
