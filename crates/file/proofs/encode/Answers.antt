-- the width of an entry, by the exponent
use Rattle.file.specs.File.{short_exponent}
use borrow.Author.Tests.{lt-ltb, le-ltb}
use Rattle.file.proofs.encode.Goals as goal

pub encode_as-requires : goal.encode_as-requires
encode_as-requires c =
    (rw (le-ltb short_exponent c.args.operator.now.exponent c.if-operator-le-SHORT_EXPONENT.true), c.requires.0, c.requires.1)

pub encode_as-requires-else-operator-le-SHORT_EXPONENT : goal.encode_as-requires-else-operator-le-SHORT_EXPONENT
encode_as-requires-else-operator-le-SHORT_EXPONENT c =
    (rw (lt-ltb short_exponent c.args.operator.now.exponent c.if-operator-le-SHORT_EXPONENT.false), c.requires.0, c.requires.1)
