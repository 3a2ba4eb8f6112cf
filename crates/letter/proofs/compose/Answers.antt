use mathlib.Core.Path.{sym, ◌∙◌}
use mathlib.Core.List.{map}
use native.Mathlib.Omega.{arith}
use lib.ListN.{length-map, get_or-map}
use lib.Seq.{ext_get_or}
use Rattle.letter.specs.Composition.{image_of}
use Rattle.letter.specs.Laws.Bytes.{byte_in}
use Rattle.letter.proofs.compose.Goals as goal

pub image-requires : goal.image-requires
image-requires c = byte_in c.args.right c.requires c.loop-c.c (omega arith)

pub returns : goal.returns
returns c =
    let f = image_of c.args.left in
    let n = length-map c.args.right f in
    ext_get_or (f 0) c.loop-c.out (map f c.args.right) (omega arith) (λ i h. c.loop-c.invariant.front i (omega arith) ∙ sym (get_or-map f c.args.right i 0))
