-- What `layer_blocks` writes (document 02, P13): two lines, or the one line `refused N`.
use Rattle.std.specs.Prelude.{cond, List, ◌++◌, ℕ, eqb}
use Rattle.block.specs.Block.{program_refusal}
use Rattle.layer.specs.Promise.{layer_bytes, layer_count}
use Rattle.text.specs.Text.{layers_line, layer_line, refused_line}

-- for the program b: how many layers there are, and the layer of each block
unfoldable pub layer_text : List ℕ → List ℕ
layer_text b = cond (eqb (program_refusal 2 b) 0) (layers_line (layer_count b) ++ layer_line (layer_bytes b)) (refused_line (program_refusal 2 b))
