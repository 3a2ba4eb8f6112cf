-- The invariant: the blocks before n have their layers, and what is kept of each qubit and of the number of layers is as after them.
use Rattle.matrix.specs.Laws.Range.{Filled}
use Rattle.block.specs.Block.{block_at}
use Rattle.layer.specs.Laws.Layer.{layer_of}
use Rattle.layer.specs.Laws.Turn.{Turn}
use Rattle.layer.proofs.write_layers.Given as goal

abbrev pub invariant-loop-n : goal.invariant-loop-n
invariant-loop-n l = Turn l.bytes l.n l.free l.layers × Filled 0 (layer_of (block_at 2 l.bytes)) l.initial.out l.n l.out
