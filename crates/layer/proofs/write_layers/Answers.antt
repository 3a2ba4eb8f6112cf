use mathlib.Core.Path.{◌≡◌, sym, ap, ◌∙◌}
use Prim.Native.Nat.{◌+◌}
use native.Mathlib.Omega.{arith}
use Rattle.matrix.specs.Laws.Range.{filled_none, filled_more}
use Rattle.file.specs.File.{written}
use Rattle.file.specs.Laws.Written.{filled_written}
use Rattle.block.specs.Block.{block_count, block_at}
use Rattle.layer.specs.Layer.{highest}
use Rattle.layer.specs.Laws.Layer.{layer_of, layers_all}
use Rattle.layer.specs.Laws.Count.{layers_count}
use Rattle.layer.specs.Laws.Turn.{turn_first, turn_on_two, turn_small, turn_layer, turn_next}
use Rattle.layer.proofs.write_layers.Goals as goal

pub loop-n-init : goal.loop-n-init
loop-n-init c = (turn_first _, filled_none _ _ _)

pub take_layer-layer-requires : goal.take_layer-layer-requires
take_layer-layer-requires c =
    let l = c.loop-n in
    let b = c.args.bytes.now in
    let on = turn_on_two b c.requires.0 l.n (omega arith) in
    let m = turn_small b c.requires.0 l.n (omega arith) in
    let e = turn_layer b c.requires.0 l.n (omega arith) l.free l.layers l.invariant.0 in
    (on.first, on.second, omega arith)

pub overflow_add-layer : goal.overflow_add-layer
overflow_add-layer c =
    let l = c.loop-n in
    let b = c.args.bytes.now in
    let m = turn_small b c.requires.0 l.n (omega arith) in
    let e = turn_layer b c.requires.0 l.n (omega arith) l.free l.layers l.invariant.0 in
    let r = c.take_layer-layer.ensures.0 in
    omega arith

pub loop-n-preserved : goal.loop-n-preserved
loop-n-preserved c =
    let l = c.loop-n in
    let b = c.args.bytes.now in
    let k = c.take_layer-layer in
    let e = k.ensures.0 ∙ turn_layer b c.requires.0 l.n (omega arith) l.free l.layers l.invariant.0 in (
      turn_next b c.requires.0 l.n (omega arith) l.free l.layers l.invariant.0 k.result k.new.free c.max-layers.result e k.ensures.1 c.max-layers.ensures,
      filled_more 0 (layer_of (block_at 2 b)) _ l.n l.out _ l.invariant.1 (omega arith) e,
    )

pub returns : goal.returns
returns c =
    let l = c.loop-n in
    let b = c.args.bytes.now in
    let e : l.n ≡ block_count 2 b = omega arith in (
      l.invariant.0.most ∙ ap (λ k. highest k (λ i. layer_of (block_at 2 b) i + 1)) e ∙ sym (layers_count (block_at 2 b) (block_count 2 b)),
      filled_written (layer_of (block_at 2 b)) _ (block_count 2 b) _ (rw e at l.invariant.1) c.requires.1
          ∙ ap (written c.args.out.now) (sym (layers_all (block_at 2 b) (block_count 2 b))),
    )
