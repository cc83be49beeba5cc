use Rattle.std.proofs.Common.{◌/◌, ◌<◌, length, refl, arith}
use Rattle.sha256.specs.Sha256.{after}
use Rattle.sha256.proofs.Blocks.{block_more}
use Rattle.sha256.proofs.compression.State.absorb.Goals as goal

pub loop-block-init : goal.loop-block-init
unfolding after
loop-block-init c = refl

pub loop-block-preserved : goal.loop-block-preserved
loop-block-preserved c =
    let h : c.loop-block.block-index < length c.args.bytes.now / 64 = omega (arith, c.as_chunks.ensures.front_len) in
    block_more c.args.self c.loop-block.state _ c.args.bytes.now c.as_chunks.result.0.now _ c.loop-block.block-index _
    c.as_chunks.ensures.front
    h
    c.loop-block.invariant
    c.compress-state.ensures
