use Rattle.std.proofs.Common.{◌≡◌, ◌+◌, sym, refl, ap, ◌∙◌, div-one, arith}
use Rattle.lms.specs.Lms.{climbed, Tc}
use Rattle.lms.proofs.Texts.{chunk_is}
use Rattle.lms.proofs.Trees.{node_above, level_up}
use Rattle.lms.proofs.tree.root.Goals as goal

pub loop-sibling-init : goal.loop-sibling-init
unfolding climbed
loop-sibling-init c = (sym (div-one (32 + c.args.signed.now.leaf)), refl)

pub loop-sibling-preserved : goal.loop-sibling-preserved
loop-sibling-preserved c =
    let l = c.loop-sibling in
    let bottom = 32 + c.args.signed.now.leaf in
    let sibling = chunk_is 32 _ l.sibling-index c.args.signed.now.path.now c.as_chunks.result.0.now _ c.as_chunks.ensures.front (omega (arith, c.as_chunks.ensures.front_len)) in (
      node_above bottom l.sibling-index l.node l.invariant.0,
      level_up 32 bottom l.sibling-index l.node c.args.id.now c.args.signed.now.path.now c.hash_node-value.result l.value _ c.hash_above-value.result l.invariant.0 l.invariant.1 sibling c.hash_above-value.ensures,
    )

pub returns : goal.returns
unfolding Tc
returns c =
    let n : c.loop-sibling.sibling-index ≡ 5 = omega (arith, c.as_chunks.ensures.front_len) in
    rw n at c.loop-sibling.invariant.1 ∙ ap (λ x. climbed 32 c.args.id.now c.args.signed.now.path.now (32 + c.args.signed.now.leaf) x 5) c.hash_node-value.ensures
