use Rattle.std.proofs.Common.{◌≡◌, ◌+◌, ◌-◌, arith, refl, length-append}
use Rattle.sha256.proofs.Blocks.{length-padding}
use Rattle.lms.specs.Lms.{chain}
use Rattle.lms.proofs.Chains.{step_more}
use Rattle.lms.proofs.one_time.chain_end.Goals as goal

pub array-requires : goal.array-requires
array-requires g c = simp length-append (omega (arith, c.requires, length-padding (23 + g.row.N)))

pub loop-j-init : goal.loop-j-init
unfolding chain
loop-j-init g c = let z : c.args.step - c.args.step ≡ 0 = omega arith in (c.told-string, rw z refl)

pub loop-j-preserved : goal.loop-j-preserved
loop-j-preserved g c =
    let n = g.row.N in
    let block = rw c.to_be_bytes.ensures at c.array.ensures in (
      omega arith,
      step_more n c.args.i c.args.step c.loop-j.j c.args.start.now c.args.string.now c.loop-j.reached c.array.result c.hash_block-digest.result _ c.requires c.told-start c.loop-j.invariant.0 (omega arith) (omega arith) c.loop-j.invariant.1 block c.hash_block-digest.ensures c.copy_from_slice.ensures.after,
    )
