use Rattle.std.proofs.Common.{◌≡◌, ◌++◌, ◌-◌, [], get_or, refl, ap, ◌∙◌, append_assoc, append-nil, arith, length-append}
use Rattle.lms.specs.Lms.{D-PBLC, hashed, chain, ends}
use Rattle.lms.proofs.Texts.{hashed_text, chunk_is}
use Rattle.lms.proofs.Chains.{ends_more}
use Rattle.lms.proofs.one_time.hash_ends.Goals as goal

pub loop-i-init : goal.loop-i-init
unfolding ends
loop-i-init c = (omega (arith, c.put-next.ensures.next, length-append c.args.start.now D-PBLC), rw append-nil c.put-next.ensures.after)

pub loop-i-preserved : goal.loop-i-preserved
loop-i-preserved c =
    let i = c.loop-i.i in
    let start = c.args.start.now in
    let step = get_or c.args.steps.now i 0 in
    let string = chunk_is 32 _ i c.args.strings.now c.as_chunks.result.0.now [] c.as_chunks.ensures.front (omega (arith, c.as_chunks.ensures.front_len)) in (
      omega (arith, c.put-next-in-loop-i.ensures.next, c.loop-i.invariant.0),
      ends_more 32 i step (start ++ D-PBLC) start c.args.steps.now c.args.strings.now c.chain_end-end.result refl (c.chain_end-end.ensures ∙ ap (λ s. chain 32 start i step s (255 - step)) string) c.loop-i.invariant.1 c.put-next-in-loop-i.ensures.after,
    )

pub returns : goal.returns
returns c =
    let n : c.loop-i.i ≡ 34 = omega (arith, c.as_chunks.ensures.front_len) in
    let text = rw n at c.loop-i.invariant.1 in
    hashed_text c.hash.result text (omega (arith, c.loop-i.invariant.0)) c.hash.ensures.value
    ∙ ap (hashed 32) (append_assoc c.args.start.now D-PBLC (ends 32 c.args.start.now c.args.steps.now c.args.strings.now 34))
