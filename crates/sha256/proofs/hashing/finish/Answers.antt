use Rattle.std.proofs.Common.{◌≡◌, ℕ, ◌+◌, ◌*◌, ◌/◌, ◌%◌, ◌^◌, List, ◌++◌, length, take, drop, sym, refl, ap, ◌∙◌, arith, length-append}
use Rattle.buffers.proofs.Laying.{fronted}
use Rattle.sha256.specs.declared.compression.State.{State}
use Rattle.sha256.specs.Sha256.{padding, after_all, digest}
use Rattle.sha256.proofs.Blocks.{length-padding, padding-mod, whole_blocks}
use Rattle.sha256.proofs.hashing.finish.Goals as goal

pub put-end-requires : goal.put-end-requires
put-end-requires c = let total = (c.args.before + length c.args.rest.now) % 2 ^ 64 in omega (arith, length-append c.as_chunks.result.1.now (padding total), length-padding total, c.as_chunks.ensures.back_len)

-- the blocks of m, and then those of its rest and the padding
blocks : (s : State) (m out last : List ℕ) (total end : ℕ) → last ≡ drop (length m / 64 * 64) m → take end out ≡ last ++ padding (total % 2 ^ 64) → after_all (after_all s m) (take end out) ≡ after_all s (m ++ padding total)
blocks s m out last total end el et =
    let k : length m / 64 * 64 ≡ 64 * (length m / 64) = omega arith in
    ap (after_all (after_all s m)) (et ∙ (rw (el, k, padding-mod total) refl)) ∙ sym (whole_blocks s m (padding total) (length m / 64) refl)

pub returns : goal.returns
returns c =
    let b = blocks c.args.state c.args.rest.now c.put-end.new.out c.as_chunks.result.1.now (c.args.before + length c.args.rest.now) c.put-end.result c.as_chunks.ensures.back (fronted c.put-end.ensures.after) in
    c.to_bytes.ensures ∙ ap digest (c.absorb.ensures ∙ (rw c.absorb-state.ensures b))
