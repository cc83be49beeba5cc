use Rattle.std.proofs.Common.{◌≡◌, ℕ, ◌+◌, List, ◌++◌, length, sym, refl, ap, ◌∙◌, append_assoc, arith, length-append}
use Rattle.buffers.proofs.Laying.{fronted}
use Rattle.sha256.specs.declared.compression.State.{State}
use Rattle.sha256.specs.Sha256.{padding, H0, compressed, after_all, digest, sha256}
use Rattle.sha256.proofs.Blocks.{first_block}
use Rattle.sha256.proofs.hashing.hash_joined.Goals as goal

pub returns-then-message-free : goal.returns-then-message-free
returns-then-message-free c = c.hash.ensures.value ∙ ap sha256 (fronted c.put-end.ensures.after)

-- the first block, and then the rest of the message
joined : (front first rest message block digested : List ℕ) (s : State) → message ≡ first ++ rest → block ≡ front ++ first → length block ≡ 64 → s ≡ compressed H0 block → digested ≡ digest (after_all s (rest ++ padding (64 + length rest))) → digested ≡ sha256 (front ++ message)
unfolding sha256
joined front first rest message block digested s em eb h es ed =
    let whole : front ++ message ≡ block ++ rest = ap (λ x. front ++ x) em ∙ sym (append_assoc front first rest) ∙ ap (λ x. x ++ rest) (sym eb) in
    let long : length (block ++ rest) ≡ 64 + length rest = length-append block rest ∙ ap (λ n. n + length rest) h in
    let all : after_all H0 ((block ++ rest) ++ padding (64 + length rest)) ≡ after_all (compressed H0 block) (rest ++ padding (64 + length rest)) =
    ap (after_all H0) (append_assoc block rest (padding (64 + length rest))) ∙ first_block H0 block (rest ++ padding (64 + length rest)) h in
    ed ∙ ap (λ x. digest (after_all x (rest ++ padding (64 + length rest)))) es ∙ ap digest (sym all) ∙ (rw (whole, long) refl)

pub returns : goal.returns
returns c =
    joined c.args.front.now c.split_at.result.0.now c.split_at.result.1.now c.args.message.now c.array-block.result c.finish.result c.compress.result
    c.split_at.ensures.by_index.0
    c.array-block.ensures
    (omega arith)
    c.compress.ensures
    c.finish.ensures
