use Rattle.std.proofs.Common.{◌≡◌, length, refl, ap, ◌∙◌, arith}
use Rattle.std.proofs.lemmas.Slice.Zip.{zip_turn, zip_end}
use Rattle.std.proofs.lemmas.List.{length_push}
use Rattle.std.specs.Iterator.Adapters.{zip_second}
use Rattle.std.specs.Slice.Iter.{iter_rest}
use Rattle.sha256.specs.Sha256.{K, rounds, added, compressed}
use Rattle.sha256.proofs.Schedule.{round_more}
use Rattle.sha256.proofs.compression.State.compress.Goals as goal

pub loop-k-init : goal.loop-k-init
unfolding rounds
loop-k-init c = refl

pub loop-k-preserved : goal.loop-k-preserved
loop-k-preserved c =
    let words = iter_rest (zip_second c.into_iter-k-iterator.result) in
    let t = zip_turn K words c.loop-k.yielded c.into_iter-k-iterator.result c.loop-k.k-iterator c.next.new.self _ (cc) refl c.loop-k.yielded_by (c.in-Some.k, c.in-Some.w) c.in-Some.is c.next.ensures.steps in
    rw (length_push c.loop-k.yielded (c.in-Some.k, c.in-Some.w)) (round_more c.args.self c.loop-k.v c.round-v.result words (length c.loop-k.yielded) c.in-Some.k.now c.in-Some.w.now c.loop-k.invariant (t.2 0) (t.3 0) c.round-v.ensures)

pub returns : goal.returns
unfolding compressed
returns c =
    let words : iter_rest (zip_second c.into_iter-k-iterator.result) ≡ c.message_schedule-words.result = cc in
    let n : length c.loop-k.yielded ≡ 64 = zip_end K c.message_schedule-words.result c.loop-k.yielded c.into_iter-k-iterator.result c.loop-k.k-iterator c.next.new.self _ (cc) words c.loop-k.yielded_by c.in-None.is c.next.ensures.steps ∙ omega arith in
    c.plus.ensures ∙ ap (λ v. added v c.args.self) (c.loop-k.invariant ∙ (rw (n, words, c.message_schedule-words.ensures) refl))
