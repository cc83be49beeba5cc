-- Sealed drafts, and the other laws.
use Rattle.std.proofs.Common.{◌≡◌, ℕ, ◌+◌, ◌^◌, ◌<◌, ◌≤◌, Bool, true, false, cond, leb, List, [], ◌++◌, length, take, drop, Some, None, Ok, Err, Option, Result, sym, refl, ap, ◌∙◌, subst, append_assoc, arith, length-append, w32}
use Rattle.std.proofs.lemmas.List.{take_at, drop_at}
use Rattle.std.proofs.lemmas.Int.{to_z-of_z, of_z-to_z}
use Rattle.std.proofs.lemmas.Bool.{le-leb, leb-true}
use Rattle.values.specs.declared.fix.Report.{Report}
use Rattle.values.specs.Refusals.{Refused, short, layout}
use Rattle.wire.specs.declared.words.Malformed.{Malformed}
use Rattle.wire.specs.declared.statement.Statement.{Statement}
use Rattle.wire.specs.declared.statement.Statement.TheVariants.{Propose, Prepare, Commit, NewView}
use Rattle.buffers.specs.Words.{word_bytes}
use Rattle.wire.specs.Words.{word_at}
use Rattle.wire.specs.Contents.{kind_of, body_bytes, statement_bytes, report_bytes, tag_bytes, certificate_bytes, certified_bytes, reported, progress_bytes, Content, propose, prepare, commit, new_view, statement_of, tag_of, attachment_bytes, message_bytes, draft_bytes, with_tag}
use Rattle.wire.specs.Layout.{message_of, draft_end}
use Rattle.messages.specs.Parts.{Pieces, map_ok, locate, shortest_of}
use Rattle.wire.proofs.Lengths.{length-tag}
use Rattle.writing.specs.Written.{refusing, sealed_bytes, sealing_by, sealing}
use Rattle.packets.specs.Laws.{faulted, WrittenReadsBack, OneByteString, PartsAreThePacket, KindIsTheFirstWord, StatementsToldApart, SealedReadsBack, DraftsAreSealed, Shortest, FixesAreWords}
use Rattle.buffers.proofs.Held.{front, whole}
use Rattle.packets.proofs.Back.{word_back, message_back, draft_back, told_apart}
use Rattle.packets.proofs.Whole.{message_only, draft_only}

pub err_not_ok : {A : Type 0} {e : Refused} {x : A} → ◌≡◌ {A = Result A Refused} (Err e) (Ok x) → ⊥
err_not_ok h = let z : ◌≡◌ {A = ℕ} 0 1 = cc in omega arith

past : (xs ys zs : List ℕ) → drop (length xs + length ys) (xs ++ (ys ++ zs)) ≡ zs
past xs ys zs = ap (drop (length xs + length ys)) (sym (append_assoc xs ys zs)) ∙ drop_at (xs ++ ys) zs (length xs + length ys) (length-append xs ys)

pub written_reads_back : WrittenReadsBack
unfolding locate
written_reads_back limit m small fits =
    let s = statement_bytes (statement_of m) in
    let t = tag_bytes (tag_of m) in
    let back = message_back limit m (omega arith) fits in
    (back, ap (λ r. faulted (map_ok (locate (message_bytes m)) r)) back ∙ ap (λ z. Ok (record { statement = statement_of m; tag = record { place = length s; bytes = tag_of m }; attachment = record { place = length s + length t; bytes = z } })) (past s t (attachment_bytes m)))

pub one_byte_string : OneByteString
one_byte_string limit b m bytes h = message_only limit b bytes m h

-- what reading answered was made of a content
located : (b : List ℕ) (r : Result Content Malformed) (p : Pieces Statement) → faulted (map_ok (locate b) r) ≡ Ok p → (m : Content) × (r ≡ Ok m) × (locate b m ≡ p)
located b (Ok m) p h = (m, refl, cc)
located b (Err e) p h = absurd (err_not_ok h)

again : (b : List ℕ) (m : Content) → b ≡ message_bytes m → statement_bytes (locate b m).statement ++ (tag_bytes (locate b m).tag.bytes ++ (locate b m).attachment.bytes) ≡ b
unfolding locate
again b m e =
    let s = statement_bytes (statement_of m) in
    let t = tag_bytes (tag_of m) in
    let rest : drop (length s + length t) b ≡ attachment_bytes m = ap (drop (length s + length t)) e ∙ past s t (attachment_bytes m) in
    ap (λ (z : List ℕ). s ++ (t ++ z)) rest ∙ sym e

pub parts_are_the_packet : PartsAreThePacket
parts_are_the_packet limit b p bytes h =
    let l = located b (message_of limit b) p h in
    subst (λ (q : Pieces Statement). statement_bytes q.statement ++ (tag_bytes q.tag.bytes ++ q.attachment.bytes) ≡ b) l.2 (again b l.0 (message_only limit b bytes l.0 l.1).0)

kind_small : (s : Statement) → kind_of s < 2 ^ 32
kind_small (Propose c) = omega arith
kind_small (Prepare c) = omega arith
kind_small (Commit c) = omega arith
kind_small (NewView c) = omega arith

first_word : (b : List ℕ) (m : Content) → b ≡ message_bytes m → word_at b 0 ≡ Ok (kind_of (statement_of m))
first_word b m e =
    let k = kind_of (statement_of m) in
    let rest = body_bytes (statement_of m) ++ (tag_bytes (tag_of m) ++ attachment_bytes m) in
    ap (λ (z : List ℕ). word_at z 0) e ∙ word_back (message_bytes m) 0 k (kind_small (statement_of m)) (front (word_bytes k) rest (whole (message_bytes m)))

kept : (b : List ℕ) (m : Content) → (locate b m).statement ≡ statement_of m
unfolding locate
kept b m = refl

pub kind_is_the_first_word : KindIsTheFirstWord
kind_is_the_first_word limit b p bytes h =
    let l = located b (message_of limit b) p h in
    let m = l.0 in
    first_word b m (message_only limit b bytes m l.1).0 ∙ ap (λ (s : Statement). Ok (kind_of s)) (sym (kept b m) ∙ ap (λ (q : Pieces Statement). q.statement) l.2)

pub statements_told_apart : StatementsToldApart
statements_told_apart = told_apart

-- ---- sealing ----

with_tag_lem : (t : List ℕ) (m : Content) → message_bytes (with_tag t m) ≡ statement_bytes (statement_of m) ++ (tag_bytes t ++ attachment_bytes m)
with_tag_lem t (propose c u ms) = refl
with_tag_lem t (prepare c u) = refl
with_tag_lem t (commit c u vs) = refl
with_tag_lem t (new_view m) = refl

put_in : (s a t : List ℕ) → take (length s) (s ++ a) ++ (t ++ drop (length s) (s ++ a)) ≡ s ++ (t ++ a)
put_in s a t = rw (take_at s a (length s) refl, drop_at s a (length s) refl)

-- a draft with a tag put in behind its statement
sealed_is : (t : List ℕ) (m : Content) → sealed_bytes (draft_bytes m) (length (statement_bytes (statement_of m))) t ≡ message_bytes (with_tag t m)
sealed_is t m = put_in (statement_bytes (statement_of m)) (attachment_bytes m) (tag_bytes t) ∙ sym (with_tag_lem t m)

-- what a draft that is sealed went through
record Passed (limit : ℕ) (draft tag out : List ℕ) (n : ℕ) : Type 0 where
  fits : leb (length tag) limit ≡ true
  end : ℕ
  ends : draft_end limit draft ≡ Ok end
  long : n ≡ length (sealed_bytes draft end tag)
  holds : (sealing limit draft tag out).1 ≡ sealed_bytes draft end tag ++ drop (length (sealed_bytes draft end tag)) out

passed : (limit : ℕ) (draft tag out : List ℕ) (n : ℕ) → (sealing limit draft tag out).0 ≡ Ok n → Passed limit draft tag out n
unfolding sealing
passed limit draft tag out n h = by (leb (length tag) limit) (leb (length draft + (limit + 4)) (length out)) (draft_end limit draft) refl refl refl h
  where
    by : (x y : Bool) (r : Result ℕ Malformed) → leb (length tag) limit ≡ x → leb (length draft + (limit + 4)) (length out) ≡ y → draft_end limit draft ≡ r
        → (cond x (cond y (sealing_by draft tag out r) (refusing short out)) (refusing (layout 0) out)).0 ≡ Ok n → Passed limit draft tag out n
    by true true (Ok end) p q e k =
        record { fits = p; end = end; ends = e; long = (let z : length (sealed_bytes draft end tag) ≡ n = cc in sym z); holds = rw (p, q, e) }
    by true true (Err f) p q e k = absurd (err_not_ok k)
    by true false r p q e k = absurd (err_not_ok k)
    by false y r p q e k = absurd (err_not_ok k)

pub sealed_reads_back : SealedReadsBack
sealed_reads_back limit draft tag out n small bytes h =
    let p = passed limit draft tag out n h in
    let d = draft_only limit draft p.end bytes p.ends in
    let m = d.0 in
    let is : sealed_bytes draft p.end tag ≡ message_bytes (with_tag tag m) =
    ap (λ (l : List ℕ). sealed_bytes l p.end tag) d.1.is ∙ ap (λ (k : ℕ). sealed_bytes (draft_bytes m) k tag) d.1.ends ∙ sealed_is tag m in
    let taken : take n (sealing limit draft tag out).1 ≡ message_bytes (with_tag tag m) =
    ap (take n) p.holds ∙ take_at (sealed_bytes draft p.end tag) (drop (length (sealed_bytes draft p.end tag)) out) n (sym p.long) ∙ is in
    (m, d.1.is, ap (message_of limit) taken ∙ message_back limit (with_tag tag m) (omega arith) (d.1.fits tag (leb-true (length tag) limit p.fits)))

pub drafts_are_sealed : DraftsAreSealed
unfolding sealing
drafts_are_sealed limit m tag out small fits short room =
    rw (le-leb (length tag) limit short, le-leb (length (draft_bytes m) + (limit + 4)) (length out) room, draft_back limit m (omega arith) fits) (ap (λ l. Ok (length l)) (sealed_is tag m))

-- ---- lengths, and fixes ----

report_long : (o : Option Report) → 4 ≤ length (report_bytes o)
report_long None = omega arith
report_long (Some r) = omega arith

-- a message of its kind, and no shorter
abbrev Long : Content → ℕ → Type 0
Long m n = (k : ℕ) × (shortest_of (kind_of (statement_of m)) ≡ Some k) × (k ≤ n)

long_enough : (m : Content) → Long m (length (message_bytes m))
long_enough (propose c t ms) = (36, refl, omega (arith, length-append (tag_bytes t) (progress_bytes ms), length-tag t))
long_enough (prepare c t) = (32, refl, omega (arith, length-append (tag_bytes t) [], length-tag t))
long_enough (commit c t vs) = (36, refl, omega (arith, length-append (tag_bytes t) (certificate_bytes vs), length-tag t))
long_enough (new_view m) =
    let p = report_bytes m.prepared in
    let q = report_bytes (reported m.committed) in
    let t = tag_bytes m.tag in
    let v = certified_bytes m.committed in
    (28, refl, omega (arith, length-append (p ++ q) (t ++ v), length-append p q, length-append t v, length-tag m.tag, report_long m.prepared, report_long (reported m.committed)))

pub shortest : Shortest
shortest = (λ limit b m bytes h. rw (message_only limit b bytes m h).0 (long_enough m), λ h v. (refl, refl, refl, refl))

pub fixes_are_words : FixesAreWords
fixes_are_words = (
  λ v fits. rw (of_z-to_z w32 v.second fits.second, of_z-to_z w32 v.third fits.third),
  λ f east north. rw (to_z-of_z w32 f.longitude east, to_z-of_z w32 f.latitude north),
)
