-- The draft that a call leaves in out is the one that it is defined to write.
use Rattle.std.proofs.Common.{◌≡◌, ℕ, Bool, true, false, cond, List, ◌++◌, length, take, Ok, refl, sym, ◌∙◌, subst}
use Rattle.std.proofs.lemmas.List.{take_at}
use Rattle.std.specs.Prelude.{◌==◌, drop}
use Rattle.values.specs.Fleets.{recovery_quorum}
use Rattle.wire.specs.declared.statement.Statement.{Statement}
use Rattle.wire.specs.Contents.{Content, propose, prepare, commit, new_view}
use Rattle.packets.proofs.Back.{fronts_apart}
use Rattle.checks.specs.Vouching.{Vouched}
use Rattle.records.specs.Rows.{with_prepare}
use Rattle.records.specs.Books.{Books}
use Rattle.records.specs.Kept.{Membership, Kept}
use Rattle.calls.specs.Effects.{nothing, draft, output_bytes, Effect, holding}
use Rattle.calls.specs.Calls.{Request, hear_content, performed}
use Rattle.calls.specs.Laws.{told_bytes}
use Rattle.calls.proofs.Done.{every}
use Rattle.runs.specs.Runs.{Behaviour, drafting}
use Rattle.runs.specs.Laws.{draft_of, DraftIsInOut, OneStatement}

-- what stands in out is the draft
abbrev Leaves : Request → Effect → Type 0
Leaves r x = (rest : List ℕ) → take (cond (drafting r) (told_bytes x.answer) 0) (output_bytes x.output ++ rest) ≡ draft_of x.output

whole : (b rest : List ℕ) → take (length b) (b ++ rest) ≡ b
whole b rest = take_at b rest (length b) refl

perhaps : (b : Bool) (s : Statement) (attached rest : List ℕ)
    → take (length (output_bytes (cond b (draft s attached) nothing))) (output_bytes (cond b (draft s attached) nothing) ++ rest) ≡ draft_of (cond b (draft s attached) nothing)
perhaps true s attached rest = whole (output_bytes (draft s attached)) rest
perhaps false s attached rest = refl

hear_leaves : (m : Membership) (k : Kept) (books : Books) (packet : List ℕ) (c : Content) (rest : List ℕ)
    → take (told_bytes (hear_content m k books packet c).answer.answer) (output_bytes (hear_content m k books packet c).answer.output ++ rest) ≡ draft_of (hear_content m k books packet c).answer.output
hear_leaves m k books packet (propose c tag ms) rest = whole (output_bytes (hear_content m k books packet (propose c tag ms)).answer.output) rest
hear_leaves m k books packet (prepare c tag) rest = perhaps (holding m (with_prepare k.rows c.head.site c.value).prepares c.value == recovery_quorum m.f m.t) _ _ rest
hear_leaves m k books packet (commit c tag votes) rest = refl
hear_leaves m k books packet (new_view t) rest = refl

pub leaves : (v : Vouched) (m : Membership) (k : Kept) (books : Books) (out : ℕ) (r : Request) (x : Effect) → performed v m k books out r ≡ Ok x → Leaves r x
leaves v m k books out =
    every v m k books out Leaves
    (λ d d' rest. whole _ rest)
    (λ packet c rest. hear_leaves m k books packet c rest)
    (λ view higher rest. whole _ rest)
    (λ written tag bytes rest. refl)
    (λ view bytes told rest. refl)
    (λ rest. refl)

pub draft_is_in_out : DraftIsInOut
draft_is_in_out w e x behaves h =
    let s = w e.site in
    let done = subst (λ (b : Behaviour). b.performs e.check s.member s.kept s.books (length e.out) e.request ≡ Ok x) behaves h in
    rw h (leaves e.check s.member s.kept s.books (length e.out) e.request x done (drop (length (output_bytes x.output)) e.out))

pub one_statement : OneStatement
one_statement w e s s' fits fits' d d' = fronts_apart s s' d.0 d'.0 fits fits' (sym d.1 ∙ d'.1)
