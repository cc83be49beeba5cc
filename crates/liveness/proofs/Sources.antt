-- Which call drafts which kind of statement.
use Rattle.std.proofs.Common.{◌≡◌, ℕ, zero, suc, Bool, true, false, cond, List, Ok, refl, sym, ap, ◌∙◌, subst}
use Rattle.std.specs.Prelude.{◌==◌}
use Rattle.values.specs.declared.fix.Value.{Value}
use Rattle.values.specs.Fleets.{recovery_quorum}
use Rattle.wire.specs.declared.statement.Claim.{Claim}
use Rattle.wire.specs.declared.statement.ViewChange.{ViewChange}
use Rattle.wire.specs.declared.statement.Statement.{Statement}
use Rattle.wire.specs.declared.statement.Statement.TheVariants.{Propose, Prepare, Commit, NewView}
use Rattle.wire.specs.Contents.{kind_of, Vote, Turn, Content, propose, prepare, commit, new_view, statement_of}
use Rattle.wire.specs.Layout.{message_of}
use Rattle.checks.specs.Vouching.{Vouched}
use Rattle.records.specs.Rows.{with_prepare}
use Rattle.records.specs.Books.{Books}
use Rattle.records.specs.Kept.{Membership, Kept}
use Rattle.calls.specs.Effects.{Output, nothing, draft, message, Effect, holding}
use Rattle.calls.specs.Calls.{Request, to_propose, to_hear, to_leave, to_seal, to_judge, to_read, hear_content, judging_call, read_call, performed}
use Rattle.calls.proofs.Done.{done_ok, propose_done, hear_done, leave_done, seal_done}

-- ---- statements and contents by their kinds ----

-- what is so of a proposal, of a prepare, of a commit and of a new-view, by the number of the kind
abbrev ByKind : Type 0 → Type 0 → Type 0 → Type 0 → ℕ → Type 0
ByKind P Q R S (suc zero) = P
ByKind P Q R S (suc (suc zero)) = Q
ByKind P Q R S (suc (suc (suc zero))) = R
ByKind P Q R S (suc (suc (suc (suc zero)))) = S
ByKind P Q R S n = Unit {0}

-- a statement of this kind
abbrev OfKind : Statement → ℕ → Type 0
OfKind s = ByKind ((c : Claim) × (s ≡ Propose c)) ((c : Claim) × (s ≡ Prepare c)) ((c : Claim) × (s ≡ Commit c)) ((c : ViewChange) × (s ≡ NewView c))

own_kind : (s : Statement) → OfKind s (kind_of s)
own_kind (Propose c) = (c, refl)
own_kind (Prepare c) = (c, refl)
own_kind (Commit c) = (c, refl)
own_kind (NewView c) = (c, refl)

pub of_kind : (n : ℕ) (s : Statement) → kind_of s ≡ n → OfKind s n
of_kind n s h = subst (OfKind s) h (own_kind s)

-- a content with a statement of this kind
abbrev Holds : Content → ℕ → Type 0
Holds c = ByKind
    ((x : Claim) × (tag : List ℕ) × (ms : List Turn) × (c ≡ propose x tag ms))
    ((x : Claim) × (tag : List ℕ) × (c ≡ prepare x tag))
    ((x : Claim) × (tag : List ℕ) × (votes : List Vote) × (c ≡ commit x tag votes))
    ((x : Turn) × (c ≡ new_view x))

own_holds : (c : Content) → Holds c (kind_of (statement_of c))
own_holds (propose x tag ms) = (x, tag, ms, refl)
own_holds (prepare x tag) = (x, tag, refl)
own_holds (commit x tag votes) = (x, tag, votes, refl)
own_holds (new_view x) = (x, refl)

pub holds : (n : ℕ) (c : Content) → kind_of (statement_of c) ≡ n → Holds c n
holds n c h = subst (Holds c) h (own_holds c)

-- ---- calls ----

-- the kind of what is drafted, 0 for no draft
abbrev drafted_kind : Output → ℕ
drafted_kind nothing = 0
drafted_kind (draft s attached) = kind_of s
drafted_kind (message b) = 0

-- the call that drafts a statement of this kind: propose a proposal, the hear of a proposal a prepare, the hear of a prepare a
-- commit, leave a new-view
abbrev pub Source : ℕ → Request → ℕ → Type 0
Source limit r = ByKind
    ((d : Value) × (r ≡ to_propose d))
    ((packet : List ℕ) × (c : Claim) × (tag : List ℕ) × (ms : List Turn) × (r ≡ to_hear packet) × (message_of limit packet ≡ Ok (propose c tag ms)))
    ((packet : List ℕ) × (c : Claim) × (tag : List ℕ) × (r ≡ to_hear packet) × (message_of limit packet ≡ Ok (prepare c tag)))
    ((view : ℕ) × (r ≡ to_leave view))

module _ (v : Vouched) (m : Membership) (k : Kept) (books : Books) (out : ℕ) where
  heard_prepare : (packet : List ℕ) (c : Claim) (tag : List ℕ) → message_of m.limit packet ≡ Ok (prepare c tag) → (b : Bool) (d : Claim) (attached : List ℕ)
      → Source m.limit (to_hear packet) (drafted_kind (cond b (draft (Commit d) attached) nothing))
  heard_prepare packet c tag read true d attached = (packet, c, tag, refl, read)
  heard_prepare packet c tag read false d attached = tt

  heard : (packet : List ℕ) (c : Content) → message_of m.limit packet ≡ Ok c → Source m.limit (to_hear packet) (drafted_kind (hear_content m k books packet c).answer.output)
  heard packet (propose c tag ms) read = (packet, c, tag, ms, refl, read)
  heard packet (prepare c tag) read = heard_prepare packet c tag read (holding m (with_prepare k.rows c.head.site c.value).prepares c.value == recovery_quorum m.f m.t) _ _
  heard packet (commit c tag votes) read = tt
  heard packet (new_view t) read = tt

  abbrev Drafts : Request → Effect → Type 0
  Drafts r x = Source m.limit r (drafted_kind x.output)

  source : (r : Request) (x : Effect) → performed v m k books out r ≡ Ok x → Drafts r x
  source (to_propose d) x h = let p = propose_done v m k books out d x h in subst (Drafts (to_propose d)) (sym p.is) (d, refl)
  source (to_hear packet) x h = let p = hear_done v m k books out packet x h in subst (Drafts (to_hear packet)) (sym p.is) (heard packet p.content p.read)
  source (to_leave view) x h = let p = leave_done v m k books out view x h in subst (Drafts (to_leave view)) (sym p.is) (view, refl)
  source (to_seal written tag) x h = let p = seal_done v m k books out written tag x h in subst (Drafts (to_seal written tag)) (sym p.is) tt
  source (to_judge view certificate) x h = let p = done_ok v (judging_call m k books view certificate) x h in subst (Drafts (to_judge view certificate)) (sym p.1) tt
  source to_read x h = let p = done_ok v (read_call m k books) x h in subst (Drafts to_read) (sym p.1) tt

  pub drafted_by : (n : ℕ) (r : Request) (x : Effect) → performed v m k books out r ≡ Ok x → (s : Statement) (attached : List ℕ) → x.output ≡ draft s attached → kind_of s ≡ n → Source m.limit r n
  drafted_by n r x h s attached drafts is = subst (Source m.limit r) (ap drafted_kind drafts ∙ is) (source r x h)
