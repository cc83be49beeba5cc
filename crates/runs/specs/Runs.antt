-- Runs: calls at the sites that follow the rules, in the order of time.
use Rattle.std.specs.Prelude.{◌≡◌, ℕ, ◌^◌, ◌<◌, ◌≤◌, Bool, true, false, cond, List, [], ◌∷◌, ◌++◌, length, take, Ok, Err, Result, ◌==◌}
use Rattle.buffers.specs.Words.{Bytes}
use Rattle.values.specs.Fleets.{sites}
use Rattle.values.specs.Refusals.{Refused}
use Rattle.wire.specs.Contents.{statement_bytes}
use Rattle.packets.specs.Fits.{ValueFits}
use Rattle.checks.specs.Vouching.{Vouched}
use Rattle.agreement.specs.Sites.{SiteSet, size, all_but}
use Rattle.agreement.specs.Statements.{Each}
use Rattle.certificates.specs.Steps.{Question, granted}
use Rattle.records.specs.Books.{Books}
use Rattle.records.specs.Kept.{Membership, Kept, opening}
use Rattle.calls.specs.Effects.{Answer, Effect}
use Rattle.calls.specs.Calls.{Request, to_propose, to_hear, to_leave, to_seal, to_judge, to_read, performed, asks, answer_of, kept_after, books_after, out_after}
use Rattle.calls.specs.Laws.{told_bytes}

-- ---- sites and calls ----

-- how a site behaves: what comes of a call, and what it asks its check
pub record Behaviour : Type 0 where
  pub performs : Vouched → Membership → Kept → Books → ℕ → Request → Result Effect Refused
  pub asks : Vouched → Membership → Kept → Books → ℕ → Request → List Question

-- as the calls are defined
abbrev pub by_the_rules : Behaviour
by_the_rules = record { performs = performed; asks = asks }

-- a site: how it behaves, who it is, what it keeps of its round, and its books
pub record Site : Type 0 where
  pub behaviour : Behaviour
  pub member : Membership
  pub kept : Kept
  pub books : Books

-- the sites, by their numbers
abbrev pub World : Type 0
World = ℕ → Site

-- a call: the number of the site, what the call is handed, its out, and what its check is at that moment
pub record Event : Type 0 where
  pub site : ℕ
  pub request : Request
  pub out : List ℕ
  pub check : Vouched

-- propose, hear and leave draft
abbrev pub drafting : Request → Bool
drafting (to_propose d) = true
drafting (to_hear packet) = true
drafting (to_leave view) = true
drafting (to_seal written tag) = false
drafting (to_judge view certificate) = false
drafting to_read = false

-- how many bytes of out are a draft, by what the call answers
abbrev pub draft_length : Request → Result Answer Refused → ℕ
draft_length r (Ok a) = cond (drafting r) (told_bytes a) 0
draft_length r (Err e) = 0

module _ (w : World) (e : Event) where
  -- the refusal, or what the call leaves
  abbrev pub result : Result Effect Refused
  result = (w e.site).behaviour.performs e.check (w e.site).member (w e.site).kept (w e.site).books (length e.out) e.request

  -- what it asks its check
  abbrev pub questions : List Question
  questions = (w e.site).behaviour.asks e.check (w e.site).member (w e.site).kept (w e.site).books (length e.out) e.request

  -- the draft that it leaves in out: none, if it is refused or drafts nothing
  abbrev pub draft_left : List ℕ
  draft_left = take (draft_length e.request (answer_of result)) (out_after e.out result)

  -- it drafts a statement of these bytes: the draft begins with them
  abbrev pub Drafts : List ℕ → Type 0
  Drafts said = (attached : List ℕ) × (draft_left ≡ said ++ attached)

  -- what it leaves of its site
  abbrev pub left : Site
  left =
      record {
        behaviour = (w e.site).behaviour;
        member = (w e.site).member;
        kept = kept_after (w e.site).kept result;
        books = books_after (w e.site).books result;
      }

  -- and the sites after it: no other changes
  abbrev pub next : World
  next i = cond (i == e.site) left (w i)

-- ---- lists of calls ----

-- the sites after a list of calls, refused ones and others
abbrev pub after : World → List Event → World
after w [] = w
after w (e ∷ es) = after (next w e) es

-- in a list of calls, the call e comes after the calls `past`
abbrev pub Comes : List Event → List Event → Event → Type 0
Comes es past e = (rest : List Event) × (es ≡ past ++ (e ∷ rest))

-- in these calls, the site has drafted a statement of these bytes
abbrev pub HasDrafted : World → List Event → ℕ → List ℕ → Type 0
HasDrafted w es i said = (past : List Event) × (e : Event) × Comes es past e × (e.site ≡ i) × Drafts (after w past) e said

-- each time that a call asked about a statement of a rule-following site and was told yes, that site had drafted just these bytes
-- in a call before
abbrev pub NothingForged : SiteSet → World → List Event → Type 0
NothingForged good w es =
    (past : List Event) (e : Event) → Comes es past e
    → Each (λ q. granted e.check q ≡ true → good q.site ≡ true → HasDrafted w past q.site (statement_bytes q.said)) (questions (after w past) e)

-- ---- runs ----

-- what is handed in are words and bytes
abbrev pub OfWords : Request → Type 0
OfWords (to_propose d) = ValueFits d
OfWords (to_hear packet) = Bytes packet
OfWords (to_leave view) = view < 2 ^ 32
OfWords (to_seal written tag) = Bytes written × Bytes tag
OfWords (to_judge view certificate) = (view < 2 ^ 32) × Bytes certificate
OfWords to_read = Unit {0}

abbrev pub BooksOfBytes : Books → Type 0
BooksOfBytes books = Bytes books.tags × Bytes books.certificate × Bytes books.views

-- a run of sites that behave so: `good` are the sites that follow the rules, w is how they stood when they were opened, and es is
-- what was called since
pub record RunBy (rules : Behaviour) (f t limit round : ℕ) (good : SiteSet) (w : World) (es : List Event) : Type 0 where
  -- at most f sites of the fleet are not among them
  pub few : size (all_but good) (sites f t) ≤ f
  pub round_is : round < 2 ^ 32
  -- these behave so
  pub behave : (i : ℕ) → good i ≡ true → (w i).behaviour ≡ rules
  -- they were opened alike, each under its own number, with books of any bytes
  pub opened : (i : ℕ) → good i ≡ true → opening f t i limit round ≡ Ok ((w i).member, (w i).kept)
  pub books : (i : ℕ) → good i ≡ true → BooksOfBytes (w i).books
  -- the calls are theirs
  pub theirs : Each (λ (e : Event). good e.site ≡ true) es
  pub of_words : Each (λ (e : Event). OfWords e.request) es
  -- and they were told of nothing forged
  pub unforged : NothingForged good w es

-- a run of the sites as they are defined
abbrev pub Run : (f t limit round : ℕ) → SiteSet → World → List Event → Type 0
Run f t limit round good w es = RunBy by_the_rules f t limit round good w es
