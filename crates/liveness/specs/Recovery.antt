-- Chosen sites that meet in a view and hear one another there are found with a decision.
use Rattle.std.specs.Prelude.{◌≡◌, ◌≢◌, ℕ, suc, ◌<◌, ◌≤◌, ◌⊎◌, true, List, ◌∷◌, ◌++◌, length, take, drop, Ok}
use Rattle.values.specs.declared.fix.Value.{Value}
use Rattle.values.specs.Fleets.{sites, fast_quorum, progress_quorum, leader_of}
use Rattle.values.specs.Fixes.{legal_value}
use Rattle.wire.specs.declared.statement.Statement.{Statement}
use Rattle.wire.specs.Contents.{kind_of, statement_bytes}
use Rattle.packets.specs.Fits.{StatementFits}
use Rattle.agreement.specs.Sites.{SiteSet, size}
use Rattle.certificates.specs.Steps.{granted}
use Rattle.records.specs.Kept.{Decided}
use Rattle.calls.specs.Effects.{Effect, head_of}
use Rattle.calls.specs.Calls.{Request, to_propose, to_hear, to_leave}
use Rattle.calls.specs.Laws.{KeepsTo, Room}
use Rattle.runs.specs.Runs.{Behaviour, by_the_rules, World, Event, result, questions, draft_left, after}
use Rattle.runs.specs.Promises.{Reads, InEveryRunBy, InEveryRun}
use Rattle.liveness.specs.Sealing.{sealed}

-- ---- calls by their numbers ----

-- e is call number p of the list: p calls come before it
abbrev pub At : List Event → ℕ → Event → Type 0
At es p e = (rest : List Event) × (drop p es ≡ e ∷ rest)

-- the checks are in accord: whatever a call asked and was told yes, the check of each later call says yes to, at the same site and
-- at any other
abbrev pub Accord : World → List Event → Type 0
Accord w es =
    (p q : ℕ) (e later : Event) → At es p e → At es q later → p < q
    → KeepsTo later.check e.check (questions (after w (take p es)) e)

-- the kinds of statements, by their numbers
abbrev pub proposals : ℕ
proposals = 1

abbrev pub prepares : ℕ
prepares = 2

abbrev pub commits : ℕ
commits = 3

abbrev pub new_views : ℕ
new_views = 4

module _ (w : World) (es : List Event) where
  -- the sites when p calls are made
  abbrev pub before : ℕ → World
  before p = after w (take p es)

  -- call number p is one of site i, with this request
  pub record CallOf (p i : ℕ) (r : Request) : Type 0 where
    pub call : Event
    pub at : At es p call
    pub by : call.site ≡ i
    pub request : call.request ≡ r

  -- it is not refused
  abbrev pub NotRefused : ℕ → Event → Type 0
  NotRefused p e = (x : Effect) × (result (before p) e ≡ Ok x)

  -- the books and the out that it is lent are long enough
  abbrev pub Roomy : ℕ → Event → Type 0
  Roomy p e = Room (before p e.site).member (before p e.site).books (length e.out)

  -- ---- in which view a site is ----

  -- call number p of site i leaves for the view, and is not refused
  pub record Leaves (p i view : ℕ) : Type 0 where
    pub calls : CallOf p i (to_leave view)
    pub done : NotRefused p calls.call

  -- site i enters the view: its leave for it is the last of the first `entered` calls; in the first view it is opened
  abbrev pub Enters : ℕ → ℕ → ℕ → Type 0
  Enters i view entered = ((p : ℕ) × (suc p ≡ entered) × Leaves p i view) ⊎ ((view ≡ 1) × (entered ≡ 0))

  -- from call number low on and before call number high, no leave of site i goes through
  abbrev pub Stays : ℕ → ℕ → ℕ → Type 0
  Stays i low high = (p view : ℕ) → low ≤ p → p < high → Leaves p i view → ⊥

  -- ---- drafting and hearing ----

  -- call number p of site i drafts a statement of this kind in this view
  pub record Drafting (kind view i p : ℕ) : Type 0 where
    pub call : Event
    pub at : At es p call
    pub by : call.site ≡ i
    pub said : Statement
    pub attached : List ℕ
    pub draft : draft_left (before p) call ≡ statement_bytes said ++ attached
    pub fits : StatementFits said
    pub kind_is : kind_of said ≡ kind
    pub view_is : (head_of said).view ≡ view

  -- one of the first n calls does so
  abbrev pub DraftedBy : ℕ → ℕ → ℕ → ℕ → Type 0
  DraftedBy kind view i n = (p : ℕ) × (p < n) × Drafting kind view i p

  -- call number q of site j hears this statement of site i with its attachment, sealed with some tag; what it is lent is long
  -- enough, and its check vouches for the tag
  pub record Hears (q j i : ℕ) (said : Statement) (attached : List ℕ) : Type 0 where
    pub tag : List ℕ
    pub short : length tag ≤ (before q j).member.limit
    pub calls : CallOf q j (to_hear (sealed said attached tag))
    pub roomy : Roomy q calls.call
    pub vouched : granted calls.call.check (record { site = i; said = said; tag = tag }) ≡ true

  -- Whatever site i drafts of this kind in this view with the first n calls, site j hears: after that, from call number low on,
  -- and before call number high. If nothing is drafted, there is nothing to hear.
  abbrev pub HearsAll : ℕ → ℕ → ℕ → ℕ → ℕ → ℕ → ℕ → Type 0
  HearsAll kind view i n j low high =
      (p : ℕ) → p < n → (d : Drafting kind view i p) → (q : ℕ) × (p < q) × (low ≤ q) × (q < high) × Hears q j i d.said d.attached

-- ---- a meeting in a view ----

-- the moments of a meeting: each is how many calls of the whole list are made by then
pub record Times : Type 0 where
  -- site i has entered the view
  pub entered : ℕ → ℕ
  -- the leader has proposed
  pub proposed : ℕ
  -- site i has heard the proposal
  pub proposal_heard : ℕ → ℕ
  -- it has heard the prepares of all
  pub prepares_heard : ℕ → ℕ
  -- it has heard the commits of all
  pub commits_heard : ℕ → ℕ

module _ (f t : ℕ) (w : World) (es : List Event) (good chosen : SiteSet) (view : ℕ) (times : Times) where
  abbrev pub leader : ℕ
  leader = leader_of (sites f t) view

  -- the leader may propose with call number p: what it is handed is a legal fix, what it is lent is long enough, and in the view it
  -- has heard the new-views of all chosen sites (in the first view there are none)
  pub record Due (p : ℕ) (e : Event) (value : Value) : Type 0 where
    pub legal : legal_value value ≡ true
    pub roomy : Roomy w es p e
    pub hears_new_views : (i : ℕ) → chosen i ≡ true → HearsAll w es new_views view i (times.entered i) leader (times.entered leader) p

  -- the last of the first `proposed` calls is a propose of the leader, in the view; it is not refused, or it is due
  pub record Proposes : Type 0 where
    pub number : ℕ
    pub last : suc number ≡ times.proposed
    pub value : Value
    pub calls : CallOf w es number leader (to_propose value)
    pub entered : times.entered leader ≤ number
    pub due : NotRefused w es number calls.call ⊎ Due number calls.call value

  -- The chosen sites enter the view, which one of them leads. The leader proposes. Each hears the proposal, and the prepares of all.
  -- None leaves again before `until i` calls are made, and by then it has heard all this.
  pub record Meeting (until : ℕ → ℕ) : Type 0 where
    pub follow : (i : ℕ) → chosen i ≡ true → good i ≡ true
    pub led : chosen leader ≡ true
    pub enter : (i : ℕ) → chosen i ≡ true → Enters w es i view (times.entered i)
    pub stay : (i : ℕ) → chosen i ≡ true → Stays w es i (times.entered i) (until i)
    pub proposes : Proposes
    pub proposes_then : times.proposed ≤ until leader
    pub hear_proposal : (i : ℕ) → chosen i ≡ true → HearsAll w es proposals view leader times.proposed i (times.entered i) (times.proposal_heard i)
    pub proposal_then : (i : ℕ) → chosen i ≡ true → times.proposal_heard i ≤ until i
    pub hear_prepares : (i j : ℕ) → chosen i ≡ true → chosen j ≡ true → HearsAll w es prepares view i (times.proposal_heard i) j (times.entered j) (times.prepares_heard j)
    pub prepares_then : (i : ℕ) → chosen i ≡ true → times.prepares_heard i ≤ until i

  -- each hears the commits of all
  abbrev pub HearCommits : Type 0
  HearCommits = (i j : ℕ) → chosen i ≡ true → chosen j ≡ true → HearsAll w es commits view i (times.prepares_heard i) j (times.entered j) (times.commits_heard j)

  -- what is drafted in time: there is something to hear
  pub record DraftedInTime : Type 0 where
    pub new_views_are : (i : ℕ) → chosen i ≡ true → view ≢ 1 → DraftedBy w es new_views view i (times.entered i)
    pub proposal_is : DraftedBy w es proposals view leader times.proposed
    pub prepares_are : (i : ℕ) → chosen i ≡ true → DraftedBy w es prepares view i (times.proposal_heard i)

  abbrev pub CommitsDraftedInTime : Type 0
  CommitsDraftedInTime = (i : ℕ) → chosen i ≡ true → DraftedBy w es commits view i (times.prepares_heard i)

  -- when `then i` calls of the list are made, read gives a decision at site i: so for each chosen site
  abbrev pub Found : (ℕ → ℕ) → Type 0
  Found then = (i : ℕ) → chosen i ≡ true → (x : Decided) × Reads (before w es (then i)) i x

-- ---- the promises ----

-- at least n - f chosen sites that meet in a view and hear the commits of all: each is found with a decision once it has heard
-- these
abbrev pub ChosenRecoverBy : Behaviour → Type 0
ChosenRecoverBy rules =
    InEveryRunBy rules (λ f t limit round good w es.
    Accord w es
    → (chosen : SiteSet) (view : ℕ) (times : Times) → progress_quorum f t ≤ size chosen (sites f t)
    → Meeting f t w es good chosen view times times.commits_heard
    → HearCommits f t w es good chosen view times
    → DraftedInTime f t w es good chosen view times
    × CommitsDraftedInTime f t w es good chosen view times
    × Found f t w es good chosen view times times.commits_heard)

abbrev pub ChosenRecover : Type 0
ChosenRecover = ChosenRecoverBy by_the_rules

-- at least n - t chosen sites that meet in a view: each is found with a decision once it has heard the prepares of all
abbrev pub ChosenDecideFast : Type 0
ChosenDecideFast =
    InEveryRun (λ f t limit round good w es.
    Accord w es
    → (chosen : SiteSet) (view : ℕ) (times : Times) → fast_quorum f t ≤ size chosen (sites f t)
    → Meeting f t w es good chosen view times times.prepares_heard
    → DraftedInTime f t w es good chosen view times
    × Found f t w es good chosen view times times.prepares_heard)
