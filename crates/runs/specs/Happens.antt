-- A run that keeps what is assumed, on bytes: the rehearsal of the worked examples, in which a liar is heard, a site decides, and a
-- judge answers later.
use Rattle.std.specs.Prelude.{◌≡◌, ℕ, false, ◌&&◌, List, ◌∷◌, ◌++◌, map, replicate, take, drop, None, Ok, nat_lt}
use Rattle.verdicts.specs.Told.{told_forced}
use Rattle.wire.specs.declared.statement.Statement.TheVariants.{Propose}
use Rattle.wire.specs.Contents.{Content, new_view, statement_bytes, statement_of, tag_of, draft_bytes, message_bytes, progress_bytes}
use Rattle.wire.specs.Layout.{message_of}
use Rattle.checks.specs.Vouching.{Vouched}
use Rattle.checks.specs.Registers.{registered}
use Rattle.agreement.specs.Examples.{e, viewed}
use Rattle.agreement.specs.Sites.{SiteSet}
use Rattle.records.specs.Sizes.{sizes_of}
use Rattle.records.specs.Kept.{Decided, fast, fresh}
use Rattle.calls.specs.Effects.{judged, found, Effect, head_of}
use Rattle.calls.specs.Calls.{Request, to_hear, to_seal, to_judge, to_read, answer_of}
use Rattle.calls.specs.Examples as examples
use Rattle.calls.specs.Examples.{calls, seals, member, empty_books, rehearsal, rehearsed_rows, claim, offer_d, offer_e, lie, preparing, late, third}
use Rattle.runs.specs.Runs.{Behaviour, by_the_rules, World, Event, result, after, Comes, HasDrafted, Run}
use Rattle.runs.specs.Promises.{Reads}

-- of four sites, all but site 0 follow the rules
abbrev pub all_but_0 : SiteSet
all_but_0 i = nat_lt 0 i && nat_lt i 4

-- they are opened in round 9, with a tag limit of 4, and with books of zeros
abbrev pub opened_by : Behaviour → World
opened_by behaviour i = record { behaviour = behaviour; member = member 0 4 i; kept = fresh 9; books = empty_books (sizes_of 1 0 4) }

abbrev pub opened_world : World
opened_world = opened_by by_the_rules

-- a call of site i with this check, and with an out of zeros
abbrev pub called_with : Vouched → ℕ → Request → Event
called_with check i r = record { site = i; request = r; out = replicate (sizes_of 1 0 4).out 0; check = check }

-- a call of the rehearsal: its check is a register
abbrev pub called : ℕ → Request → Event
called i r = called_with (registered rehearsed_rows) i r

-- the call of an event of the worked examples
abbrev pub event_of : examples.Event → Event
event_of (calls i r a) = called i r
event_of (seals i m) = called i (to_seal (draft_bytes m) (tag_of m))

abbrev pub rehearsed : List Event
rehearsed = map event_of rehearsal

-- in one of these calls site i hears this message, which bears the number of site 0, and does not refuse it
abbrev pub Accepted : ℕ → Content → Type 0
Accepted i m =
    (past : List Event) × (x : Event) × (left : Effect)
    × Comes rehearsed past x × (x.site ≡ i) × (x.request ≡ to_hear (message_bytes m))
    × (message_of 4 (message_bytes m) ≡ Ok m) × ((head_of (statement_of m)).site ≡ 0)
    × (result (after opened_world past) x ≡ Ok left)

-- the calls up to that in which site 1 hears the liar's prepare, which is the next, and those after it
abbrev pub before : List Event
before = take 23 rehearsed

abbrev pub behind : List Event
behind = drop 24 rehearsed

-- e, decided at once by four prepares in view 2
abbrev pub decision : Decided
decision = record { report = viewed 2 e; way = fast }

pub record Happens : Type 0 where
  -- the calls keep what is assumed
  pub run : Run 1 0 4 9 all_but_0 opened_world rehearsed
  -- site 0 does not follow the rules, and is heard: it proposes d to site 1, and e to site 3,
  pub liar : all_but_0 0 ≡ false
  pub proposes_d : Accepted 1 offer_d
  pub proposes_e : Accepted 3 offer_e
  -- it tells the leader of view 2 that it prepared e,
  pub lies : Accepted 1 (new_view lie)
  -- prepares e in view 2,
  pub prepares : Accepted 1 (preparing 0 2 e 10)
  -- and shows the leader of view 3 a commit certificate for d, in a new-view that is judged below
  pub shows : Accepted 2 (new_view late)
  -- site 1 decides e, and without that prepare it does not decide
  pub decides : Reads (after opened_world rehearsed) 1 decision
  pub heard_there : rehearsed ≡ before ++ (called 1 (to_hear (message_bytes (preparing 0 2 e 10))) ∷ behind)
  pub without_it : answer_of (result (after opened_world (before ++ behind)) (called 1 to_read)) ≡ Ok (found None)
  -- once site 1 has decided, site 2 is asked about new-views for view 3, one of them the liar's, and answers that e is forced
  pub judges :
      (past : List Event) × (x : Event)
      × Comes rehearsed past x × Reads (after opened_world past) 1 decision
      × (x.site ≡ 2) × (x.request ≡ to_judge 3 (progress_bytes third))
      × (answer_of (result (after opened_world past) x) ≡ Ok (judged (told_forced 1 e 2)))
  -- and site 2 has proposed e in view 3, where the rehearsal hands it d
  pub keeps : HasDrafted opened_world rehearsed 2 (statement_bytes (Propose (claim 2 3 e)))
