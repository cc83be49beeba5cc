-- Each refusal, as the number and the values that callers are told.
use Rattle.std.specs.Prelude.{ℕ, ◌+◌, List, [], ◌∷◌, ◌++◌, codes, decimal, Some, None, Ok, Err, Option, Result}
use Rattle.values.specs.declared.refusal.Cause.{Cause}
use Rattle.values.specs.declared.refusal.Cause.TheVariants.{Count, Round, View, Site, Fix, Tag}
use Rattle.values.specs.declared.refusal.Refusal.{Refusal}
use Rattle.values.specs.declared.refusal.Refusal.TheVariants.{Limits, Short, Layout, OtherRound, WrongView, WrongSite, IllegalFix, BadTag, Repeated, Equivocation, Gathered, BadCertificate, MayNotPropose, Conflict, NotForced, NotHigher}

-- a refusal's number, and the values that go with it
pub record Refused : Type 0 where
  pub number : ℕ
  pub values : List ℕ

-- outside the limits of a fleet or of a tag, or no site's number
abbrev pub limits : Refused
limits = record { number = 1; values = [] }

-- a lent buffer is too short
abbrev pub short : Refused
short = record { number = 2; values = [] }

-- the layout is broken at a place
abbrev pub layout : ℕ → Refused
layout place = record { number = 3; values = place ∷ [] }

-- the round at a place is another
abbrev pub other_round : ℕ → Refused
other_round place = record { number = 4; values = place ∷ [] }

-- the view at a place is not one that it may be
abbrev pub wrong_view : ℕ → Refused
wrong_view place = record { number = 5; values = place ∷ [] }

-- the site at a place is not one that it may be
abbrev pub wrong_site : ℕ → Refused
wrong_site place = record { number = 6; values = place ∷ [] }

-- the fix at a place is illegal
abbrev pub illegal : ℕ → Refused
illegal place = record { number = 7; values = place ∷ [] }

-- a message's own tag, at a place, is not vouched for
abbrev pub bad_tag : ℕ → Refused
bad_tag place = record { number = 8; values = place ∷ [] }

-- prepared in this view already; or the sender's row is filled, with the same value or with a new-view
abbrev pub repeated : Refused
repeated = record { number = 9; values = [] }

-- the sender's row holds another fix
abbrev pub equivocation : Refused
equivocation = record { number = 10; values = [] }

-- a progress quorum of new-views is gathered already
abbrev pub gathered_already : Refused
gathered_already = record { number = 11; values = [] }

-- a certificate is bad at a place, for a cause; the depth is 1, or 2 in a certificate inside another
abbrev pub bad_certificate : ℕ → ℕ → ℕ → Refused
bad_certificate place cause depth = record { number = 12; values = place ∷ cause ∷ depth ∷ [] }

-- not the leader, proposed already, or too few new-views gathered
abbrev pub may_not_propose : Refused
may_not_propose = record { number = 13; values = [] }

-- two fixes are certified in the highest view that has a commit certificate
abbrev pub conflicting : Refused
conflicting = record { number = 14; values = [] }

-- a proposal of another fix than the one that its certificate forces
abbrev pub not_forced : Refused
not_forced = record { number = 15; values = [] }

-- leaving for a view that is not higher
abbrev pub not_higher : Refused
not_higher = record { number = 16; values = [] }

abbrev pub cause_number : Cause → ℕ
cause_number Count = 1
cause_number Round = 2
cause_number View = 3
cause_number Site = 4
cause_number Fix = 5
cause_number Tag = 6

abbrev pub refused_as : Refusal → Refused
refused_as Limits = limits
refused_as Short = short
refused_as (Layout place) = layout place
refused_as (OtherRound place) = other_round place
refused_as (WrongView place) = wrong_view place
refused_as (WrongSite place) = wrong_site place
refused_as (IllegalFix place) = illegal place
refused_as (BadTag place) = bad_tag place
refused_as Repeated = repeated
refused_as Equivocation = equivocation
refused_as Gathered = gathered_already
refused_as (BadCertificate place cause depth) = bad_certificate place (cause_number cause) depth
refused_as MayNotPropose = may_not_propose
refused_as Conflict = conflicting
refused_as NotForced = not_forced
refused_as NotHigher = not_higher

-- an answer as callers are told it, with the value seen by f
abbrev pub answered : {A B : Type 0} → (A → B) → Result A Refusal → Result B Refused
answered f (Ok x) = Ok (f x)
answered f (Err e) = Err (refused_as e)

-- the place is the first of a refusal's values, if it has any
abbrev pub first_of : List ℕ → Option ℕ
first_of [] = None
first_of (x ∷ xs) = Some x

-- a refusal's values, with the place counted from so many bytes earlier: nothing changes where there are none
abbrev pub moved_values : ℕ → List ℕ → List ℕ
moved_values by [] = []
moved_values by (x ∷ xs) = (by + x) ∷ xs

-- the same refusal, with its place counted from so many bytes earlier
abbrev pub moved : ℕ → Refused → Refused
moved by r = record { number = r.number; values = moved_values by r.values }

-- how a refusal is printed: its number, and each of its values behind what it is
abbrev pub value_names : List (List ℕ)
value_names = codes " at " ∷ codes ", cause " ∷ codes ", depth " ∷ []

abbrev pub values_text : List (List ℕ) → List ℕ → List ℕ
values_text (name ∷ names) (x ∷ xs) = name ++ (decimal x ++ values_text names xs)
values_text (name ∷ names) [] = []
values_text [] xs = []

abbrev pub refusal_text : Refused → List ℕ
refusal_text r = codes "refused with " ++ (decimal r.number ++ values_text value_names r.values)
