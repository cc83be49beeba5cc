-- What stands at a place of a packet, where the reading is known to succeed.
use Rattle.std.specs.Prelude.{ℕ, List, [], take, None, Ok, Err, Option, Result}
use Rattle.std.specs.Result.{IsOk}
use Rattle.values.specs.declared.fix.Report.{Report}
use Rattle.wire.specs.declared.words.Malformed.{Malformed}
use Rattle.wire.specs.declared.words.Packet.{Packet}
use Rattle.wire.specs.Contents.{Vote, Certified, Turn}
use Rattle.wire.specs.Layout.{votes_at, certified_at, turn_at, progress_at}

-- the things that were read
abbrev pub read_of : {A : Type 0} → Result (List A × ℕ) Malformed → List A
read_of (Ok p) = p.0
read_of (Err e) = []

-- the thing that was read, if there is one
abbrev pub optional_of : {A : Type 0} → Result (Option A × ℕ) Malformed → Option A
optional_of (Ok p) = p.0
optional_of (Err e) = None

-- so many of the things that were laid into a list
abbrev pub lends : {A E : Type 0} → List A → Result ℕ E → Result (List A) E
lends xs (Ok n) = Ok (take n xs)
lends xs (Err e) = Err e

-- ---- what stands in a packet ----

-- a commit certificate
abbrev pub VotesStand : Packet → ℕ → Type 0
VotesStand p at = IsOk (votes_at p.limit.bytes p.bytes.now at)

abbrev pub votes_in : Packet → ℕ → List Vote
votes_in p at = read_of (votes_at p.limit.bytes p.bytes.now at)

-- that of a reported commit
abbrev pub CertifiedStands : Packet → Option Report → ℕ → Type 0
CertifiedStands p o at = IsOk (certified_at p.limit.bytes p.bytes.now o at)

abbrev pub certified_in : Packet → Option Report → ℕ → Option Certified
certified_in p o at = optional_of (certified_at p.limit.bytes p.bytes.now o at)

-- a new-view, with the place behind it
abbrev pub turn_in : Packet → ℕ → Result (Turn × ℕ) Malformed
turn_in p at = turn_at p.limit.bytes p.bytes.now at

-- a progress certificate
abbrev pub ProgressStands : Packet → ℕ → Type 0
ProgressStands p at = IsOk (progress_at p.limit.bytes p.bytes.now at)

abbrev pub progress_in : Packet → ℕ → List Turn
progress_in p at = read_of (progress_at p.limit.bytes p.bytes.now at)
