-- What is wrong in a certificate: the number of the cause, and the place.
use Rattle.std.specs.Prelude.{ℕ, ◌+◌, [], ◌∷◌, Ok, Err, Result}
use Rattle.values.specs.Refusals.{cause_number, Refused, layout, bad_certificate}
use Rattle.certificates.specs.declared.fault.Fault.{Fault}
use Rattle.certificates.specs.declared.fault.CommitFault.{CommitFault}
use Rattle.certificates.specs.declared.fault.CommitFault.TheVariants as commit
use Rattle.certificates.specs.declared.fault.EntryFault.{EntryFault}
use Rattle.certificates.specs.declared.fault.EntryFault.TheVariants as entry

pub record Faulted : Type 0 where
  pub cause : ℕ
  pub place : ℕ

-- the causes
abbrev pub bad_count : ℕ → Faulted
bad_count place = record { cause = 1; place = place }

abbrev pub other_round : ℕ → Faulted
other_round place = record { cause = 2; place = place }

abbrev pub other_view : ℕ → Faulted
other_view place = record { cause = 3; place = place }

abbrev pub other_site : ℕ → Faulted
other_site place = record { cause = 4; place = place }

abbrev pub illegal_fix : ℕ → Faulted
illegal_fix place = record { cause = 5; place = place }

abbrev pub bad_tag : ℕ → Faulted
bad_tag place = record { cause = 6; place = place }

-- as a refusal: depth 1, or 2 in a certificate inside another
abbrev pub at_depth : ℕ → Faulted → Refused
at_depth depth e = bad_certificate e.place e.cause depth

-- of a message that is heard, causes 2 to 6 have the numbers 4 to 8
abbrev pub in_message : Faulted → Refused
in_message e = record { number = e.cause + 2; values = e.place ∷ [] }

abbrev pub fault_told : Fault → Faulted
fault_told e = record { cause = cause_number e.cause; place = e.place }

abbrev pub commit_told : ℕ → CommitFault → Refused
commit_told depth (commit.Malformed e) = layout e.place
commit_told depth (commit.Fault e) = at_depth depth (fault_told e)

abbrev pub entry_told : EntryFault → Refused
entry_told (entry.Malformed e) = layout e.place
entry_told (entry.Fault e) = at_depth 1 (fault_told e)
entry_told (entry.Certificate e) = commit_told 2 e

-- a result, with its fault seen by g
abbrev pub failing : {A E F : Type 0} → (E → F) → Result A E → Result A F
failing g (Ok x) = Ok x
failing g (Err e) = Err (g e)
