-- What stands at a place of a packet, and the earliest fault of its layout.
use Rattle.std.specs.Prelude.{ℕ, zero, suc, ◌+◌, ◌-◌, Bool, cond, ◌&&◌, List, [], ◌∷◌, length, take, drop, Some, None, Ok, Option, Result, ◌==◌, nat_le}
use Rattle.std.specs.List.{list_all}
use Rattle.values.specs.declared.fix.Value.{Value}
use Rattle.values.specs.declared.fix.Report.{Report}
use Rattle.wire.specs.declared.words.Malformed.{Malformed}
use Rattle.wire.specs.declared.statement.Head.{Head}
use Rattle.wire.specs.declared.statement.Claim.{Claim}
use Rattle.wire.specs.declared.statement.ViewChange.{ViewChange}
use Rattle.wire.specs.Words.{bind, fault, word_at}
use Rattle.wire.specs.Contents.{padded, Vote, Certified, Turn, Content, propose, prepare, commit, new_view}

-- ---- statements ----

abbrev pub three_at : {A : Type 0} → (ℕ → ℕ → ℕ → A) → List ℕ → ℕ → Result A Malformed
three_at make b at =
    bind (word_at b at) (λ x.
    bind (word_at b (at + 4)) (λ y.
    bind (word_at b (at + 8)) (λ z.
    Ok (make x y z))))

abbrev pub value_at : List ℕ → ℕ → Result Value Malformed
value_at = three_at (λ x y z. record { first = x; second = y; third = z })

abbrev pub head_at : List ℕ → ℕ → Result Head Malformed
head_at = three_at (λ x y z. record { round = x; view = y; site = z })

-- a bool, and the view and value that a 1 announces; with the place behind
abbrev pub report_by : List ℕ → ℕ → ℕ → Result (Option Report × ℕ) Malformed
report_by b at zero = Ok (None, at + 4)
report_by b at (suc zero) =
    bind (word_at b (at + 4)) (λ v.
    bind (value_at b (at + 8)) (λ d.
    Ok (Some (record { view = v; value = d }), at + 20)))
report_by b at (suc (suc n)) = fault at

abbrev pub report_at : List ℕ → ℕ → Result (Option Report × ℕ) Malformed
report_at b at = bind (word_at b at) (report_by b at)

abbrev pub claim_at : List ℕ → ℕ → Result (Claim × ℕ) Malformed
claim_at b at =
    bind (head_at b at) (λ h.
    bind (value_at b (at + 12)) (λ d.
    Ok (record { head = h; value = d }, at + 24)))

abbrev pub change_at : List ℕ → ℕ → Result (ViewChange × ℕ) Malformed
change_at b at =
    bind (head_at b at) (λ h.
    bind (report_at b (at + 12)) (λ p.
    bind (report_at b p.1) (λ q.
    Ok (record { head = h; prepared = p.0; committed = q.0 }, q.1))))

-- ---- tags and certificates ----

abbrev pub zeros : List ℕ → Bool
zeros b = list_all (λ x. x == 0) b

-- every fault of a tag is at its length word
abbrev pub tag_by : ℕ → List ℕ → ℕ → ℕ → Result (List ℕ × ℕ) Malformed
tag_by limit b at n =
    cond (nat_le n limit && nat_le (at + 4 + padded n) (length b) && zeros (take (padded n - n) (drop (at + 4 + n) b)))
    (Ok (take n (drop (at + 4) b), at + 4 + padded n))
    (fault at)

abbrev pub tag_at : ℕ → List ℕ → ℕ → Result (List ℕ × ℕ) Malformed
tag_at limit b at = bind (word_at b at) (tag_by limit b at)

-- so many things one after another, each with the place behind it
abbrev pub many_at : {A : Type 0} → (ℕ → Result (A × ℕ) Malformed) → ℕ → ℕ → Result (List A × ℕ) Malformed
many_at one zero at = Ok ([], at)
many_at one (suc n) at =
    bind (one at) (λ p.
    bind (many_at one n p.1) (λ q.
    Ok (p.0 ∷ q.0, q.1)))

-- a count word: up to 16
abbrev pub count_at : List ℕ → ℕ → Result ℕ Malformed
count_at b at = bind (word_at b at) (λ n. cond (nat_le n 16) (Ok n) (fault at))

-- a count word, and so many things
abbrev pub counted_at : {A : Type 0} → (ℕ → Result (A × ℕ) Malformed) → List ℕ → ℕ → Result (List A × ℕ) Malformed
counted_at one b at = bind (count_at b at) (λ n. many_at one n (at + 4))

abbrev pub vote_at : ℕ → List ℕ → ℕ → Result (Vote × ℕ) Malformed
vote_at limit b at =
    bind (word_at b at) (λ s.
    bind (tag_at limit b (at + 4)) (λ t.
    Ok (record { site = s; tag = t.0 }, t.1)))

unfoldable pub votes_at : ℕ → List ℕ → ℕ → Result (List Vote × ℕ) Malformed
votes_at limit b at = counted_at (vote_at limit b) b at

-- the certificate of a reported commit
abbrev pub certified_at : ℕ → List ℕ → Option Report → ℕ → Result (Option Certified × ℕ) Malformed
certified_at limit b None at = Ok (None, at)
certified_at limit b (Some r) at = bind (votes_at limit b at) (λ p. Ok (Some (record { report = r; votes = p.0 }), p.1))

-- ---- messages ----

-- a kind word
abbrev pub kind_at : ℕ → List ℕ → ℕ → Result ℕ Malformed
kind_at k b at = bind (word_at b at) (λ n. cond (n == k) (Ok (at + 4)) (fault at))

-- kind, statement, tag and attachment one behind the other, put together by make, which is told the place behind each
abbrev pub envelope_at : {S T A M : Type 0} → ℕ → (ℕ → Result (S × ℕ) Malformed) → (ℕ → Result (T × ℕ) Malformed) → (S → ℕ → Result (A × ℕ) Malformed) → (S × ℕ → T × ℕ → A × ℕ → M) → List ℕ → ℕ → Result (M × ℕ) Malformed
envelope_at kind statement tag attachment make b at =
    bind (kind_at kind b at) (λ next.
    bind (statement next) (λ s.
    bind (tag s.1) (λ t.
    bind (attachment s.0 t.1) (λ a.
    Ok (make s t a, a.1)))))

unfoldable pub turn_at : ℕ → List ℕ → ℕ → Result (Turn × ℕ) Malformed
turn_at limit b at =
    envelope_at 4 (change_at b) (tag_at limit b) (λ c. certified_at limit b c.committed)
    (λ s t a. record { head = s.0.head; prepared = s.0.prepared; committed = a.0; tag = t.0 }) b at

unfoldable pub progress_at : ℕ → List ℕ → ℕ → Result (List Turn × ℕ) Malformed
progress_at limit b at = counted_at (turn_at limit b) b at

-- nothing is attached
abbrev pub nothing_at : ℕ → Result (Unit {0} × ℕ) Malformed
nothing_at at = Ok (tt, at)

-- what is read, if nothing is left over behind it
abbrev pub ending : {A : Type 0} → List ℕ → A × ℕ → Result A Malformed
ending b p = cond (p.1 == length b) (Ok p.0) (fault p.1)

abbrev pub wholly : {A : Type 0} → List ℕ → Result (A × ℕ) Malformed → Result A Malformed
wholly b r = bind r (ending b)

unfoldable pub propose_of : ℕ → List ℕ → Result Content Malformed
propose_of limit b = wholly b (envelope_at 1 (claim_at b) (tag_at limit b) (λ c. progress_at limit b) (λ s t a. propose s.0 t.0 a.0) b 0)

unfoldable pub prepare_of : ℕ → List ℕ → Result Content Malformed
prepare_of limit b = wholly b (envelope_at 2 (claim_at b) (tag_at limit b) (λ c. nothing_at) (λ s t a. prepare s.0 t.0) b 0)

unfoldable pub commit_of : ℕ → List ℕ → Result Content Malformed
commit_of limit b = wholly b (envelope_at 3 (claim_at b) (tag_at limit b) (λ c. votes_at limit b) (λ s t a. commit s.0 t.0 a.0) b 0)

unfoldable pub new_view_of : ℕ → List ℕ → Result Content Malformed
new_view_of limit b = wholly b (bind (turn_at limit b 0) (λ p. Ok (new_view p.0, p.1)))

-- the whole packet as one progress certificate
unfoldable pub progress_of : ℕ → List ℕ → Result (List Turn) Malformed
progress_of limit b = wholly b (progress_at limit b 0)

abbrev pub message_by : ℕ → List ℕ → ℕ → Result Content Malformed
message_by limit b k =
    cond (k == 1) (propose_of limit b)
    (cond (k == 2) (prepare_of limit b)
    (cond (k == 3) (commit_of limit b)
    (cond (k == 4) (new_view_of limit b)
    (fault 0))))

-- the whole packet as one message
unfoldable pub message_of : ℕ → List ℕ → Result Content Malformed
message_of limit b = bind (word_at b 0) (message_by limit b)

-- ---- drafts ----

-- the place behind the statement of a draft of one kind, if its layout is good to the end
abbrev pub draft_as : {S A : Type 0} → ℕ → (ℕ → Result (S × ℕ) Malformed) → (S → ℕ → Result (A × ℕ) Malformed) → List ℕ → Result ℕ Malformed
draft_as kind statement attachment b = wholly b (envelope_at kind statement nothing_at attachment (λ s t a. s.1) b 0)

abbrev pub draft_by : ℕ → List ℕ → ℕ → Result ℕ Malformed
draft_by limit b k =
    cond (k == 1) (draft_as 1 (claim_at b) (λ c. progress_at limit b) b)
    (cond (k == 2) (draft_as 2 (claim_at b) (λ c. nothing_at) b)
    (cond (k == 3) (draft_as 3 (claim_at b) (λ c. votes_at limit b) b)
    (cond (k == 4) (draft_as 4 (change_at b) (λ c. certified_at limit b c.committed) b)
    (fault 0))))

-- the place behind the statement of a draft
unfoldable pub draft_end : ℕ → List ℕ → Result ℕ Malformed
draft_end limit b = bind (word_at b 0) (draft_by limit b)
