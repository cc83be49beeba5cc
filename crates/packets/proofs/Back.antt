-- What is written is read back.
use Rattle.std.proofs.Common.{◌≡◌, ℕ, zero, suc, ◌+◌, ◌-◌, ◌^◌, ◌<◌, ◌≤◌, true, cond, eqb, List, [], ◌∷◌, ◌++◌, length, take, drop, replicate, Some, None, Ok, Option, Result, sym, refl, ap, ◌∙◌, arith, length-append, length-drop}
use Rattle.std.proofs.lemmas.List.{take_at, length-replicate}
use Rattle.std.proofs.lemmas.Bool.{le-leb, eq-eqb}
use Rattle.values.specs.declared.fix.Value.{Value}
use Rattle.values.specs.declared.fix.Report.{Report}
use Rattle.wire.specs.declared.words.Malformed.{Malformed}
use Rattle.wire.specs.declared.statement.Head.{Head}
use Rattle.wire.specs.declared.statement.Claim.{Claim}
use Rattle.wire.specs.declared.statement.ViewChange.{ViewChange}
use Rattle.wire.specs.declared.statement.Statement.{Statement}
use Rattle.wire.specs.declared.statement.Statement.TheVariants.{Propose, Prepare, Commit, NewView}
use Rattle.buffers.specs.Words.{word_bytes}
use Rattle.wire.specs.Words.{bind, word_at}
use Rattle.values.specs.Lines.{three_bytes, value_bytes}
use Rattle.wire.specs.Contents.{head_bytes, report_bytes, claim_bytes, change_bytes, padded, tag_bytes, Vote, vote_bytes, votes_bytes, certificate_bytes, Certified, reported, certified_bytes, Turn, change_of, turn_bytes, turns_bytes, progress_bytes, Content, propose, prepare, commit, new_view, statement_bytes, statement_of, message_bytes, draft_bytes}
use Rattle.wire.specs.Layout.{three_at, value_at, head_at, report_at, claim_at, change_at, zeros, tag_at, many_at, vote_at, votes_at, certified_at, envelope_at, turn_at, progress_at, nothing_at, propose_of, prepare_of, commit_of, new_view_of, message_of, wholly, draft_by, draft_end}
use Rattle.wire.proofs.Results.{ok_same}
use Rattle.wire.proofs.Lengths.{length-tag}
use Rattle.messages.proofs.Envelopes.{envelope_on}
use Rattle.packets.specs.Fits.{ValueFits, HeadFits, ReportFits, ClaimFits, ChangeFits, StatementFits, VotesFit, CertificateFits, CertifiedFits, TurnFits, TurnsFit, ContentFits}
use Rattle.buffers.proofs.Held.{Held, front, next, whole, word_held}

-- a word
pub word_back : (b : List ℕ) (at w : ℕ) → w < 2 ^ 32 → Held b at (word_bytes w) → word_at b at ≡ Ok w
unfolding word_at
word_back b at w f h =
    let long : at + 4 ≤ length b = omega (arith, length-drop at b, ap length h.is) in
    rw (le-leb (at + 4) (length b) long) (ap Ok (word_held b at w f h))

-- ---- statements ----

three_back : {A : Type 0} (make : ℕ → ℕ → ℕ → A) (b : List ℕ) (at x y z : ℕ) → x < 2 ^ 32 → y < 2 ^ 32 → z < 2 ^ 32 → Held b at (three_bytes x y z) → three_at make b at ≡ Ok (make x y z)
three_back make b at x y z f g k h =
    let v = word_bytes y ++ word_bytes z in
    let h4 : Held b (at + 4) v = next 4 (word_bytes x) v refl h in
    let h8 : Held b (at + 8) (word_bytes z) = next 8 (word_bytes x ++ word_bytes y) (word_bytes z) refl h in
    rw (word_back b at x f (front (word_bytes x) v h), word_back b (at + 4) y g (front (word_bytes y) (word_bytes z) h4), word_back b (at + 8) z k h8)

pub value_back : (b : List ℕ) (at : ℕ) (d : Value) → ValueFits d → Held b at (value_bytes d) → value_at b at ≡ Ok d
value_back b at d fits h = three_back (λ x y z. record { first = x; second = y; third = z }) b at d.first d.second d.third fits.first fits.second fits.third h

pub head_back : (b : List ℕ) (at : ℕ) (d : Head) → HeadFits d → Held b at (head_bytes d) → head_at b at ≡ Ok d
head_back b at d fits h = three_back (λ x y z. record { round = x; view = y; site = z }) b at d.round d.view d.site fits.round fits.view fits.site h

pub report_back : (b : List ℕ) (at : ℕ) (o : Option Report) → ReportFits o → Held b at (report_bytes o) → report_at b at ≡ Ok (o, at + length (report_bytes o))
report_back b at None fits h = rw (word_back b at 0 (omega arith) h)
report_back b at (Some r) fits h =
    let one = word_bytes 1 in
    let view = word_bytes r.view in
    let value = value_bytes r.value in
    let h4 : Held b (at + 4) (view ++ value) = next 4 one (view ++ value) refl h in
    let h8 : Held b (at + 8) value = next 8 (one ++ view) value refl h in
    rw (word_back b at 1 (omega arith) (front one (view ++ value) h), word_back b (at + 4) r.view fits.0 (front view value h4), value_back b (at + 8) r.value fits.1 h8)

pub claim_back : (b : List ℕ) (at : ℕ) (c : Claim) → ClaimFits c → Held b at (claim_bytes c) → claim_at b at ≡ Ok (c, at + 24)
claim_back b at c fits h =
    let x = head_bytes c.head in
    let y = value_bytes c.value in
    rw (head_back b at c.head fits.0 (front x y h), value_back b (at + 12) c.value fits.1 (next 12 x y refl h))

pub change_back : (b : List ℕ) (at : ℕ) (c : ViewChange) → ChangeFits c → Held b at (change_bytes c) → change_at b at ≡ Ok (c, at + length (change_bytes c))
change_back b at c fits h =
    let x = head_bytes c.head in
    let y = report_bytes c.prepared in
    let z = report_bytes c.committed in
    let h12 : Held b (at + 12) (y ++ z) = next 12 x (y ++ z) refl h in
    let e : at + 12 + length y + length z ≡ at + length (x ++ (y ++ z)) = omega (arith, length-append y z) in
    rw (head_back b at c.head fits.0 (front x (y ++ z) h), report_back b (at + 12) c.prepared fits.1 (front y z h12), report_back b (at + 12 + length y) c.committed fits.2 (next (length y) y z refl h12), e)

-- ---- tags and certificates ----

zeros_replicate : (n : ℕ) → zeros (replicate n 0) ≡ true
zeros_replicate zero = refl
zeros_replicate (suc n) = zeros_replicate n

pub tag_back : (limit : ℕ) (b : List ℕ) (at : ℕ) (t : List ℕ) → limit < 2 ^ 32 → length t ≤ limit → Held b at (tag_bytes t) → tag_at limit b at ≡ Ok (t, at + length (tag_bytes t))
tag_back limit b at t small fits h =
    let n = length t in
    let word = word_bytes n in
    let fill = replicate (padded n - n) 0 in
    let got : word_at b at ≡ Ok n = word_back b at n (omega arith) (front word (t ++ fill) h) in
    let h4 : Held b (at + 4) (t ++ fill) = next 4 word (t ++ fill) refl h in
    let past : Held b (at + 4 + n) fill = next n t fill refl h4 in
    let long : at + 4 + padded n ≤ length b = omega (arith, length-drop at b, ap length h.is, length-append (tag_bytes t) h.rest, length-tag t) in
    let filled : zeros (take (padded n - n) (drop (at + 4 + n) b)) ≡ true =
    ap (λ l. zeros (take (padded n - n) l)) past.is ∙ ap zeros (take_at fill past.rest (padded n - n) (length-replicate (padded n - n) 0)) ∙ zeros_replicate (padded n - n) in
    let h' = front t fill h4 in
    let held : take n (drop (at + 4) b) ≡ t = ap (take n) h'.is ∙ take_at t h'.rest n refl in
    let end : at + 4 + padded n ≡ at + length (tag_bytes t) = omega (arith, length-tag t) in
    rw (got, le-leb n limit fits, le-leb (at + 4 + padded n) (length b) long, filled, held, end)

vote_back : (limit : ℕ) (b : List ℕ) (at : ℕ) (v : Vote) → limit < 2 ^ 32 → v.site < 2 ^ 32 → length v.tag ≤ limit → Held b at (vote_bytes v) → vote_at limit b at ≡ Ok (v, at + length (vote_bytes v))
vote_back limit b at v small site fits h =
    let word = word_bytes v.site in
    let tag = tag_bytes v.tag in
    let e : at + 4 + length tag ≡ at + length (vote_bytes v) = omega arith in
    rw (word_back b at v.site site (front word tag h), tag_back limit b (at + 4) v.tag small fits (next 4 word tag refl h), e)

votes_back : (limit : ℕ) (b : List ℕ) (at : ℕ) (vs : List Vote) → limit < 2 ^ 32 → VotesFit limit vs → Held b at (votes_bytes vs) → many_at (vote_at limit b) (length vs) at ≡ Ok (vs, at + length (votes_bytes vs))
votes_back limit b at [] small fits h = let e : at ≡ at + 0 = omega arith in ap (λ k. Ok ([], k)) e
votes_back limit b at (v ∷ vs) small fits h =
    let x = vote_bytes v in
    let xs = votes_bytes vs in
    let one = vote_back limit b at v small fits.0 fits.1 (front x xs h) in
    let more = votes_back limit b (at + length x) vs small fits.2 (next (length x) x xs refl h) in
    let e : at + length x + length xs ≡ at + length (x ++ xs) = omega (arith, length-append x xs) in
    rw (one, more, e)

pub certificate_back : (limit : ℕ) (b : List ℕ) (at : ℕ) (vs : List Vote) → limit < 2 ^ 32 → CertificateFits limit vs → Held b at (certificate_bytes vs) → votes_at limit b at ≡ Ok (vs, at + length (certificate_bytes vs))
unfolding votes_at
certificate_back limit b at vs small fits h =
    let word = word_bytes (length vs) in
    let few = fits.0 in
    let e : at + 4 + length (votes_bytes vs) ≡ at + length (certificate_bytes vs) = omega arith in
    rw (word_back b at (length vs) (omega arith) (front word (votes_bytes vs) h), le-leb (length vs) 16 few, votes_back limit b (at + 4) vs small fits.1 (next 4 word (votes_bytes vs) refl h), e)

certified_back : (limit : ℕ) (b : List ℕ) (at : ℕ) (o : Option Certified) → limit < 2 ^ 32 → CertifiedFits limit o → Held b at (certified_bytes o) → certified_at limit b (reported o) at ≡ Ok (o, at + length (certified_bytes o))
certified_back limit b at None small fits h = let e : at ≡ at + 0 = omega arith in ap (λ k. Ok (None, k)) e
certified_back limit b at (Some c) small fits h = rw (certificate_back limit b at c.votes small fits h)

-- ---- messages ----

-- kind, body, tag and attachment that stand one behind the other
module _ {S T A M : Type 0} (b : List ℕ) (k : ℕ) (st : ℕ → Result (S × ℕ) Malformed) (tg : ℕ → Result (T × ℕ) Malformed) (att : S → ℕ → Result (A × ℕ) Malformed) (make : S × ℕ → T × ℕ → A × ℕ → M) where
  pub envelope_back : (at : ℕ) (body tb rest : List ℕ) (s : S) (t : T) (a : A) → k < 2 ^ 32
      → Held b at ((word_bytes k ++ body) ++ (tb ++ rest))
      → (Held b (at + 4) body → st (at + 4) ≡ Ok (s, at + 4 + length body))
      → ((p : ℕ) → Held b p tb → tg p ≡ Ok (t, p + length tb))
      → ((p : ℕ) → Held b p rest → att s p ≡ Ok (a, p + length rest))
      → envelope_at k st tg att make b at ≡ Ok (make (s, at + 4 + length body) (t, at + 4 + length body + length tb) (a, at + 4 + length body + length tb + length rest), at + 4 + length body + length tb + length rest)
  envelope_back at body tb rest s t a small h body_is tag_is rest-is =
      let word = word_bytes k in
      let stated : Held b at (word ++ body) = front (word ++ body) (tb ++ rest) h in
      let h4 : Held b (at + 4) (body ++ (tb ++ rest)) = next 4 word (body ++ (tb ++ rest)) refl h in
      let ht : Held b (at + 4 + length body) (tb ++ rest) = next (length body) body (tb ++ rest) refl h4 in
      let hr : Held b (at + 4 + length body + length tb) rest = next (length tb) tb rest refl ht in
      rw (word_back b at k small (front word body stated), eq-eqb k k refl, body_is (front body (tb ++ rest) h4), tag_is (at + 4 + length body) (front tb rest ht), rest-is (at + 4 + length body + length tb) hr)

pub turn_back : (limit : ℕ) (b : List ℕ) (at : ℕ) (m : Turn) → limit < 2 ^ 32 → TurnFits limit m → Held b at (turn_bytes m) → turn_at limit b at ≡ Ok (m, at + length (turn_bytes m))
unfolding turn_at turn_bytes
turn_back limit b at m small fits h =
    let body = change_bytes (change_of m) in
    let t = tag_bytes m.tag in
    let rest = certified_bytes m.committed in
    let e : at + 4 + length body + length t + length rest ≡ at + length ((word_bytes 4 ++ body) ++ (t ++ rest)) = omega (arith, length-append body (t ++ rest), length-append t rest) in
    envelope_back b 4 (change_at b) (tag_at limit b) (λ c. certified_at limit b c.committed) (λ s t a. record { head = s.0.head; prepared = s.0.prepared; committed = a.0; tag = t.0 })
    at body t rest (change_of m) m.tag m.committed (omega arith) h
    (λ k. change_back b (at + 4) (change_of m) fits.change k)
    (λ p k. tag_back limit b p m.tag small fits.tag k)
    (λ p k. certified_back limit b p m.committed small fits.votes k)
    ∙ ap (λ n. Ok (m, n)) e

turns_back : (limit : ℕ) (b : List ℕ) (at : ℕ) (ms : List Turn) → limit < 2 ^ 32 → TurnsFit limit ms → Held b at (turns_bytes ms) → many_at (turn_at limit b) (length ms) at ≡ Ok (ms, at + length (turns_bytes ms))
turns_back limit b at [] small fits h = let e : at ≡ at + 0 = omega arith in ap (λ k. Ok ([], k)) e
turns_back limit b at (m ∷ ms) small fits h =
    let x = turn_bytes m in
    let xs = turns_bytes ms in
    let one = turn_back limit b at m small fits.0 (front x xs h) in
    let more = turns_back limit b (at + length x) ms small fits.1 (next (length x) x xs refl h) in
    let e : at + length x + length xs ≡ at + length (x ++ xs) = omega (arith, length-append x xs) in
    rw (one, more, e)

pub progress_back : (limit : ℕ) (b : List ℕ) (at : ℕ) (ms : List Turn) → limit < 2 ^ 32 → length ms ≤ 16 → TurnsFit limit ms → Held b at (progress_bytes ms) → progress_at limit b at ≡ Ok (ms, at + length (progress_bytes ms))
unfolding progress_at
progress_back limit b at ms small few fits h =
    let word = word_bytes (length ms) in
    let e : at + 4 + length (turns_bytes ms) ≡ at + length (progress_bytes ms) = omega arith in
    rw (word_back b at (length ms) (omega arith) (front word (turns_bytes ms) h), le-leb (length ms) 16 few, turns_back limit b (at + 4) ms small fits (next 4 word (turns_bytes ms) refl h), e)

nothing_back : (b : List ℕ) (p : ℕ) → Held b p [] → nothing_at p ≡ Ok (tt, p + 0)
nothing_back b p h = let e : p ≡ p + 0 = omega arith in ap (λ n. Ok (tt, n)) e

-- the same at the start of a packet that holds nothing more
module _ {S T A M : Type 0} (k : ℕ) (body tb rest : List ℕ) (st : ℕ → Result (S × ℕ) Malformed) (tg : ℕ → Result (T × ℕ) Malformed) (att : S → ℕ → Result (A × ℕ) Malformed) (make : S × ℕ → T × ℕ → A × ℕ → M) where
  abbrev packet : List ℕ
  packet = (word_bytes k ++ body) ++ (tb ++ rest)

  pub packet_back : (s : S) (t : T) (a : A) → k < 2 ^ 32
      → (Held packet 4 body → st 4 ≡ Ok (s, 4 + length body))
      → ((p : ℕ) → Held packet p tb → tg p ≡ Ok (t, p + length tb))
      → ((p : ℕ) → Held packet p rest → att s p ≡ Ok (a, p + length rest))
      → wholly packet (envelope_at k st tg att make packet 0) ≡ Ok (make (s, 4 + length body) (t, 4 + length body + length tb) (a, 4 + length body + length tb + length rest))
  packet_back s t a small body_is tag_is rest-is =
      let end : 4 + length body + length tb + length rest ≡ length packet = omega (arith, length-append body (tb ++ rest), length-append tb rest) in
      rw (envelope_back packet k st tg att make 0 body tb rest s t a small (whole packet) body_is tag_is rest-is, eq-eqb (4 + length body + length tb + length rest) (length packet) end)

pub message_back : (limit : ℕ) (m : Content) → limit < 2 ^ 32 → ContentFits limit m → message_of limit (message_bytes m) ≡ Ok m
unfolding message_of propose_of prepare_of commit_of new_view_of turn_at
message_back limit (propose c t ms) small fits =
    let b = message_bytes (propose c t ms) in
    rw (word_back b 0 1 (omega arith) (front (word_bytes 1) (claim_bytes c ++ (tag_bytes t ++ progress_bytes ms)) (whole b)))
    (packet_back 1 (claim_bytes c) (tag_bytes t) (progress_bytes ms) (claim_at b) (tag_at limit b) (λ c. progress_at limit b) (λ s t a. propose s.0 t.0 a.0) c t ms (omega arith)
    (λ h. claim_back b 4 c fits.0 h) (λ p h. tag_back limit b p t small fits.1 h) (λ p h. progress_back limit b p ms small fits.2 fits.3 h))
message_back limit (prepare c t) small fits =
    let b = message_bytes (prepare c t) in
    rw (word_back b 0 2 (omega arith) (front (word_bytes 2) (claim_bytes c ++ (tag_bytes t ++ [])) (whole b)))
    (packet_back 2 (claim_bytes c) (tag_bytes t) [] (claim_at b) (tag_at limit b) (λ c. nothing_at) (λ s t a. prepare s.0 t.0) c t tt (omega arith)
    (λ h. claim_back b 4 c fits.0 h) (λ p h. tag_back limit b p t small fits.1 h) (λ p h. nothing_back b p h))
message_back limit (commit c t vs) small fits =
    let b = message_bytes (commit c t vs) in
    rw (word_back b 0 3 (omega arith) (front (word_bytes 3) (claim_bytes c ++ (tag_bytes t ++ certificate_bytes vs)) (whole b)))
    (packet_back 3 (claim_bytes c) (tag_bytes t) (certificate_bytes vs) (claim_at b) (tag_at limit b) (λ c. votes_at limit b) (λ s t a. commit s.0 t.0 a.0) c t vs (omega arith)
    (λ h. claim_back b 4 c fits.0 h) (λ p h. tag_back limit b p t small fits.1 h) (λ p h. certificate_back limit b p vs small fits.2 h))
message_back limit (new_view m) small fits =
    let b = message_bytes (new_view m) in
    let body = change_bytes (change_of m) in
    let rest = certified_bytes m.committed in
    rw (word_back b 0 4 (omega arith) (front (word_bytes 4) (body ++ (tag_bytes m.tag ++ rest)) (whole b)))
    (ap (wholly b) (envelope_on b 4 (change_at b) (tag_at limit b) (λ c. certified_at limit b c.committed) (λ s t a. record { head = s.0.head; prepared = s.0.prepared; committed = a.0; tag = t.0 }) new_view 0)
    ∙ packet_back 4 body (tag_bytes m.tag) rest (change_at b) (tag_at limit b) (λ c. certified_at limit b c.committed) (λ s t a. new_view (record { head = s.0.head; prepared = s.0.prepared; committed = a.0; tag = t.0 })) (change_of m) m.tag m.committed (omega arith)
    (λ h. change_back b 4 (change_of m) fits.change h) (λ p h. tag_back limit b p m.tag small fits.tag h) (λ p h. certified_back limit b p m.committed small fits.votes h))

-- the statement of a draft ends where it should
pub draft_back : (limit : ℕ) (m : Content) → limit < 2 ^ 32 → ContentFits limit m → draft_end limit (draft_bytes m) ≡ Ok (length (statement_bytes (statement_of m)))
unfolding draft_end
draft_back limit (propose c t ms) small fits =
    let b = draft_bytes (propose c t ms) in
    ap (λ r. bind r (draft_by limit b)) (word_back b 0 1 (omega arith) (front (word_bytes 1) (claim_bytes c ++ progress_bytes ms) (whole b)))
    ∙ packet_back 1 (claim_bytes c) [] (progress_bytes ms) (claim_at b) nothing_at (λ c. progress_at limit b) (λ s t a. s.1) c tt ms (omega arith)
    (λ h. claim_back b 4 c fits.0 h) (λ p h. nothing_back b p h) (λ p h. progress_back limit b p ms small fits.2 fits.3 h)
draft_back limit (prepare c t) small fits =
    let b = draft_bytes (prepare c t) in
    ap (λ r. bind r (draft_by limit b)) (word_back b 0 2 (omega arith) (front (word_bytes 2) (claim_bytes c ++ []) (whole b)))
    ∙ packet_back 2 (claim_bytes c) [] [] (claim_at b) nothing_at (λ c. nothing_at) (λ s t a. s.1) c tt tt (omega arith)
    (λ h. claim_back b 4 c fits.0 h) (λ p h. nothing_back b p h) (λ p h. nothing_back b p h)
draft_back limit (commit c t vs) small fits =
    let b = draft_bytes (commit c t vs) in
    ap (λ r. bind r (draft_by limit b)) (word_back b 0 3 (omega arith) (front (word_bytes 3) (claim_bytes c ++ certificate_bytes vs) (whole b)))
    ∙ packet_back 3 (claim_bytes c) [] (certificate_bytes vs) (claim_at b) nothing_at (λ c. votes_at limit b) (λ s t a. s.1) c tt vs (omega arith)
    (λ h. claim_back b 4 c fits.0 h) (λ p h. nothing_back b p h) (λ p h. certificate_back limit b p vs small fits.2 h)
draft_back limit (new_view m) small fits =
    let b = draft_bytes (new_view m) in
    let body = change_bytes (change_of m) in
    let rest = certified_bytes m.committed in
    let e : 4 + length body ≡ length (word_bytes 4 ++ body) = omega arith in
    ap (λ r. bind r (draft_by limit b)) (word_back b 0 4 (omega arith) (front (word_bytes 4) (body ++ rest) (whole b)))
    ∙ packet_back 4 body [] rest (change_at b) nothing_at (λ c. certified_at limit b c.committed) (λ s t a. s.1) (change_of m) tt m.committed (omega arith)
    (λ h. change_back b 4 (change_of m) fits.change h) (λ p h. nothing_back b p h) (λ p h. certified_back limit b p m.committed small fits.votes h)
    ∙ ap Ok e

-- ---- statements are told apart ----

abbrev said_as : (Claim → Statement) → Result (Claim × ℕ) Malformed → Result Statement Malformed
said_as say r = bind r (λ p. Ok (say p.0))

-- the statement that a list of bytes begins with
abbrev said_at : List ℕ → Result Statement Malformed
said_at b = bind (word_at b 0) (λ k.
    cond (eqb k 1) (said_as Propose (claim_at b 4))
    (cond (eqb k 2) (said_as Prepare (claim_at b 4))
    (cond (eqb k 3) (said_as Commit (claim_at b 4))
    (bind (change_at b 4) (λ p. Ok (NewView p.0))))))

said_back : (s : Statement) → StatementFits s → (b : List ℕ) → Held b 0 (statement_bytes s) → said_at b ≡ Ok s
said_back (Propose c) fits b h = rw (word_back b 0 1 (omega arith) (front (word_bytes 1) (claim_bytes c) h), claim_back b 4 c fits (next 4 (word_bytes 1) (claim_bytes c) refl h))
said_back (Prepare c) fits b h = rw (word_back b 0 2 (omega arith) (front (word_bytes 2) (claim_bytes c) h), claim_back b 4 c fits (next 4 (word_bytes 2) (claim_bytes c) refl h))
said_back (Commit c) fits b h = rw (word_back b 0 3 (omega arith) (front (word_bytes 3) (claim_bytes c) h), claim_back b 4 c fits (next 4 (word_bytes 3) (claim_bytes c) refl h))
said_back (NewView c) fits b h = rw (word_back b 0 4 (omega arith) (front (word_bytes 4) (change_bytes c) h), change_back b 4 c fits (next 4 (word_bytes 4) (change_bytes c) refl h))

-- bytes begin with one statement only
pub fronts_apart : (s t : Statement) (a b : List ℕ) → StatementFits s → StatementFits t → statement_bytes s ++ a ≡ statement_bytes t ++ b → s ≡ t
fronts_apart s t a b fits fits' e =
    let both = statement_bytes t ++ b in
    ok_same (sym (said_back s fits both (record { rest = a; is = sym e })) ∙ said_back t fits' both (record { rest = b; is = refl }))

pub told_apart : (s t : Statement) → StatementFits s → StatementFits t → statement_bytes s ≡ statement_bytes t → s ≡ t
told_apart s t fits fits' e = fronts_apart s t [] [] fits fits' (ap (λ (xs : List ℕ). xs ++ []) e)
