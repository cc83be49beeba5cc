-- What a site drafts is heard by the others.
use Rattle.std.proofs.Common.{◌≡◌, ◌≢◌, slice_index, refl, ap₂, ℕ, ◌+◌, ◌%◌, ◌^◌, ◌≤◌, ◌<◌, true, false, ◌&&◌, leb, eqb, List, [], ◌∷◌, ◌++◌, length, None, Some, Option, Ok, sym, ap, ◌∙◌, subst, subst₂, arith}
use Rattle.std.proofs.lemmas.Bool.{and_parts, leb-true}
use Rattle.buffers.specs.Words.{Bytes}
use Rattle.values.specs.declared.fix.Value.{Value}
use Rattle.values.specs.declared.fix.Report.{Report}
use Rattle.values.specs.Fleets.{sites, legal_fleet, leader_of, legal_limit, progress_quorum}
use Rattle.verdicts.specs.Rule.{finding}
use Rattle.wire.specs.declared.statement.Claim.{Claim}
use Rattle.wire.specs.declared.statement.Statement.TheVariants.{Propose, Prepare, Commit, NewView}
use Rattle.wire.specs.Contents.{statement_bytes, tag_bytes, message_bytes, reported, Turn, propose, prepare, commit, new_view, change_of}
use Rattle.wire.specs.Layout.{message_of}
use Rattle.values.specs.Fixes.{fix_of, legal}
use Rattle.packets.specs.Fits.{ValueFits, ReportFits, ClaimFits, TurnsFit, ChangeFits, TurnFits}
use Rattle.packets.proofs.Whole.{message_only}
use Rattle.packets.proofs.Back.{message_back}
use Rattle.checks.specs.Vouching.{Vouched}
use Rattle.records.specs.Rows.{row_of}
use Rattle.records.specs.Books.{Books}
use Rattle.records.specs.Kept.{Membership, Kept}
use Rattle.calls.specs.Gathering.{is_gathered, gathered, own_progress}
use Rattle.calls.specs.Steps.{permits, is_of}
use Rattle.calls.specs.Effects.{draft, Effect, choice, own_claim, own_head, moved_to, last_certificate}
use Rattle.certificates.specs.Steps.{granted, passed}
use Rattle.certificates.specs.Examining.{certificate_steps, change_steps, certified_steps, behind_tag}
use Rattle.certificates.specs.Judging.{reports_of, verdict_call}
use Rattle.calls.specs.Calls.{to_propose, to_hear, performed, to_leave}
use Rattle.calls.specs.Laws.{HeardByOthers, Done, Room, standing, GoodClaim, LegalReport, OfBytes, Called, doing, opened, KeepsToCalls}
use Rattle.calls.proofs.Done.{propose_done, hear_as, leave_done}
use Rattle.calls.proofs.Reports.{OfReport, OfReported, chosen_of, Changed, change_made}
use Rattle.calls.proofs.Chosen.{verdict_chosen, chosen_legal, proposes_in_turn}
use Rattle.calls.proofs.Places.{verdict_anywhere}
use Rattle.calls.proofs.Joined.{few_members, turns_are, joined_is_read}
use Rattle.calls.proofs.Filling.{few_sites, leader_inside, heard_is_vouched}
use Rattle.calls.proofs.Certified.{drafts_if, kept_performed, always, drafted_certificates_are_good, same_change, leaving_asks_nothing}
use Rattle.calls.proofs.Passed.{nothing_else_is_refused}
use Rattle.wire.specs.declared.statement.ViewChange.{ViewChange}
use Rattle.agreement.specs.Statements.{Each}
use Rattle.calls.proofs.Reported.{sent_legal, always_reports}

pub small_limit : (l : ℕ) → legal_limit l ≡ true → l < 2 ^ 32
small_limit l h =
    let p = and_parts (leb 4 l) (leb l 2048) (and_parts (leb 4 l && leb l 2048) (eqb (l % 4) 0) h).0 in
    omega (arith, leb-true l 2048 p.1)

-- a site's own claim fits its words
own_fits : (m : Membership) (k : Kept) (c : Claim) → ClaimFits c → c.head.round ≡ k.round → c.head.view ≡ k.view → m.own < sites m.f m.t → sites m.f m.t ≤ 16 → ClaimFits (own_claim m k c.value)
own_fits m k c f r w l few =
    (record { round = subst (λ (n : ℕ). n < 2 ^ 32) r f.0.round; view = subst (λ (n : ℕ). n < 2 ^ 32) w f.0.view; site = omega arith }, f.1)

-- ---- a proposal ----

fits_report : (o : Option Report) → ReportFits o → OfReport ValueFits o
fits_report None h = tt
fits_report (Some r) h = h.1

-- the values that new-views report are of words
pub fits_reported : (limit : ℕ) (xs : List Turn) → TurnsFit limit xs → OfReported ValueFits (reports_of xs)
fits_reported limit [] h = tt
fits_reported limit (x ∷ xs) h = ((fits_report x.prepared h.0.change.1, fits_report (reported x.committed) h.0.change.2), fits_reported limit xs h.1)

same_proposal : (a c : Claim) (b d : List ℕ) → draft (Propose a) b ≡ draft (Propose c) d → (a ≡ c) × (b ≡ d)
same_proposal a c b d e = (cc, cc)

proposal_heard : (w : Vouched) (m : Membership) (k : Kept) (books : Books) (out : ℕ) (d : Value) (x : Effect) (c : Claim) (attached : List ℕ) → legal_fleet m.f m.t ≡ true → legal_limit m.limit ≡ true
    → Bytes books.views → k.round < 2 ^ 32 → k.view < 2 ^ 32 → ValueFits d
    → performed w m k books out (to_propose d) ≡ Ok x → x.output ≡ draft (Propose c) attached
    → (own : List ℕ) (j : ℕ) (k' : Kept) (books' : Books) (out' : ℕ) → length own ≤ m.limit → k'.round ≡ k.round → k'.view ≡ k.view
    → granted w (record { site = m.own; said = Propose c; tag = own }) ≡ true → is_of k'.view k'.prepared ≡ false → Room (record m { own = j }) books' out'
    → Done w (record m { own = j }) k' books' out' (to_hear (statement_bytes (Propose c) ++ (tag_bytes own ++ attached)))
proposal_heard w m k books out d x c attached fleet limit bytes low_round low_view low_value h e own j k' books' out' short round view vouched new room =
    let p = propose_done w m k books out d x h in
    let d' = choice (finding m.f m.t (reports_of p.xs)) d in
    let said = own_claim m k d' in
    let s = same_proposal said c (own_progress m k books.views) attached (sym (ap (λ (y : Effect). y.output) p.is) ∙ e) in
    let turn = proposes_in_turn w m k books out d x h in
    let few = few_sites m.f m.t fleet in
    let joins = joined_is_read m k books p.xs fleet limit bytes p.read in
    let t = turns_are m k books bytes 4 (gathered m k) p.xs p.read in
    let many : length p.xs ≤ 16 = omega (arith, few_members (is_gathered m k) 0 (sites m.f m.t), t.2) in
    let inside : m.own < sites m.f m.t = leader_inside m k m.own turn.0 in
    let fits : ClaimFits said = (record { round = low_round; view = low_view; site = omega arith }, chosen_of ValueFits m.f m.t (reports_of p.xs) d (fits_reported m.limit p.xs t.1) low_value) in
    let site : m.own ≡ c.head.site = ap (λ (z : Claim). z.head.site) s.0 in
    let good : GoodClaim w k' (Propose c) c own =
    record {
      round = sym (ap (λ (z : Claim). z.head.round) s.0) ∙ sym round;
      view = sym (ap (λ (z : Claim). z.head.view) s.0) ∙ sym view;
      fix = subst (λ (z : Claim). legal (fix_of z.value) ≡ true) s.0 (chosen_legal w m k d p.xs p.judged turn.3);
      vouched = subst (λ (n : ℕ). granted w (record { site = n; said = Propose c; tag = own }) ≡ true) site vouched;
    } in
    let leads : c.head.site ≡ leader_of (sites m.f m.t) k'.view = sym site ∙ turn.0 ∙ ap (leader_of (sites m.f m.t)) (sym view) in
    let place = 28 + length (tag_bytes own) in
    let passes : passed w (verdict_call m.f m.t k'.round k'.view place p.xs).steps ≡ Ok (tt {0}) =
    subst₂ (λ (r n : ℕ). passed w (verdict_call m.f m.t r n place p.xs).steps ≡ Ok (tt {0})) (sym round) (sym view) (verdict_anywhere m.f m.t k.round k.view w 0 place p.xs p.judged) in
    let allowed : permits (finding m.f m.t (reports_of p.xs)) c.value ≡ true = subst (λ (z : Claim). permits (finding m.f m.t (reports_of p.xs)) z.value ≡ true) s.0 (verdict_chosen w m k d p.xs p.judged).0 in
    let is : message_bytes (propose c own p.xs) ≡ statement_bytes (Propose c) ++ (tag_bytes own ++ attached) = ap (λ (z : List ℕ). statement_bytes (Propose c) ++ (tag_bytes own ++ z)) (sym joins.0 ∙ s.1) in
    let reads : message_of m.limit (statement_bytes (Propose c) ++ (tag_bytes own ++ attached)) ≡ Ok (propose c own p.xs) =
    subst (λ (z : List ℕ). message_of m.limit z ≡ Ok (propose c own p.xs)) is (message_back m.limit (propose c own p.xs) (small_limit m.limit limit) (subst ClaimFits s.0 fits, short, many, t.1)) in
    nothing_else_is_refused.proposals w (record m { own = j }) k' books' out' (statement_bytes (Propose c) ++ (tag_bytes own ++ attached)) c own p.xs room reads good leads new passes allowed

-- ---- a new-view ----

new_view_heard : (v w : Vouched) (m : Membership) (round : ℕ) (books : Books) (cs : List Called) (out view : ℕ) (x : Effect) (c : ViewChange) (attached : List ℕ)
    → legal_fleet m.f m.t ≡ true → legal_limit m.limit ≡ true → m.own < sites m.f m.t → round < 2 ^ 32 → view < 2 ^ 32
    → Each (λ (a : Called). OfBytes a.request) cs → KeepsToCalls w m (opened round books) cs
    → doing m (standing m round books cs) (record { check = v; out = out; request = to_leave view }) ≡ Ok x → x.output ≡ draft (NewView c) attached
    → (own : List ℕ) (j : ℕ) (k' : Kept) (books' : Books) (out' : ℕ) → length own ≤ m.limit → k'.round ≡ round → k'.view ≡ view → j ≡ leader_of (sites m.f m.t) view
    → granted w (record { site = m.own; said = NewView c; tag = own }) ≡ true → slice_index k'.lengths.views m.own ≡ 0 → length (gathered (record m { own = j }) k') < progress_quorum m.f m.t
    → Room (record m { own = j }) books' out'
    → Done w (record m { own = j }) k' books' out' (to_hear (statement_bytes (NewView c) ++ (tag_bytes own ++ attached)))
new_view_heard v w m round books cs out view x c attached fleet limit inside low_round low_view bytes keeps h e own j k' books' out' short same_round same_view leads vouched empty few room =
    let s = standing m round books cs in
    let k = s.kept in
    let last : Called = record { check = v; out = out; request = to_leave view } in
    let inv = always w m round fleet limit books cs keeps in
    let known = always_reports m round books cs bytes in
    let p = leave_done v m k s.books out view x h in
    let said : ViewChange = record { head = own_head m (moved_to m view k); prepared = k.prepared; committed = k.committed } in
    let d = same_change said c (last_certificate m k.committed k.lengths.certificate s.books.certificate) attached (sym (ap (λ (y : Effect). y.output) p.is) ∙ e) in
    let cert = drafted_certificates_are_good.new_views w m round books cs last x c attached fleet limit keeps (leaving_asks_nothing v w m s out view) h e in
    let prepared = sent_legal k.view view k.prepared p.higher known.prepared in
    let committed = sent_legal k.view view k.committed p.higher known.committed in
    let sites_few = few_sites m.f m.t fleet in
    let round_low : k.round < 2 ^ 32 = subst (λ (n : ℕ). n < 2 ^ 32) (sym inv.round_is) low_round in
    let said_fits : ChangeFits said = (record { round = round_low; view = low_view; site = omega arith }, prepared.1, committed.1) in
    let t : Turn = record { head = c.head; prepared = c.prepared; committed = cert.certified; tag = own } in
    let same : c ≡ change_of t = ap (λ (q : Option Report). record { head = c.head; prepared = c.prepared; committed = q }) (sym cert.reports) in
    let fits : TurnFits m.limit t = record { change = subst ChangeFits (d.0 ∙ same) said_fits; tag = short; votes = cert.fits } in
    let site : m.own ≡ c.head.site = ap (λ (z : ViewChange). z.head.site) d.0 in
    let changed : Changed w k'.round k'.view true c own =
    record {
      round_is = sym (ap (λ (z : ViewChange). z.head.round) d.0) ∙ inv.round_is ∙ sym same_round;
      view_is = sym (ap (λ (z : ViewChange). z.head.view) d.0) ∙ sym same_view;
      is_known = refl;
      prepared = subst₂ (λ (n : ℕ) (z : ViewChange). LegalReport n z.prepared) (sym same_view) d.0 prepared.0;
      committed = subst₂ (λ (n : ℕ) (z : ViewChange). LegalReport n z.committed) (sym same_view) d.0 committed.0;
      is_vouched = subst (λ (n : ℕ). granted w (record { site = n; said = NewView c; tag = own }) ≡ true) site vouched;
    } in
    let change : passed w (change_steps k'.round k'.view true 0 (change_of t) own) ≡ Ok (tt {0}) =
    subst (λ (z : ViewChange). passed w (change_steps k'.round k'.view true 0 z own) ≡ Ok (tt {0})) same (change_made w k'.round k'.view true 0 c own changed) in
    let certified : passed w (certified_steps m.f m.t k'.round (behind_tag 0 t) cert.certified) ≡ Ok (tt {0}) =
    subst (λ (n : ℕ). passed w (certified_steps m.f m.t n (behind_tag 0 t) cert.certified) ≡ Ok (tt {0})) (sym same_round) (cert.good (behind_tag 0 t)) in
    let packet = statement_bytes (NewView c) ++ (tag_bytes own ++ attached) in
    let is : message_bytes (new_view t) ≡ packet = ap₂ (λ (z : ViewChange) (b : List ℕ). statement_bytes (NewView z) ++ (tag_bytes own ++ b)) (sym same) (sym cert.is) in
    let reads : message_of m.limit packet ≡ Ok (new_view t) = subst (λ (z : List ℕ). message_of m.limit z ≡ Ok (new_view t)) is (message_back m.limit (new_view t) (small_limit m.limit limit) fits) in
    let high : k'.view ≢ 1 = λ a. (let l = p.higher in let f = known.first in omega arith) in
    nothing_else_is_refused.new_views w (record m { own = j }) k' books' out' packet t room reads change (subst (λ (n : ℕ). n < sites m.f m.t) site inside)
    (leads ∙ ap (leader_of (sites m.f m.t)) (sym same_view)) high (subst (λ (n : ℕ). slice_index k'.lengths.views n ≡ 0) site empty) few certified

-- ---- all of them ----

pub heard_by_others : HeardByOthers
heard_by_others =
    record {
      proposals = λ v w m k books out d x c attached fleet limit bytes low_round low_view low_value h e keeps own j k' books' out' short round view vouched new room.
          proposal_heard w m k books out d x c attached fleet limit bytes low_round low_view low_value (kept_performed v w m k books out (to_propose d) x keeps h) e own j k' books' out' short round view vouched new room;
      prepares = λ v w m k books out packet c tag ms x fleet limit inside bytes read h own j k' books' out' short round view vouched empty room.
          let g = heard_is_vouched v m k books out packet (propose c tag ms) x read h in
          let r = message_only m.limit packet bytes (propose c tag ms) read in
          let said = own_claim m k c.value in
          let fits = own_fits m k c r.1.0 g.0 g.1 inside (few_sites m.f m.t fleet) in
          let good : GoodClaim w k' (Prepare said) said own = record { round = sym round; view = sym view; fix = g.3; vouched = vouched } in
          nothing_else_is_refused.prepares w (record m { own = j }) k' books' out' (message_bytes (prepare said own)) said own room
          (message_back m.limit (prepare said own) (small_limit m.limit limit) (fits, short)) good inside empty;
      commits = λ v w m round books cs out packet a tag x c attached fleet limit inside bytes read keeps now h e own j k' books' out' short same_round same_view vouched empty room.
          let s = standing m round books cs in
          let k = s.kept in
          let inv = always w m round fleet limit books cs keeps in
          let p = hear_as v m k s.books out packet (prepare a tag) x read h in
          let g = heard_is_vouched v m k s.books out packet (prepare a tag) x read h in
          let o = message_only m.limit packet bytes (prepare a tag) read in
          let said = own_claim m k a.value in
          let d = drafts_if _ said c _ attached (sym (ap (λ (y : Effect). y.output) p.2) ∙ e) in
          let cert = drafted_certificates_are_good.commits w m round books cs (record { check = v; out = out; request = to_hear packet }) x c attached fleet limit keeps now h e in
          let fits : ClaimFits c = subst ClaimFits d.1 (own_fits m k a o.1.0 g.0 g.1 inside (few_sites m.f m.t fleet)) in
          let site : m.own ≡ c.head.site = ap (λ (z : Claim). z.head.site) d.1 in
          let good : GoodClaim w k' (Commit c) c own =
          record {
            round = sym (ap (λ (z : Claim). z.head.round) d.1) ∙ inv.round_is ∙ sym same_round;
            view = sym (ap (λ (z : Claim). z.head.view) d.1) ∙ sym same_view;
            fix = subst (λ (z : Claim). legal (fix_of z.value) ≡ true) d.1 g.3;
            vouched = subst (λ (n : ℕ). granted w (record { site = n; said = Commit c; tag = own }) ≡ true) site vouched;
          } in
          let view_is : c.head.view ≡ k'.view = good.view in
          let round_is : round ≡ k'.round = sym same_round in
          let passes : passed w (certificate_steps m.f m.t k'.round (record { view = k'.view; value = c.value }) (28 + length (tag_bytes own)) cert.votes) ≡ Ok (tt {0}) =
          subst₂ (λ (r n : ℕ). passed w (certificate_steps m.f m.t r (record { view = n; value = c.value }) (28 + length (tag_bytes own)) cert.votes) ≡ Ok (tt {0})) round_is view_is (cert.good (28 + length (tag_bytes own))) in
          let is : message_bytes (commit c own cert.votes) ≡ statement_bytes (Commit c) ++ (tag_bytes own ++ attached) = ap (λ (z : List ℕ). statement_bytes (Commit c) ++ (tag_bytes own ++ z)) (sym cert.is) in
          let reads : message_of m.limit (statement_bytes (Commit c) ++ (tag_bytes own ++ attached)) ≡ Ok (commit c own cert.votes) =
          subst (λ (z : List ℕ). message_of m.limit z ≡ Ok (commit c own cert.votes)) is (message_back m.limit (commit c own cert.votes) (small_limit m.limit limit) (fits, short, cert.fits)) in
          nothing_else_is_refused.commits w (record m { own = j }) k' books' out' (statement_bytes (Commit c) ++ (tag_bytes own ++ attached)) c own cert.votes room reads good
          (subst (λ (n : ℕ). n < sites m.f m.t) site inside) (subst (λ (n : ℕ). row_of k'.rows.commits n ≡ None) site empty) passes;
      new_views = λ v w m round books cs out view x c attached fleet limit inside low_round low_view bytes keeps h e own j k' books' out' short same_round same_view leads vouched empty few room.
          new_view_heard v w m round books cs out view x c attached fleet limit inside low_round low_view bytes keeps h e own j k' books' out' short same_round same_view leads vouched empty few room;
    }
