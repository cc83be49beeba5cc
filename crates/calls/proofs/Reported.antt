-- What a site reports when it leaves: last prepare and last commit are of views so far, and of legal fixes.
use Rattle.std.proofs.Common.{◌≡◌, ℕ, ◌^◌, ◌≤◌, ◌<◌, Bool, true, false, cond, List, [], ◌∷◌, Some, None, Ok, Err, Option, Result, sym, refl, subst, arith}
use Rattle.std.specs.Prelude.{◌==◌}
use Rattle.buffers.specs.Words.{Bytes}
use Rattle.values.specs.declared.fix.Report.{Report}
use Rattle.values.specs.Fleets.{recovery_quorum}
use Rattle.values.specs.Fixes.{fix_of, legal}
use Rattle.values.specs.Refusals.{Refused}
use Rattle.wire.specs.declared.statement.Claim.{Claim}
use Rattle.wire.specs.Contents.{Content, propose, prepare, commit, new_view}
use Rattle.wire.specs.Layout.{message_of}
use Rattle.packets.specs.Fits.{ReportFits, ClaimFits}
use Rattle.packets.proofs.Whole.{message_only}
use Rattle.checks.specs.Vouching.{Vouched}
use Rattle.agreement.specs.Statements.{Each}
use Rattle.records.specs.Rows.{with_prepare}
use Rattle.records.specs.Books.{Books}
use Rattle.records.specs.Kept.{Membership, Kept}
use Rattle.calls.specs.Effects.{Effect, holding}
use Rattle.calls.specs.Calls.{Request, to_propose, to_hear, to_leave, to_seal, to_judge, to_read, judging_call, read_call, performed, kept_after}
use Rattle.calls.specs.Laws.{LegalReport, OfBytes, Standing, Called, doing, after_call, after_calls, opened, standing}
use Rattle.calls.proofs.Done.{done_ok, propose_done, hear_done, hear_as, leave_done, seal_done}
use Rattle.calls.proofs.Filling.{heard_is_vouched}

-- a report that a site may make when it leaves this view, or a later one
pub record Sent (view : ℕ) (r : Report) : Type 0 where
  pub low : 1 ≤ r.view
  pub high : r.view ≤ view
  pub fix : legal (fix_of r.value) ≡ true
  pub fits : ReportFits (Some r)

abbrev pub SentOf : ℕ → Option Report → Type 0
SentOf view o = (r : Report) → o ≡ Some r → Sent view r

pub record Reports (k : Kept) : Type 0 where
  pub first : 1 ≤ k.view
  pub prepared : SentOf k.view k.prepared
  pub committed : SentOf k.view k.committed

later : (a b : ℕ) (o : Option Report) → a ≤ b → SentOf a o → SentOf b o
later a b o l h r e = let s = h r e in record { low = s.low; high = omega arith; fix = s.fix; fits = s.fits }

pub none_sent : (view : ℕ) → SentOf view None
none_sent view r e = let z : ◌≡◌ {A = ℕ} 0 1 = cc in absurd (omega arith)

one_sent : (view : ℕ) (s : Report) → Sent view s → SentOf view (Some s)
one_sent view s h r e = let q : s ≡ r = cc in subst (Sent view) q h

either_sent : (b : Bool) (view : ℕ) (x o : Option Report) → SentOf view x → SentOf view o → SentOf view (cond b x o)
either_sent true view x o h k = h
either_sent false view x o h k = k

-- what may be reported in a later view
pub sent_legal : (view next : ℕ) (o : Option Report) → view < next → SentOf view o → LegalReport next o × ReportFits o
sent_legal view next None l h = (tt, tt)
sent_legal view next (Some r) l h = let s = h r refl in ((s.low, omega (arith, s.high), s.fix), s.fits)

module _ (v : Vouched) (m : Membership) (k : Kept) (books : Books) (known : Reports k) where
  abbrev Still : Effect → Type 0
  Still x = Reports x.kept

  -- the value of a claim that was heard
  heard_sent : (c : Claim) → ClaimFits c → c.head.view ≡ k.view → legal (fix_of c.value) ≡ true → Sent k.view (record { view = k.view; value = c.value })
  heard_sent c fits view fix = record { low = known.first; high = omega arith; fix = fix; fits = (subst (λ (n : ℕ). n < 2 ^ 32) view fits.0.view, fits.1) }

  hear_reports : (out : ℕ) (packet : List ℕ) (c : Content) (x : Effect) → Bytes packet → message_of m.limit packet ≡ Ok c → performed v m k books out (to_hear packet) ≡ Ok x → Still x
  hear_reports out packet (propose c tag ms) x bytes read h =
      let p = hear_as v m k books out packet (propose c tag ms) x read h in
      let g = heard_is_vouched v m k books out packet (propose c tag ms) x read h in
      let o = message_only m.limit packet bytes (propose c tag ms) read in
      subst Still (sym p.2) (record { first = known.first; prepared = one_sent k.view _ (heard_sent c o.1.0 g.1 g.3); committed = known.committed })
  hear_reports out packet (prepare c tag) x bytes read h =
      let p = hear_as v m k books out packet (prepare c tag) x read h in
      let g = heard_is_vouched v m k books out packet (prepare c tag) x read h in
      let o = message_only m.limit packet bytes (prepare c tag) read in
      let certifies = holding m (with_prepare k.rows c.head.site c.value).prepares c.value == recovery_quorum m.f m.t in
      let new : Report = record { view = k.view; value = c.value } in
      subst Still (sym p.2) (record {
        first = known.first;
        prepared = known.prepared;
        committed = either_sent certifies k.view (Some new) k.committed (one_sent k.view new (heard_sent c o.1.0 g.1 g.3)) known.committed;
      })
  hear_reports out packet (commit c tag votes) x bytes read h =
      let p = hear_as v m k books out packet (commit c tag votes) x read h in
      subst Still (sym p.2) (record { first = known.first; prepared = known.prepared; committed = known.committed })
  hear_reports out packet (new_view t) x bytes read h =
      let p = hear_as v m k books out packet (new_view t) x read h in
      subst Still (sym p.2) (record { first = known.first; prepared = known.prepared; committed = known.committed })

  pub call_reports : (out : ℕ) (r : Request) (x : Effect) → OfBytes r → performed v m k books out r ≡ Ok x → Still x
  call_reports out (to_propose d) x b h =
      let p = propose_done v m k books out d x h in
      subst Still (sym p.is) (record { first = known.first; prepared = known.prepared; committed = known.committed })
  call_reports out (to_hear packet) x b h = let p = hear_done v m k books out packet x h in hear_reports out packet p.content x b p.read h
  call_reports out (to_leave view) x b h =
      let p = leave_done v m k books out view x h in
      let l : k.view ≤ view = (let e = p.higher in omega arith) in
      let first : 1 ≤ view = (let e = known.first in omega arith) in
      subst Still (sym p.is) (record { first = first; prepared = later k.view view k.prepared l known.prepared; committed = later k.view view k.committed l known.committed })
  call_reports out (to_seal written tag) x b h = let p = seal_done v m k books out written tag x h in subst Still (sym p.is) known
  call_reports out (to_judge view bytes) x b h = let p = done_ok v (judging_call m k books view bytes) x h in subst Still (sym p.1) known
  call_reports out to_read x b h = let p = done_ok v (read_call m k books) x h in subst Still (sym p.1) known

  result_reports : (r : Result Effect Refused) → ((x : Effect) → r ≡ Ok x → Still x) → Reports (kept_after k r)
  result_reports (Ok x) h = h x refl
  result_reports (Err e) h = known

module _ (m : Membership) where
  many_reports : (s : Standing) (cs : List Called) → Each (λ (c : Called). OfBytes c.request) cs → Reports s.kept → Reports (after_calls m s cs).kept
  many_reports s [] bytes known = known
  many_reports s (c ∷ cs) bytes known =
      many_reports (after_call m s c) cs bytes.1
      (result_reports c.check m s.kept s.books known (doing m s c) (λ x h. call_reports c.check m s.kept s.books known c.out c.request x bytes.0 h))

  pub always_reports : (round : ℕ) (books : Books) (cs : List Called) → Each (λ (c : Called). OfBytes c.request) cs → Reports (standing m round books cs).kept
  always_reports round books cs bytes = many_reports (opened round books) cs bytes (record { first = omega arith; prepared = none_sent 1; committed = none_sent 1 })
