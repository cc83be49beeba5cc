-- The new-views that a leader has gathered: each is good, as it was when it was heard, and they stay while the view does.
use Rattle.std.proofs.Common.{◌≡◌, ◌≢◌, ℕ, zero, suc, ◌+◌, ◌≤◌, ◌<◌, ◌⊎◌, Bool, true, false, cond, leb, ltb, List, [], ◌∷◌, length, take, Ok, Err, Result, slice_index, sym, refl, ap, ap₂, ◌∙◌, subst, inl, inr, arith}
use Rattle.std.specs.Prelude.{◌==◌, ◌^◌, nat_lt}
use Rattle.std.proofs.lemmas.List.{get_or-set_other}
use Rattle.std.proofs.lemmas.Bool.{true≢false, cases_Bool, cases_eq, and_from, eq-eqb, ne_eqb, le-leb, lt-ltb}
use Rattle.buffers.specs.Words.{Bytes}
use Rattle.buffers.proofs.Held.{whole}
use Rattle.values.specs.Fleets.{sites, progress_quorum, legal_fleet, legal_limit}
use Rattle.values.specs.Refusals.{Refused}
use Rattle.wire.specs.Words.{fault}
use Rattle.wire.specs.Contents.{Turn, turn_bytes, change_of, Content, propose, prepare, commit, new_view}
use Rattle.wire.specs.Layout.{wholly, message_of}
use Rattle.packets.proofs.Whole.{message_only}
use Rattle.packets.proofs.Back.{turn_back}
use Rattle.checks.specs.Vouching.{Vouched}
use Rattle.agreement.specs.Statements.{Each}
use Rattle.certificates.specs.Steps.{passed, blamed}
use Rattle.certificates.specs.Faults.{at_depth}
use Rattle.certificates.specs.Examining.{rising, change_steps, certified_steps, behind_tag, entry_steps, entries_steps, progress_steps}
use Rattle.records.specs.Sizes.{view_row}
use Rattle.records.specs.Books.{Books, held_row}
use Rattle.records.specs.Kept.{Membership, Kept}
use Rattle.calls.specs.Gathering.{members, turn_of, is_gathered, gathered, gathered_turn, turns_read}
use Rattle.calls.specs.Effects.{Effect, gathering}
use Rattle.calls.specs.Calls.{Request, to_propose, to_hear, to_leave, to_seal, to_judge, to_read, judging_call, read_call, performed, kept_after, books_after}
use Rattle.calls.specs.Laws.{OfBytes, NewViewHeard, Standing, Called, doing, after_call, after_calls, opened, standing, KeepsToCalls, GatheredAreGood}
use Rattle.calls.proofs.Done.{done_ok, propose_done, hear_done, hear_as, leave_done, seal_done}
use Rattle.calls.proofs.Reports.{Changed, change_made}
use Rattle.calls.proofs.Filling.{Turned, turn_ok, hear_gathers}
use Rattle.calls.proofs.Passed.{append_made, blamed_made}
use Rattle.calls.proofs.Places.{certified_anywhere}
use Rattle.calls.proofs.Members.{members_plus, members_le, none_of, blank}
use Rattle.calls.proofs.Certified.{Inv, sound, kept_performed, one_call, at_first, always}
use Rattle.calls.proofs.Others.{small_limit}

-- ---- what a call does to them ----

module _ (v : Vouched) (m : Membership) (k : Kept) (books : Books) where
  -- round, view and new-views are as they were
  abbrev Stays : Effect → Type 0
  Stays x = (x.kept.round ≡ k.round) × (x.kept.view ≡ k.view) × (x.kept.lengths.views ≡ k.lengths.views) × (x.books.views ≡ books.views)

  -- the view is left, and nothing is gathered
  abbrev Left : Effect → Type 0
  Left x = (k.view < x.kept.view) × ((j : ℕ) → is_gathered m x.kept j ≡ false)

  -- one more is gathered
  record Gathers (r : Request) (x : Effect) : Type 0 where
    packet : List ℕ
    turn : Turn
    asked : r ≡ to_hear packet
    read : message_of m.limit packet ≡ Ok (new_view turn)
    good : Turned v m k turn
    is : x ≡ gathering m k books turn.head.site packet

  abbrev Does : Request → Effect → Type 0
  Does r x = Stays x ⊎ (Left x ⊎ Gathers r x)

  quiet : (r : Request) (x y : Effect) → x ≡ y → Stays y → Does r x
  quiet r x y e s = subst (Does r) (sym e) (inl s)

  hear_does : (out : ℕ) (packet : List ℕ) (c : Content) (x : Effect) → message_of m.limit packet ≡ Ok c → performed v m k books out (to_hear packet) ≡ Ok x → Does (to_hear packet) x
  hear_does out packet (propose c tag ms) x read h = let p = hear_as v m k books out packet (propose c tag ms) x read h in quiet (to_hear packet) x _ p.2 (refl, refl, refl, refl)
  hear_does out packet (prepare c tag) x read h = let p = hear_as v m k books out packet (prepare c tag) x read h in quiet (to_hear packet) x _ p.2 (refl, refl, refl, refl)
  hear_does out packet (commit c tag votes) x read h = let p = hear_as v m k books out packet (commit c tag votes) x read h in quiet (to_hear packet) x _ p.2 (refl, refl, refl, refl)
  hear_does out packet (new_view t) x read h =
      let p = hear_as v m k books out packet (new_view t) x read h in
      inr (inr (record { packet = packet; turn = t; asked = refl; read = read; good = turn_ok v m k t p.1; is = p.2 }))

  call_does : (out : ℕ) (r : Request) (x : Effect) → performed v m k books out r ≡ Ok x → Does r x
  call_does out (to_propose d) x h = let p = propose_done v m k books out d x h in quiet (to_propose d) x _ p.is (refl, refl, refl, refl)
  call_does out (to_hear packet) x h = let p = hear_done v m k books out packet x h in hear_does out packet p.content x p.read h
  call_does out (to_leave view) x h =
      let p = leave_done v m k books out view x h in
      subst (Does (to_leave view)) (sym p.is) (inr (inl (p.higher, λ j. ap (nat_lt 0) (blank 16 j 0))))
  call_does out (to_seal written tag) x h = let p = seal_done v m k books out written tag x h in quiet (to_seal written tag) x _ p.is (refl, refl, refl, refl)
  call_does out (to_judge view bytes) x h = let p = done_ok v (judging_call m k books view bytes) x h in quiet (to_judge view bytes) x _ p.1 (refl, refl, refl, refl)
  call_does out to_read x h = let p = done_ok v (read_call m k books) x h in quiet to_read x _ p.1 (refl, refl, refl, refl)

  -- when one is gathered, the others stay
  other_stays : (packet : List ℕ) (i j : ℕ) → j ≢ i → is_gathered m (gathering m k books i packet).kept j ≡ is_gathered m k j
  other_stays packet i j a = ap (nat_lt 0) (get_or-set_other k.lengths.views i j (length packet) 0 a)

-- what a call leaves, refused or not
left_by : (P : Kept → Books → Type 0) (k : Kept) (books : Books) (a : Result Effect Refused) → P k books → ((x : Effect) → a ≡ Ok x → P x.kept x.books) → P (kept_after k a) (books_after books a)
left_by P k books (Ok x) h f = f x refl
left_by P k books (Err e) h f = h

-- ---- none is lost while the view stays ----

module _ (v : Vouched) (m : Membership) (k : Kept) (books : Books) (out : ℕ) (r : Request) where
  -- a call after which the view is the same keeps every new-view that is gathered
  pub gathered_stays : (kept_after k (performed v m k books out r)).view ≡ k.view → (j : ℕ) → is_gathered m k j ≡ true → is_gathered m (kept_after k (performed v m k books out r)) j ≡ true
  gathered_stays same j g = left_by (λ (k' : Kept) (books' : Books). k'.view ≡ k.view → is_gathered m k' j ≡ true) k books (performed v m k books out r) (λ e. g) (λ x h e. by x e (call_does v m k books out r x h)) same
    where
      apart : (t : Turn) → Turned v m k t → j ≢ t.head.site
      apart t good e = true≢false (sym g ∙ ap (λ (i : ℕ). is_gathered m k i) e ∙ ap (nat_lt 0) good.was_empty)

      by : (x : Effect) → x.kept.view ≡ k.view → Does v m k books r x → is_gathered m x.kept j ≡ true
      by x e (inl s) = ap (λ (l : List ℕ). nat_lt 0 (slice_index l j)) s.2 ∙ g
      by x e (inr (inl l)) = absurd (let h = l.0 in omega arith)
      by x e (inr (inr a)) = subst (λ (y : Effect). is_gathered m y.kept j ≡ true) (sym a.is) (other_stays v m k books a.packet a.turn.head.site j (apart a.turn a.good) ∙ g)

  -- and they are no fewer
  pub count_stays : (kept_after k (performed v m k books out r)).view ≡ k.view → length (gathered m k) ≤ length (gathered m (kept_after k (performed v m k books out r)))
  count_stays same = members_le (is_gathered m k) (is_gathered m (kept_after k (performed v m k books out r))) (sites m.f m.t) (gathered_stays same)

-- ---- never more than a progress quorum ----

module _ (m : Membership) where
  abbrev Low : Kept → Type 0
  Low k = length (gathered m k) ≤ progress_quorum m.f m.t

  one_low : (v : Vouched) (k : Kept) (books : Books) (out : ℕ) (r : Request) (x : Effect) → Low k → performed v m k books out r ≡ Ok x → Low x.kept
  one_low v k books out r x low h = by (call_does v m k books out r x h)
    where
      more : (packet : List ℕ) (t : Turn) → Turned v m k t → Low (gathering m k books t.head.site packet).kept
      more packet t good =
          let i = t.head.site in
          let k' = (gathering m k books i packet).kept in
          let few = good.too_few in
          let before : is_gathered m k i ≡ false = ap (nat_lt 0) good.was_empty in
          elim (cases_Bool (is_gathered m k' i)) [
            | inl a ↦
                let e : length (gathered m k') ≡ length (gathered m k) + 1 = members_plus (is_gathered m k) (is_gathered m k') (sites m.f m.t) i good.site_is before a (other_stays v m k books packet i) in
                omega arith
            | inr a ↦
                let e : length (gathered m k') ≤ length (gathered m k) = members_le (is_gathered m k') (is_gathered m k) (sites m.f m.t) (λ j b. elim (cases_eq j i) [
                  | inl s ↦ absurd (true≢false (sym b ∙ ap (λ (n : ℕ). is_gathered m k' n) s ∙ a))
                  | inr s ↦ sym (other_stays v m k books packet i j s) ∙ b
                ]) in
                omega arith
          ]

      by : Does v m k books r x → Low x.kept
      by (inl s) = subst (λ (l : List ℕ). length (members (λ (j : ℕ). nat_lt 0 (slice_index l j)) 0 (sites m.f m.t)) ≤ progress_quorum m.f m.t) (sym s.2) low
      by (inr (inl l)) = omega (arith, ap length (none_of (is_gathered m x.kept) 0 (sites m.f m.t) l.1))
      by (inr (inr a)) = subst (λ (y : Effect). Low y.kept) (sym a.is) (more a.packet a.turn a.good)

  many_low : (s : Standing) (cs : List Called) → Low s.kept → Low (after_calls m s cs).kept
  many_low s [] low = low
  many_low s (c ∷ cs) low = many_low (after_call m s c) cs (left_by (λ (k : Kept) (books : Books). Low k) s.kept s.books (doing m s c) low (λ x h. one_low c.check s.kept s.books c.out c.request x low h))

  -- whatever was called
  pub count_low : (round : ℕ) (books : Books) (cs : List Called) → length (gathered m (standing m round books cs).kept) ≤ progress_quorum m.f m.t
  count_low round books cs = many_low (opened round books) cs (omega (arith, ap length (none_of (is_gathered m (opened round books).kept) 0 (sites m.f m.t) (λ j. ap (nat_lt 0) (blank 16 j 0)))))

-- ---- each is good ----

-- a packet that was heard as a new-view is read as one
turn_heard : (limit : ℕ) (packet : List ℕ) (t : Turn) → limit < 2 ^ 32 → Bytes packet → message_of limit packet ≡ Ok (new_view t) → turn_of limit packet ≡ Ok t
unfolding turn_bytes
turn_heard limit packet t small bytes read =
    let w = message_only limit packet bytes (new_view t) read in
    let b = turn_bytes t in
    let e = turn_back limit b 0 t small w.1 (whole b) in
    let end : (0 + length b == length b) ≡ true = eq-eqb (0 + length b) (length b) (omega arith) in
    subst (λ (z : List ℕ). turn_of limit z ≡ Ok t) (sym w.0) (ap (wholly b) e ∙ ap (λ (x : Bool). cond x (Ok t) (fault (0 + length b))) end)

module _ (w : Vouched) (m : Membership) where
  -- what the row of site j holds: a new-view of that site for this view, that passes its tests
  pub record GoodRow (round view : ℕ) (lengths views : List ℕ) (j : ℕ) : Type 0 where
    pub turn : Turn
    pub read : turn_of m.limit (held_row views (view_row m.f m.t m.limit) lengths j) ≡ Ok turn
    pub site : turn.head.site ≡ j
    pub inside : j < sites m.f m.t
    pub later : view ≢ 1
    pub change : Changed w round view true (change_of turn) turn.tag
    pub certified : (place : ℕ) → passed w (certified_steps m.f m.t round place turn.committed) ≡ Ok (tt {0})

  -- that of each site whose new-view is gathered
  abbrev pub GoodRows : Kept → Books → Type 0
  GoodRows k books = (j : ℕ) → is_gathered m k j ≡ true → GoodRow k.round k.view k.lengths.views books.views j

  -- a new-view that is heard fills a good row, and the others stay
  module _ (limit : legal_limit m.limit ≡ true) (k : Kept) (books : Books) (rows : GoodRows k books) (packet : List ℕ) (t : Turn) (bytes : Bytes packet) (read : message_of m.limit packet ≡ Ok (new_view t)) (good : Turned w m k t)
      (f : NewViewHeard w m k books t packet (gathering m k books t.head.site packet)) where
    abbrev left : Effect
    left = gathering m k books t.head.site packet

    abbrev Now : ℕ → Type 0
    Now j = GoodRow k.round k.view left.kept.lengths.views left.books.views j

    own_row : Now t.head.site
    own_row =
        record {
          turn = t;
          read = ap (turn_of m.limit) f.packet_held ∙ turn_heard m.limit packet t (small_limit m.limit limit) bytes read;
          site = refl;
          inside = good.site_is;
          later = good.later;
          change = record { round_is = good.round_is; view_is = good.view_is; is_known = refl; prepared = good.prepared; committed = good.committed; is_vouched = good.is_vouched };
          certified = λ place. certified_anywhere m.f m.t k.round w (behind_tag 0 t) place t.committed good.certified;
        }

    other_row : (j : ℕ) → j ≢ t.head.site → is_gathered m left.kept j ≡ true → Now j
    other_row j n g =
        let old = rows j (sym (other_stays w m k books packet t.head.site j n) ∙ g) in
        record {
          turn = old.turn;
          read = ap (turn_of m.limit) (ap₂ (λ (l : ℕ) (row : List ℕ). take l row) (f.other_lengths j n) (f.other_views j n)) ∙ old.read;
          site = old.site;
          inside = old.inside;
          later = old.later;
          change = old.change;
          certified = old.certified;
        }

    heard_rows : GoodRows left.kept left.books
    heard_rows j g = elim (cases_eq j t.head.site) [
      | inl s ↦ subst Now (sym s) own_row
      | inr n ↦ other_row j n g
    ]

  module _ (round : ℕ) (fleet : legal_fleet m.f m.t ≡ true) (limit : legal_limit m.limit ≡ true) where
    call_rows : (k : Kept) (books : Books) → Inv w m round k books → GoodRows k books → (out : ℕ) (r : Request) (x : Effect) → OfBytes r → performed w m k books out r ≡ Ok x → GoodRows x.kept x.books
    call_rows k books inv rows out r x bytes h = by (call_does w m k books out r x h)
      where
        by : Does w m k books r x → GoodRows x.kept x.books
        by (inl s) = λ j g. rw (s.0, s.1, s.2, s.3) (rows j (ap (λ (l : List ℕ). nat_lt 0 (slice_index l j)) (sym s.2) ∙ g))
        by (inr (inl l)) = λ j g. absurd (true≢false (sym g ∙ l.1 j))
        by (inr (inr a)) =
            let b : Bytes a.packet = subst OfBytes a.asked bytes in
            let done = subst (λ (q : Request). performed w m k books out q ≡ Ok x) a.asked h in
            let f = hear_gathers w m k books out a.packet a.turn x (sound w m round k books fleet limit inv) b a.read done in
            subst (λ (y : Effect). GoodRows y.kept y.books) (sym a.is) (heard_rows limit k books rows a.packet a.turn b a.read a.good (subst (NewViewHeard w m k books a.turn a.packet) a.is f))

    many_rows : (s : Standing) (cs : List Called) → Each (λ (a : Called). OfBytes a.request) cs → KeepsToCalls w m s cs → Inv w m round s.kept s.books → GoodRows s.kept s.books
        → GoodRows (after_calls m s cs).kept (after_calls m s cs).books
    many_rows s [] bytes keeps inv rows = rows
    many_rows s (c ∷ cs) bytes keeps inv rows =
        many_rows (after_call m s c) cs bytes.1 keeps.1 (one_call w m round fleet limit s c keeps.0 inv)
        (left_by GoodRows s.kept s.books (doing m s c) rows (λ x h. call_rows s.kept s.books inv rows c.out c.request x bytes.0 (kept_performed c.check w m s.kept s.books c.out c.request x keeps.0 h)))

    -- whatever was called and heard
    pub always_rows : (books : Books) (cs : List Called) → Each (λ (a : Called). OfBytes a.request) cs → KeepsToCalls w m (opened round books) cs
        → GoodRows (standing m round books cs).kept (standing m round books cs).books
    always_rows books cs bytes keeps =
        many_rows (opened round books) cs bytes keeps (at_first w m round fleet limit books) (λ j g. absurd (true≢false (sym g ∙ ap (nat_lt 0) (blank 16 j 0))))

-- ---- together they are a progress certificate ----

module _ (w : Vouched) (m : Membership) (k : Kept) (books : Books) (rows : GoodRows w m k books) where
  -- those of so many sites from low on, read from a place on
  record Reads (low n place : ℕ) : Type 0 where
    xs : List Turn
    read : turns_read m k books.views place (members (is_gathered m k) low n) ≡ Ok xs
    many : length xs ≡ length (members (is_gathered m k) low n)
    later : 0 < length xs → k.view ≢ 1
    pass : (least at : ℕ) → least ≤ low → passed w (entries_steps m.f m.t k.round k.view least at xs) ≡ Ok (tt {0})

  entry : (low least at : ℕ) → least ≤ low → (g : GoodRow w m k.round k.view k.lengths.views books.views low) → passed w (entry_steps m.f m.t k.round k.view least at g.turn) ≡ Ok (tt {0})
  entry low least at l g =
      let x = g.turn in
      let i = x.head.site in
      let n = sites m.f m.t in
      let same = g.site in
      let inside = g.inside in
      let known : rising n least i ≡ true = and_from (leb least i) (ltb i n) (le-leb least i (omega arith)) (lt-ltb i n (omega arith)) in
      let c = g.change in
      let changed : Changed w k.round k.view (rising n least i) (change_of x) x.tag =
      record { round_is = c.round_is; view_is = c.view_is; is_known = known; prepared = c.prepared; committed = c.committed; is_vouched = c.is_vouched } in
      let change = change_steps k.round k.view (rising n least i) at (change_of x) x.tag in
      let certified = certified_steps m.f m.t k.round (behind_tag at x) x.committed in
      append_made w (blamed (at_depth 1) change) (blamed (at_depth 2) certified)
      (blamed_made w (at_depth 1) change (change_made w k.round k.view (rising n least i) at (change_of x) x.tag changed))
      (blamed_made w (at_depth 2) certified (g.certified (behind_tag at x)))

  put : (low n place : ℕ) → is_gathered m k low ≡ true → GoodRow w m k.round k.view k.lengths.views books.views low → Reads (suc low) n (place + length (gathered_turn m k books.views low)) → Reads low (suc n) place
  put low n place h g rest =
      let x = g.turn in
      record {
        xs = x ∷ rest.xs;
        read = rw h (rw (g.read, rest.read) refl);
        many = rw h (ap suc rest.many);
        later = λ l. g.later;
        pass = λ least at l.
            let same = g.site in
            append_made w (entry_steps m.f m.t k.round k.view least at x) (entries_steps m.f m.t k.round k.view (x.head.site + 1) (at + length (turn_bytes x)) rest.xs)
            (entry low least at l g) (rest.pass (x.head.site + 1) (at + length (turn_bytes x)) (omega arith));
      }

  pass_over : (low n place : ℕ) → is_gathered m k low ≡ false → Reads (suc low) n place → Reads low (suc n) place
  pass_over low n place h rest =
      record { xs = rest.xs; read = rw h rest.read; many = rw h rest.many; later = rest.later; pass = λ least at l. rest.pass least at (omega arith) }

  reads : (low n place : ℕ) → Reads low n place
  reads low zero place = record { xs = []; read = refl; many = refl; later = λ l. absurd (omega arith); pass = λ least at l. refl }
  reads low (suc n) place = elim (cases_Bool (is_gathered m k low)) [
    | inl h ↦ put low n place h (rows low h) (reads (suc low) n (place + length (gathered_turn m k books.views low)))
    | inr h ↦ pass_over low n place h (reads (suc low) n place)
  ]

  -- once they are enough
  certificate : length (gathered m k) ≡ progress_quorum m.f m.t
      → (xs : List Turn) × (turns_read m k books.views 4 (gathered m k) ≡ Ok xs) × ((place : ℕ) → passed w (progress_steps m.f m.t k.round k.view place xs) ≡ Ok (tt {0}))
  certificate enough =
      let r = reads 0 (sites m.f m.t) 4 in
      let many : length r.xs ≡ progress_quorum m.f m.t = r.many ∙ enough in
      let above : (k.view == 1) ≡ false = ne_eqb k.view 1 (r.later (omega arith)) in
      (r.xs, r.read, λ place. rw (above, eq-eqb (length r.xs) (progress_quorum m.f m.t) many) (r.pass 0 (place + 4) (omega arith)))

pub gathered_are_good : GatheredAreGood
gathered_are_good w m round books cs fleet limit bytes keeps enough =
    let s = standing m round books cs in
    let rows = always_rows w m round fleet limit books cs bytes keeps in
    let inv = always w m round fleet limit books cs keeps in
    let c = certificate w m s.kept s.books rows enough in
    (c.0, c.1, λ place. subst (λ (n : ℕ). passed w (progress_steps m.f m.t n s.kept.view place c.0) ≡ Ok (tt {0})) inv.round_is (c.2 place))
