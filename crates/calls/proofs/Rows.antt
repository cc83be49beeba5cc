-- The gathered new-views, read one by one where they lie.
use Rattle.std.proofs.Common.{◌≡◌, ℕ, suc, ◌+◌, ◌*◌, ◌^◌, ◌<◌, ◌≤◌, true, false, cond, eqb, List, [], ◌∷◌, length, set, length-set, Ok, Err, Result, sym, refl, ap, ◌∙◌, arith, ◌≢◌}
use Rattle.std.proofs.lemmas.Option.{IfSome_then}
use Rattle.std.specs.Option.{IfSome}
use Rattle.std.proofs.lemmas.Bool.{false≢true, eq-eqb, ne_eqb}
use Rattle.std.specs.Result.{IsOk, IfOk}
use Rattle.wire.specs.declared.words.Malformed.{Malformed}
use Rattle.wire.specs.Words.{bind}
use Rattle.wire.specs.declared.statement.ViewChange.{ViewChange}
use Rattle.wire.specs.Contents.{Turn, change_of, turn_bytes}
use Rattle.wire.specs.Layout.{turn_at}
use Rattle.messages.specs.Parts.{map_ok}
use Rattle.values.specs.Refusals.{Refused, first_of, moved}
use Rattle.packets.proofs.Only.{wholly_ok}
use Rattle.checks.specs.Vouching.{Vouched}
use Rattle.certificates.specs.Steps.{passed, answering}
use Rattle.certificates.specs.Faults.{bad_count, at_depth, failing}
use Rattle.certificates.specs.Examining.{entry_steps, entries_steps, entries_needed, progress_steps}
use Rattle.certificates.specs.Judging.{reports_of}
use Rattle.certificates.proofs.Passing.{next, passed_append, passed_blamed, answered_ok, answered_err}
use Rattle.certificates.proofs.Turns.{turn_ends}
use Rattle.certificates.proofs.Moved.{entry_moves, entry_place}
use Rattle.records.specs.Kept.{Membership, Kept}
use Rattle.calls.specs.Hearing.{turns_of}
use Rattle.calls.specs.Gathering.{members, placed, turn_of, is_gathered, gathered, gathered_turn, turns_read}

-- ---- sizes ----

-- the place behind a row
pub place_on : (place site size len : ℕ) → place ≤ 4 + site * size → len ≤ size → place + len ≤ 4 + (site + 1) * size
place_on place site size len a b = omega (arith, a, b)

pub place_stays : (place site size : ℕ) → place ≤ 4 + site * size → place ≤ 4 + (site + 1) * size
place_stays place site size a = omega (arith, a)

pub set_long : {A : Type 0} (xs : List A) (i : ℕ) (x : A) → 16 ≤ length xs → 16 ≤ length (set xs i x)
set_long xs i x h = omega (arith, length-set xs i x, h)

-- ---- the rows that are left ----

module _ (m : Membership) (k : Kept) (views : List ℕ) where
  abbrev pub rest : ℕ → ℕ → ℕ → Result (List Turn) Malformed
  rest place n site = turns_read m k views place (members (is_gathered m k) site n)

  abbrev row : ℕ → List ℕ
  row site = gathered_turn m k views site

  abbrev add : Turn → List Turn → Result (List Turn) Malformed
  add x xs = Ok (x ∷ xs)

  -- the row's reading, and then those of the others
  abbrev both : Result Turn Malformed → Result (List Turn) Malformed → Result (List Turn) Malformed
  both r s = bind r (λ x. bind s (add x))

  pub passed_over : (place n p site : ℕ) → n ≡ suc p → is_gathered m k site ≡ false → rest place n site ≡ rest place p (site + 1)
  passed_over place n p site e h = let next_is : suc site ≡ site + 1 = omega arith in rw (e, h, next_is)

  pub taken : (place n p site : ℕ) → n ≡ suc p → is_gathered m k site ≡ true → rest place n site ≡ both (placed place (turn_of m.limit (row site))) (rest (place + length (row site)) p (site + 1))
  taken place n p site e h = let next_is : suc site ≡ site + 1 = omega arith in rw (e, h, next_is)

  -- ---- their layout alone ----

  layout_next : (r : Result Turn Malformed) (s : Result (List Turn) Malformed) → ◌≡◌ {A = Result (Unit {0}) Malformed} (Ok (tt {0})) (map_ok (λ (x : Turn). tt {0}) r)
      → ◌≡◌ {A = Result (Unit {0}) Malformed} (map_ok (λ (xs : List Turn). tt {0}) (both r s)) (map_ok (λ (xs : List Turn). tt {0}) s)
  layout_next (Ok x) (Ok xs) h = refl
  layout_next (Ok x) (Err e) h = refl
  layout_next (Err e) s h = absurd (let z : ◌≡◌ {A = ℕ} 0 1 = cc in omega arith)

  pub row_read : (place n p site : ℕ) → n ≡ suc p → is_gathered m k site ≡ true
      → ◌≡◌ {A = Result (Unit {0}) Malformed} (Ok (tt {0})) (map_ok (λ (x : Turn). tt {0}) (placed place (turn_of m.limit (row site))))
      → ◌≡◌ {A = Result (Unit {0}) Malformed} (map_ok (λ (xs : List Turn). tt {0}) (rest place n site)) (map_ok (λ (xs : List Turn). tt {0}) (rest (place + length (row site)) p (site + 1)))
  row_read place n p site e h r =
      ap (map_ok (λ (xs : List Turn). tt {0})) (taken place n p site e h)
      ∙ layout_next (placed place (turn_of m.limit (row site))) (rest (place + length (row site)) p (site + 1)) r

-- ---- a row as an entry of the certificate ----

-- what is read of it stands at its start, and fills it
pub row_turn : (limit : ℕ) (b : List ℕ) (x : Turn) → turn_of limit b ≡ Ok x → turn_at limit b 0 ≡ Ok (x, length b)
row_turn limit b x h =
    let w = wholly_ok b (turn_at limit b 0) x h in
    w.1 ∙ ap (λ (n : ℕ). Ok (w.0.0, n)) w.2 ∙ ap (λ (y : Turn). Ok (y, length b)) w.3

pub row_length : (limit : ℕ) (b : List ℕ) (x : Turn) → turn_of limit b ≡ Ok x → length b ≡ length (turn_bytes x)
row_length limit b x h = omega (arith, turn_ends limit b 0 (x, length b) (row_turn limit b x h))

pub if_ok : {A : Type 0} (r : Result A Malformed) (x : A) (P : A → Type 0) → r ≡ Ok x → IfOk r P → P x
if_ok r x P e h = rw e at h

module _ (v : Vouched) (f t round view low place : ℕ) (x : Turn) (known : ℕ) (same : known ≡ view) where
  -- with the view as the code has it
  abbrev at_start : Result (Unit {0}) Refused
  at_start = passed v (entry_steps f t round known low 0 x)

  abbrev in_place : Result (Unit {0}) Refused
  in_place = passed v (entry_steps f t round view low place x)

  moves : in_place ≡ failing (moved place) at_start
  moves =
      let here : place + 0 ≡ place = omega arith in
      ap (λ (n : ℕ). passed v (entry_steps f t round view low n x)) (sym here)
      ∙ ap (passed v) (entry_moves f t round view place low 0 x)
      ∙ passed_blamed (moved place) v (entry_steps f t round view low 0 x)
      ∙ ap (λ (w : ℕ). failing (moved place) (passed v (entry_steps f t round w low 0 x))) (sym same)

  pub entry_good : (said : ViewChange) (end n : ℕ) → ◌≡◌ {A = Result (ViewChange × ℕ) Refused} (Ok (said, end)) (answering at_start (change_of x, n))
      → ◌≡◌ {A = Result ViewChange Refused} (Ok said) (answering in_place (change_of x))
  entry_good said end n h =
      let e = answered_ok at_start (change_of x, n) (said, end) h in
      let said_is : said ≡ change_of x = ap (λ (z : ViewChange × ℕ). z.0) e.1 in
      let good : in_place ≡ Ok tt = moves ∙ ap (failing (moved place)) e.0 in
      rw (good, said_is)

  pub entry_bad : (fault : Refused) (n : ℕ) → ◌≡◌ {A = Result (ViewChange × ℕ) Refused} (Err fault) (answering at_start (change_of x, n))
      → ◌≡◌ {A = Result ViewChange Refused} (Err (moved place fault)) (answering in_place (change_of x))
  entry_bad fault n h =
      let bad : in_place ≡ Err (moved place fault) = moves ∙ ap (failing (moved place)) (answered_err at_start (change_of x, n) fault h) in
      rw bad

  pub entry_fits : (fault : Refused) (n : ℕ) (b : List ℕ) → ◌≡◌ {A = Result (ViewChange × ℕ) Refused} (Err fault) (answering at_start (change_of x, n)) → length b ≡ length (turn_bytes x)
      → place + length b < 2 ^ 64 → IfSome (first_of fault.values) (λ p. place + p < 2 ^ 64)
  entry_fits fault n b h e l =
      IfSome_then (first_of fault.values) (entry_place v f t round known low 0 x fault (answered_err at_start (change_of x, n) fault h)) (λ p q. omega (arith, q, e, l))

-- ---- the rows as the certificate's entries, one by one ----

module _ (m : Membership) (k : Kept) (views : List ℕ) where
  abbrev here : ℕ → List ℕ
  here site = gathered_turn m k views site

  abbrev left : ℕ → ℕ → ℕ → Result (List Turn) Malformed
  left place n site = rest m k views place n site

  -- the first of the rows that are left, and the others
  pub record RowOn (place n p site : ℕ) : Type 0 where
    pub turn : Turn
    pub reads : turn_of m.limit (here site) ≡ Ok turn
    pub others : IsOk (left (place + length (here site)) p (site + 1))
    pub split : turns_of (left place n site) ≡ turn ∷ turns_of (left (place + length (here site)) p (site + 1))

  add_one : (x : Turn) (s : Result (List Turn) Malformed) → IsOk (bind s (λ (xs : List Turn). Ok (x ∷ xs))) → IsOk s × (turns_of (bind s (λ (xs : List Turn). Ok (x ∷ xs))) ≡ x ∷ turns_of s)
  add_one x (Ok xs) h = (refl, refl)
  add_one x (Err e) h = absurd (false≢true h)

  row_by : (place : ℕ) (r : Result Turn Malformed) (s : Result (List Turn) Malformed) → IsOk (bind (placed place r) (λ x. bind s (λ (xs : List Turn). Ok (x ∷ xs))))
      → (x : Turn) × (r ≡ Ok x) × IsOk s × (turns_of (bind (placed place r) (λ x. bind s (λ (xs : List Turn). Ok (x ∷ xs)))) ≡ x ∷ turns_of s)
  row_by place (Ok x) s h = let e = add_one x s h in (x, refl, e.0, e.1)
  row_by place (Err e) s h = absurd (false≢true h)

  pub row_on : (place n p site : ℕ) → n ≡ suc p → is_gathered m k site ≡ true → IsOk (left place n site) → RowOn place n p site
  row_on place n p site e g h =
      let t = taken m k views place n p site e g in
      let r = row_by place (turn_of m.limit (here site)) (left (place + length (here site)) p (site + 1)) (rw t at h) in
      record { turn = r.0; reads = r.1; others = r.2; split = ap turns_of t ∙ r.3 }

  module _ (v : Vouched) (f t round view : ℕ) where
    abbrev entries : ℕ → ℕ → ℕ → ℕ → Result (Unit {0}) Refused
    entries low place n site = passed v (entries_steps f t round view low place (turns_of (left place n site)))

    steps_by : (low place n p site : ℕ) (r : RowOn place n p site)
        → entries low place n site ≡ next (passed v (entry_steps f t round view low place r.turn)) (entries (r.turn.head.site + 1) (place + length (here site)) p (site + 1))
    steps_by low place n p site r =
        let xs = turns_of (left (place + length (here site)) p (site + 1)) in
        ap (λ (ys : List Turn). passed v (entries_steps f t round view low place ys)) r.split
        ∙ passed_append v (entry_steps f t round view low place r.turn) (entries_steps f t round view (r.turn.head.site + 1) (place + length (turn_bytes r.turn)) xs)
        ∙ ap (λ (l : ℕ). next (passed v (entry_steps f t round view low place r.turn)) (passed v (entries_steps f t round view (r.turn.head.site + 1) (place + l) xs))) (sym (row_length m.limit (here site) r.turn r.reads))

    -- an entry that passed
    pub record EntryOn (low place n p site : ℕ) (said : ViewChange) : Type 0 where
      pub steps : entries low place n site ≡ entries (said.head.site + 1) (place + length (here site)) p (site + 1)
      pub reports : reports_of (turns_of (left place n site)) ≡ record { prepared = said.prepared; committed = said.committed } ∷ reports_of (turns_of (left (place + length (here site)) p (site + 1)))

    pub entry_on : (low place n p site : ℕ) (r : RowOn place n p site) (said : ViewChange) → ◌≡◌ {A = Result ViewChange Refused} (Ok said) (answering (passed v (entry_steps f t round view low place r.turn)) (change_of r.turn)) → EntryOn low place n p site said
    entry_on low place n p site r said h =
        let e = answered_ok (passed v (entry_steps f t round view low place r.turn)) (change_of r.turn) said h in
        rw e.1
        (record {
          steps = steps_by low place n p site r ∙ ap (λ (z : Result (Unit {0}) Refused). next z (entries (r.turn.head.site + 1) (place + length (here site)) p (site + 1))) e.0;
          reports = ap reports_of r.split;
        })

    -- one that failed
    pub entry_stops : (low place n p site : ℕ) (r : RowOn place n p site) (fault : Refused) → ◌≡◌ {A = Result ViewChange Refused} (Err fault) (answering (passed v (entry_steps f t round view low place r.turn)) (change_of r.turn))
        → entries low place n site ≡ Err fault
    entry_stops low place n p site r fault h =
        steps_by low place n p site r
        ∙ ap (λ (z : Result (Unit {0}) Refused). next z (entries (r.turn.head.site + 1) (place + length (here site)) p (site + 1))) (answered_err (passed v (entry_steps f t round view low place r.turn)) (change_of r.turn) fault h)

-- as many are read as are gathered
turns_length : (m : Membership) (k : Kept) (views : List ℕ) (place : ℕ) (js : List ℕ) → IsOk (turns_read m k views place js) → length (turns_of (turns_read m k views place js)) ≡ length js
turns_length m k views place [] h = refl
turns_length m k views place (j ∷ js) h =
    let r = row_by m k views place (turn_of m.limit (gathered_turn m k views j)) (turns_read m k views (place + length (gathered_turn m k views j)) js) h in
    ap length r.3 ∙ ap suc (turns_length m k views (place + length (gathered_turn m k views j)) js r.2)

-- the certificate by how many are gathered
module _ (v : Vouched) (m : Membership) (k : Kept) (views : List ℕ) (n : ℕ) (same : n ≡ length (gathered m k)) (h : IsOk (turns_read m k views 4 (gathered m k))) where
  abbrev turns : List Turn
  turns = turns_of (turns_read m k views 4 (gathered m k))

  counted : passed v (progress_steps m.f m.t k.round k.view 0 turns)
      ≡ cond (eqb n (entries_needed m.f m.t k.view)) (passed v (entries_steps m.f m.t k.round k.view 0 4 turns)) (Err (at_depth 1 (bad_count 0)))
  counted =
      ap (λ (i : ℕ). cond (eqb i (entries_needed m.f m.t k.view)) (passed v (entries_steps m.f m.t k.round k.view 0 4 turns)) (Err (at_depth 1 (bad_count 0))))
      (turns_length m k views 4 (gathered m k) h ∙ sym same)

  pub enough : n ≡ entries_needed m.f m.t k.view → passed v (progress_steps m.f m.t k.round k.view 0 turns) ≡ passed v (entries_steps m.f m.t k.round k.view 0 4 turns)
  enough e = counted ∙ rw (eq-eqb n (entries_needed m.f m.t k.view) e)

  pub not_enough : n ≢ entries_needed m.f m.t k.view → passed v (progress_steps m.f m.t k.round k.view 0 turns) ≡ Err (at_depth 1 (bad_count 0))
  not_enough e = counted ∙ rw (ne_eqb n (entries_needed m.f m.t k.view) e)
