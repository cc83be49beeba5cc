-- A content read from a packet, and the parts of the packet that hold it.
use Rattle.std.proofs.Common.{◌≡◌, ℕ, ◌+◌, ◌-◌, List, length, take, drop, Some, None, Ok, Option, sym, ap, ◌∙◌, arith}
use Rattle.std.proofs.lemmas.List.{take_rest, drop_all}
use Rattle.values.specs.declared.fix.Report.{Report}
use Rattle.wire.specs.declared.statement.Claim.{Claim}
use Rattle.wire.specs.declared.statement.ViewChange.{ViewChange}
use Rattle.wire.specs.declared.statement.Statement.{Statement}
use Rattle.wire.specs.declared.statement.Statement.TheVariants.{Propose, Prepare, Commit, NewView}
use Rattle.wire.specs.Contents.{Certified, Turn, Content, propose, prepare, commit, new_view, reported, change_bytes, statement_bytes, tag_bytes}
use Rattle.wire.specs.Layout.{claim_at, change_at, tag_at, votes_at, certified_at, progress_at, turn_at, nothing_at, wholly, propose_of, prepare_of, commit_of, new_view_of}
use Rattle.wire.specs.Places.{behind}
use Rattle.messages.specs.Parts.{map_ok, under, bare, Pieces, pieced, parts_at, rest_at, locate}
use Rattle.wire.proofs.Results.{bind_ok, ok_same}
use Rattle.wire.proofs.Lengths.{tag_read_lem, claim_ends, change_ends}
use Rattle.messages.proofs.Envelopes.{envelope_on, envelope_behind, envelope_same}

-- the parts that lie behind a statement of n bytes and a tag up to k
abbrev pieces : List ℕ → Statement → ℕ → List ℕ → ℕ → ℕ → Pieces Statement
pieces b s n t k end = record { statement = s; tag = record { place = n; bytes = t }; attachment = record { place = k; bytes = take (end - k) (drop k b) } }

-- the same, with all that is left
abbrev placed : List ℕ → Statement → ℕ → List ℕ → ℕ → Pieces Statement
placed b s n t k = record { statement = s; tag = record { place = n; bytes = t }; attachment = rest_at b k }

module _ (limit : ℕ) (b : List ℕ) where
  cuts : (m : Content) (s : Statement) (n k end : ℕ) (t : List ℕ) → locate b m ≡ pieces b s (length (statement_bytes s)) t (length (statement_bytes s) + length (tag_bytes t)) (length b)
      → n ≡ length (statement_bytes s) → k ≡ n + length (tag_bytes t) → end ≡ length b → locate b m ≡ pieces b s n t k end
  cuts m s n k end t h e f g = rw (g, f, e) h

  rest : (s : Statement) (n k : ℕ) (t : List ℕ) → placed b s n t k ≡ pieces b s n t k (length b)
  rest s n k t = rw (take_rest b k)

  pub propose_located : map_ok (locate b) (propose_of limit b) ≡ map_ok (under Propose) (wholly b (parts_at 1 (claim_at b) (λ c k. behind (progress_at limit b k)) limit b 0))
  unfolding propose_of locate
  propose_located =
      envelope_same b 1 (claim_at b) (tag_at limit b) (λ c. progress_at limit b) (λ s t a. propose s.0 t.0 a.0) (pieced b) (locate b) (under Propose)
      (λ s t a p q r e. cuts (propose s.0 t.0 a.0) (Propose s.0) s.1 t.1 a.1 t.0 (rest (Propose s.0) 28 (28 + length (tag_bytes t.0)) t.0) (claim_ends b 4 s p) (tag_read_lem limit b s.1 t q).ends e)

  pub commit_located : map_ok (locate b) (commit_of limit b) ≡ map_ok (under Commit) (wholly b (parts_at 3 (claim_at b) (λ c k. behind (votes_at limit b k)) limit b 0))
  unfolding commit_of locate
  commit_located =
      envelope_same b 3 (claim_at b) (tag_at limit b) (λ c. votes_at limit b) (λ s t a. commit s.0 t.0 a.0) (pieced b) (locate b) (under Commit)
      (λ s t a p q r e. cuts (commit s.0 t.0 a.0) (Commit s.0) s.1 t.1 a.1 t.0 (rest (Commit s.0) 28 (28 + length (tag_bytes t.0)) t.0) (claim_ends b 4 s p) (tag_read_lem limit b s.1 t q).ends e)

  nothing_left : (n k end : ℕ) (t : List ℕ) (c : Claim) → n ≡ 28 → k ≡ n + length (tag_bytes t) → end ≡ length b → k ≡ end
      → placed b (Prepare c) 28 t (28 + length (tag_bytes t)) ≡ bare (record { statement = c; tag = record { place = n; bytes = t }; attachment = rest_at b k })
  nothing_left n k end t c e f g h = rw (e, drop_all (28 + length (tag_bytes t)) b (omega arith))

  pub prepare_located : map_ok (locate b) (prepare_of limit b) ≡ map_ok bare (wholly b (parts_at 2 (claim_at b) (λ c k. Ok k) limit b 0))
  unfolding prepare_of locate
  prepare_located =
      envelope_same b 2 (claim_at b) (tag_at limit b) (λ c. nothing_at) (λ s t a. prepare s.0 t.0) (pieced b) (locate b) bare
      (λ s t a p q r e. nothing_left s.1 t.1 a.1 t.0 s.0 (claim_ends b 4 s p) (tag_read_lem limit b s.1 t q).ends e (ap (λ (z : Unit {0} × ℕ). z.1) (ok_same r)))

  certified_reports : (o : Option Report) (k : ℕ) (a : Option Certified × ℕ) → certified_at limit b o k ≡ Ok a → reported a.0 ≡ o
  certified_reports None k a h = rw (sym (ok_same h))
  certified_reports (Some r) k a h = let q = bind_ok (votes_at limit b k) _ a h in rw (sym (ok_same q.2))

  abbrev turned : ViewChange × ℕ → List ℕ × ℕ → Option Certified × ℕ → Turn
  turned s t a = record { head = s.0.head; prepared = s.0.prepared; committed = a.0; tag = t.0 }

  abbrev said : Statement → List ℕ → Pieces Statement
  said s t = placed b s (length (statement_bytes s)) t (length (statement_bytes s) + length (tag_bytes t))

  turned_rest : (s : ViewChange) (o : Option Report) (t : List ℕ) → o ≡ s.committed
      → said (NewView (record { head = s.head; prepared = s.prepared; committed = o })) t ≡ pieces b (NewView s) (length (statement_bytes (NewView s))) t (length (statement_bytes (NewView s)) + length (tag_bytes t)) (length b)
  turned_rest s o t e = rw (e, take_rest b (length (statement_bytes (NewView s)) + length (tag_bytes t)))

  stated : (s : ViewChange) (n : ℕ) → n ≡ 4 + length (change_bytes s) → n ≡ length (statement_bytes (NewView s))
  stated s n e = omega arith

  pub new_view_located : map_ok (locate b) (new_view_of limit b) ≡ map_ok (under NewView) (wholly b (parts_at 4 (change_at b) (λ c k. behind (certified_at limit b c.committed k)) limit b 0))
  unfolding new_view_of turn_at locate
  new_view_located =
      ap (λ r. map_ok (locate b) (wholly b r)) (envelope_on b 4 (change_at b) (tag_at limit b) (λ c. certified_at limit b c.committed) turned new_view 0)
      ∙ envelope_same b 4 (change_at b) (tag_at limit b) (λ c. certified_at limit b c.committed) (λ s t a. new_view (turned s t a)) (pieced b) (locate b) (under NewView)
      (λ s t a p q r e. cuts (new_view (turned s t a)) (NewView s.0) s.1 t.1 a.1 t.0 (turned_rest s.0 (reported a.0) t.0 (certified_reports s.0.committed t.1 a r)) (stated s.0 s.1 (change_ends b 4 s p)) (tag_read_lem limit b s.1 t q).ends e)

  pub turn_behind : (at : ℕ) → behind (parts_at 4 (change_at b) (λ c k. behind (certified_at limit b c.committed k)) limit b at) ≡ behind (turn_at limit b at)
  unfolding turn_at
  turn_behind at = envelope_behind b 4 (change_at b) (tag_at limit b) (λ c. certified_at limit b c.committed) turned (pieced b) at
