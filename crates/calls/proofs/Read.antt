-- A packet that was read as a message, and its parts.
use Rattle.std.proofs.Common.{◌≡◌, ℕ, ◌+◌, Bool, true, false, cond, eqb, List, length, Ok, Err, Result, sym, refl, ap, subst, ◌∙◌, arith, ◌≢◌}
use Rattle.std.specs.Result.{IsOk}
use Rattle.wire.specs.declared.words.Malformed.{Malformed}
use Rattle.wire.specs.declared.statement.Claim.{Claim}
use Rattle.wire.specs.declared.statement.ViewChange.{ViewChange}
use Rattle.wire.specs.declared.statement.Statement.{Statement}
use Rattle.wire.specs.declared.statement.Statement.TheVariants as statement
use Rattle.wire.specs.Words.{bind, fault, word_at}
use Rattle.wire.specs.Contents.{kind_of, statement_bytes, tag_bytes, reported, change_of, Content, propose, prepare, commit, new_view}
use Rattle.wire.specs.Layout.{wholly, envelope_at, claim_at, tag_at, votes_at, certified_at, turn_at, progress_at, propose_of, prepare_of, commit_of, new_view_of, message_by, message_of}
use Rattle.wire.proofs.Results.{bind_ok, ok_same}
use Rattle.wire.proofs.Lengths.{tag_read_lem, claim_ends}
use Rattle.messages.specs.Parts.{Cut, Pieces, map_ok, locate}
use Rattle.packets.proofs.Only.{opened, wholly_ok}
use Rattle.certificates.specs.Reading.{read_of, optional_of}
use Rattle.certificates.proofs.Turns.{turn_parts, read_parts}
use Rattle.calls.specs.Hearing.{turn_with}

-- what a content attaches stands behind its tag, up to the end
abbrev pub Attached : ℕ → List ℕ → Content → Type 0
Attached limit b (propose c t ms) = progress_at limit b (28 + length (tag_bytes t)) ≡ Ok (ms, length b)
Attached limit b (prepare c t) = Unit {0}
Attached limit b (commit c t vs) = votes_at limit b (28 + length (tag_bytes t)) ≡ Ok (vs, length b)
Attached limit b (new_view x) =
    certified_at limit b (reported x.committed) (length (statement_bytes (statement.NewView (change_of x))) + length (tag_bytes x.tag)) ≡ Ok (x.committed, length b)

module _ (limit : ℕ) (b : List ℕ) where
  -- a claim that was read with its attachment
  claimed : {A : Type 0} (kind : ℕ) (att : ℕ → Result (A × ℕ) Malformed) (make : Claim → List ℕ → A → Content) (m : Content)
      → ((c : Claim) (t : List ℕ) (x : A) → att (28 + length (tag_bytes t)) ≡ Ok (x, length b) → Attached limit b (make c t x))
      → wholly b (envelope_at kind (claim_at b) (tag_at limit b) (λ c. att) (λ s t a. make s.0 t.0 a.0) b 0) ≡ Ok m → Attached limit b m
  claimed kind att make m is h =
      let w = wholly_ok b (envelope_at kind (claim_at b) (tag_at limit b) (λ c. att) (λ s t a. make s.0 t.0 a.0) b 0) m h in
      let o = opened b 0 kind (claim_at b) (tag_at limit b) (λ c. att) (λ s t a. make s.0 t.0 a.0) w.0 w.1 in
      let place : 28 + length (tag_bytes o.tagged.0) ≡ o.tagged.1 = omega (arith, claim_ends b 4 o.said o.said_is, (tag_read_lem limit b o.said.1 o.tagged o.tagged_is).ends) in
      let end : o.attached.1 ≡ length b = ap (λ (z : Content × ℕ). z.1) o.is ∙ w.2 in
      let made : make o.said.0 o.tagged.0 o.attached.0 ≡ m = ap (λ (z : Content × ℕ). z.0) o.is ∙ w.3 in
      subst (Attached limit b) made
      (is o.said.0 o.tagged.0 o.attached.0 (ap att place ∙ o.attached_is ∙ ap (λ n. Ok (o.attached.0, n)) end))

  propose_attached : (m : Content) → propose_of limit b ≡ Ok m → Attached limit b m
  unfolding propose_of
  propose_attached m h = claimed 1 (progress_at limit b) propose m (λ c t x e. e) h

  prepare_attached : (m : Content) → prepare_of limit b ≡ Ok m → Attached limit b m
  unfolding prepare_of
  prepare_attached m h = claimed {A = Unit {0}} 2 (λ at. Ok (tt, at)) (λ c t u. prepare c t) m (λ c t x e. tt) h

  commit_attached : (m : Content) → commit_of limit b ≡ Ok m → Attached limit b m
  unfolding commit_of
  commit_attached m h = claimed 3 (votes_at limit b) commit m (λ c t x e. e) h

  new_view_attached : (m : Content) → new_view_of limit b ≡ Ok m → Attached limit b m
  unfolding new_view_of
  new_view_attached m h =
      let w = wholly_ok b (bind (turn_at limit b 0) (λ p. Ok (new_view p.0, p.1))) m h in
      let q = bind_ok (turn_at limit b 0) (λ p. Ok (new_view p.0, p.1)) w.0 w.1 in
      let made : new_view q.0.0 ≡ m = ap (λ (z : Content × ℕ). z.0) (ok_same q.2) ∙ w.3 in
      let end : q.0.1 ≡ length b = ap (λ (z : Content × ℕ). z.1) (ok_same q.2) ∙ w.2 in
      let r = read_parts limit b 0 q.0 q.1 in
      let t = turn_parts limit b 0 q.0 r.0 q.1 r.1 in
      let said : r.0.0.statement.committed ≡ reported q.0.0.committed = ap (λ (c : ViewChange). c.committed) t.said in
      let behind : r.0.0.attachment.place ≡ length (statement_bytes (statement.NewView (change_of q.0.0))) + length (tag_bytes q.0.0.tag) = omega (arith, t.behind) in
      subst (Attached limit b) made
      (ap (λ o. certified_at limit b o (length (statement_bytes (statement.NewView (change_of q.0.0))) + length (tag_bytes q.0.0.tag))) (sym said)
      ∙ ap (λ n. certified_at limit b r.0.0.statement.committed n) (sym behind)
      ∙ t.certified
      ∙ ap (λ n. Ok (q.0.0.committed, n)) end)

  message_by_attached : (m : Content) (k1 k2 k3 k4 : Bool) → cond k1 (propose_of limit b) (cond k2 (prepare_of limit b) (cond k3 (commit_of limit b) (cond k4 (new_view_of limit b) (fault 0)))) ≡ Ok m → Attached limit b m
  message_by_attached m true k2 k3 k4 h = propose_attached m h
  message_by_attached m false true k3 k4 h = prepare_attached m h
  message_by_attached m false false true k4 h = commit_attached m h
  message_by_attached m false false false true h = new_view_attached m h
  message_by_attached m false false false false h = absurd (let z : ◌≡◌ {A = ℕ} 0 1 = cc in omega arith)

  pub message_attached : (m : Content) → message_of limit b ≡ Ok m → Attached limit b m
  unfolding message_of
  message_attached m h =
      let w = bind_ok (word_at b 0) (message_by limit b) m h in
      message_by_attached m (eqb w.0 1) (eqb w.0 2) (eqb w.0 3) (eqb w.0 4) w.2

  -- ---- the parts of the message that was read ----

  pub unread : (r : Result Content Malformed) (e : Malformed) → ◌≡◌ {A = Result (Pieces Statement) Malformed} (Err e) (map_ok (locate b) r) → r ≡ Err e
  unread (Ok x) e h = absurd (let z : ◌≡◌ {A = ℕ} 0 1 = cc in omega arith)
  unread (Err f) e h = cc

  pub content_of : (p : Pieces Statement) (r : Result Content Malformed) → ◌≡◌ {A = Result (Pieces Statement) Malformed} (Ok p) (map_ok (locate b) r) → (x : Content) × (r ≡ Ok x) × (p ≡ locate b x)
  content_of p (Ok x) h = (x, refl, cc)
  content_of p (Err e) h = absurd (let z : ◌≡◌ {A = ℕ} 0 1 = cc in omega arith)

  kinds_apart : (s t : Statement) → s ≡ t → kind_of s ≢ kind_of t → ⊥
  kinds_apart s t h n = n (ap kind_of h)

  abbrev pub pieces : Statement → Cut → Cut → Pieces Statement
  pieces s tag att = record { statement = s; tag = tag; attachment = att }

  abbrev said_of : Pieces Statement → Statement
  said_of p = p.statement

  -- a proposal: its certificate stands behind its tag
  pub record ProposeRead (c : Claim) (tag att : Cut) (x : Content) : Type 0 where
    pub place : att.place ≡ 28 + length (tag_bytes tag.bytes)
    pub stands : IsOk (progress_at limit b att.place)
    pub is : x ≡ propose c tag.bytes (read_of (progress_at limit b att.place))

  pub propose_read : (c : Claim) (tag att : Cut) (x : Content) → pieces (statement.Propose c) tag att ≡ locate b x → Attached limit b x → ProposeRead c tag att x
  unfolding locate
  propose_read c tag att (propose d t ms) h a =
      let both : statement.Propose c ≡ statement.Propose d = ap said_of h in
      let said : c ≡ d = cc in
      let tagged : tag.bytes ≡ t = ap (λ (p : Pieces Statement). p.tag.bytes) h in
      let place : att.place ≡ 28 + length (tag_bytes t) = ap (λ (p : Pieces Statement). p.attachment.place) h in
      let reads : progress_at limit b att.place ≡ Ok (ms, length b) = ap (progress_at limit b) place ∙ a in
      record { place = place ∙ ap (λ z. 28 + length (tag_bytes z)) (sym tagged); stands = rw reads; is = rw (reads, said, tagged) }
  propose_read c tag att (prepare d t) h a = absurd (kinds_apart (statement.Propose c) (statement.Prepare d) (ap said_of h) (λ e. omega arith))
  propose_read c tag att (commit d t vs) h a = absurd (kinds_apart (statement.Propose c) (statement.Commit d) (ap said_of h) (λ e. omega arith))
  propose_read c tag att (new_view y) h a = absurd (kinds_apart (statement.Propose c) (statement.NewView (change_of y)) (ap said_of h) (λ e. omega arith))

  -- a prepare
  pub prepare_read : (c : Claim) (tag att : Cut) (x : Content) → pieces (statement.Prepare c) tag att ≡ locate b x → x ≡ prepare c tag.bytes
  unfolding locate
  prepare_read c tag att (prepare d t) h =
      let both : statement.Prepare c ≡ statement.Prepare d = ap said_of h in
      let said : c ≡ d = cc in
      let tagged : tag.bytes ≡ t = ap (λ (p : Pieces Statement). p.tag.bytes) h in
      rw (said, tagged)
  prepare_read c tag att (propose d t ms) h = absurd (kinds_apart (statement.Prepare c) (statement.Propose d) (ap said_of h) (λ e. omega arith))
  prepare_read c tag att (commit d t vs) h = absurd (kinds_apart (statement.Prepare c) (statement.Commit d) (ap said_of h) (λ e. omega arith))
  prepare_read c tag att (new_view y) h = absurd (kinds_apart (statement.Prepare c) (statement.NewView (change_of y)) (ap said_of h) (λ e. omega arith))

  -- a commit: its certificate stands behind its tag
  pub record CommitRead (c : Claim) (tag att : Cut) (x : Content) : Type 0 where
    pub place : att.place ≡ 28 + length (tag_bytes tag.bytes)
    pub stands : IsOk (votes_at limit b att.place)
    pub is : x ≡ commit c tag.bytes (read_of (votes_at limit b att.place))

  pub commit_read : (c : Claim) (tag att : Cut) (x : Content) → pieces (statement.Commit c) tag att ≡ locate b x → Attached limit b x → CommitRead c tag att x
  unfolding locate
  commit_read c tag att (commit d t vs) h a =
      let both : statement.Commit c ≡ statement.Commit d = ap said_of h in
      let said : c ≡ d = cc in
      let tagged : tag.bytes ≡ t = ap (λ (p : Pieces Statement). p.tag.bytes) h in
      let place : att.place ≡ 28 + length (tag_bytes t) = ap (λ (p : Pieces Statement). p.attachment.place) h in
      let reads : votes_at limit b att.place ≡ Ok (vs, length b) = ap (votes_at limit b) place ∙ a in
      record { place = place ∙ ap (λ z. 28 + length (tag_bytes z)) (sym tagged); stands = rw reads; is = rw (reads, said, tagged) }
  commit_read c tag att (propose d t ms) h a = absurd (kinds_apart (statement.Commit c) (statement.Propose d) (ap said_of h) (λ e. omega arith))
  commit_read c tag att (prepare d t) h a = absurd (kinds_apart (statement.Commit c) (statement.Prepare d) (ap said_of h) (λ e. omega arith))
  commit_read c tag att (new_view y) h a = absurd (kinds_apart (statement.Commit c) (statement.NewView (change_of y)) (ap said_of h) (λ e. omega arith))

  -- a new-view: the certificate of its commit stands behind its tag
  pub record NewViewRead (c : ViewChange) (tag att : Cut) (x : Content) : Type 0 where
    pub tag_place : tag.place ≡ length (statement_bytes (statement.NewView c))
    pub place : att.place ≡ tag.place + length (tag_bytes tag.bytes)
    pub stands : IsOk (certified_at limit b c.committed att.place)
    pub is : x ≡ new_view (turn_with c tag.bytes (optional_of (certified_at limit b c.committed att.place)))

  pub new_view_read : (c : ViewChange) (tag att : Cut) (x : Content) → pieces (statement.NewView c) tag att ≡ locate b x → Attached limit b x → NewViewRead c tag att x
  unfolding locate
  new_view_read c tag att (new_view y) h a =
      let both : statement.NewView c ≡ statement.NewView (change_of y) = ap said_of h in
      let said : c ≡ change_of y = cc in
      let tagged : tag.bytes ≡ y.tag = ap (λ (p : Pieces Statement). p.tag.bytes) h in
      let tag_place : tag.place ≡ length (statement_bytes (statement.NewView (change_of y))) = ap (λ (p : Pieces Statement). p.tag.place) h in
      let place : att.place ≡ length (statement_bytes (statement.NewView (change_of y))) + length (tag_bytes y.tag) = ap (λ (p : Pieces Statement). p.attachment.place) h in
      let reads : certified_at limit b (change_of y).committed att.place ≡ Ok (y.committed, length b) = ap (certified_at limit b (reported y.committed)) place ∙ a in
      rw said
      (record {
        tag_place = tag_place;
        place = omega (arith, place, tag_place, ap (λ z. length (tag_bytes z)) tagged);
        stands = rw reads;
        is = rw (reads, tagged);
      })
  new_view_read c tag att (propose d t ms) h a = absurd (kinds_apart (statement.NewView c) (statement.Propose d) (ap said_of h) (λ e. omega arith))
  new_view_read c tag att (prepare d t) h a = absurd (kinds_apart (statement.NewView c) (statement.Prepare d) (ap said_of h) (λ e. omega arith))
  new_view_read c tag att (commit d t vs) h a = absurd (kinds_apart (statement.NewView c) (statement.Commit d) (ap said_of h) (λ e. omega arith))
