-- Whole packets and drafts stand as they are written.
use Rattle.std.proofs.Common.{◌≡◌, ℕ, ◌+◌, ◌≤◌, Bool, true, false, cond, eqb, List, [], ◌++◌, length, Ok, Option, Result, sym, ap, ◌∙◌, subst, arith}
use Rattle.wire.specs.declared.words.Malformed.{Malformed}
use Rattle.wire.specs.declared.statement.Claim.{Claim}
use Rattle.wire.specs.declared.statement.ViewChange.{ViewChange}
use Rattle.buffers.specs.Words.{Bytes, word_bytes}
use Rattle.wire.specs.Words.{bind, fault, word_at}
use Rattle.wire.specs.Contents.{claim_bytes, change_bytes, statement_bytes, tag_bytes, certificate_bytes, Certified, reported, certified_bytes, Turn, change_of, turn_bytes, progress_bytes, Content, propose, prepare, commit, new_view, statement_of, message_bytes, draft_bytes, with_tag}
use Rattle.wire.specs.Layout.{claim_at, change_at, tag_at, votes_at, certified_at, turn_at, progress_at, nothing_at, envelope_at, wholly, propose_of, prepare_of, commit_of, new_view_of, message_by, message_of, draft_as, draft_by, draft_end}
use Rattle.wire.proofs.Results.{bind_ok, ok_same}
use Rattle.wire.proofs.Lengths.{tag_read_lem, claim_ends, change_ends}
use Rattle.packets.specs.Fits.{ClaimFits, ChangeFits, CertificateFits, CertifiedFits, TurnsFit, ContentFits}
use Rattle.packets.proofs.Only.{Stands, joins, empty, all, word_only, claim_only, change_only, tag_only, certificate_only, certified_only, turn_only, progress_only, opened, wholly_ok}

-- ---- messages ----

-- a packet that was read, and its content
abbrev Read : ℕ → List ℕ → Content → Type 0
Read limit b m = (b ≡ message_bytes m) × ContentFits limit m

-- a claim, its tag and its attachment
module _ {A : Type 0} (limit : ℕ) (b : List ℕ) (k : ℕ) (att : Claim → ℕ → Result (A × ℕ) Malformed) (make : Claim → List ℕ → A → Content) (rest : A → List ℕ) (Fits : A → Type 0) (bytes : Bytes b)
    (only : (c : Claim) (at : ℕ) (p : A × ℕ) → at ≤ length b → att c at ≡ Ok p → Stands b at (rest p.0) p.1 × Fits p.0) where
  claim_read : (m : Content) → wholly b (envelope_at k (claim_at b) (tag_at limit b) att (λ s t a. make s.0 t.0 a.0) b 0) ≡ Ok m
      → (c : Claim) × (t : List ℕ) × (a : A) × (m ≡ make c t a) × (b ≡ (word_bytes k ++ claim_bytes c) ++ (tag_bytes t ++ rest a)) × ClaimFits c × (length t ≤ limit) × Fits a
  claim_read m h =
      let w = wholly_ok b (envelope_at k (claim_at b) (tag_at limit b) att (λ s t a. make s.0 t.0 a.0) b 0) m h in
      let o = opened b 0 k (claim_at b) (tag_at limit b) att (λ s t a. make s.0 t.0 a.0) w.0 w.1 in
      let x0 = word_only b 0 k bytes o.kind in
      let x1 = claim_only b 4 o.said bytes o.said_is in
      let x2 = tag_only limit b o.said.1 o.tagged bytes o.tagged_is in
      let x3 = only o.said.0 o.tagged.1 o.attached x2.within o.attached_is in
      let is : make o.said.0 o.tagged.0 o.attached.0 ≡ m = ap (λ (z : Content × ℕ). z.0) o.is ∙ w.3 in
      let end : o.attached.1 ≡ length b = ap (λ (z : Content × ℕ). z.1) o.is ∙ w.2 in
      (o.said.0, o.tagged.0, o.attached.0, sym is, all (joins (joins x0.is x1.0) (joins x2 x3.0)) end, x1.1, (tag_read_lem limit b o.said.1 o.tagged o.tagged_is).short, x3.1)

module _ (limit : ℕ) (b : List ℕ) (bytes : Bytes b) where
  propose_read : (m : Content) → propose_of limit b ≡ Ok m → Read limit b m
  unfolding propose_of
  propose_read m h =
      let r = claim_read limit b 1 (λ c. progress_at limit b) propose progress_bytes (λ ms. (length ms ≤ 16) × TurnsFit limit ms) bytes (λ c at p l e. let x = progress_only limit b at p bytes e in (x.0, (x.1, x.2))) m h in
      subst (Read limit b) (sym r.3) (r.4, (r.5, r.6, r.7.0, r.7.1))

  prepare_read : (m : Content) → prepare_of limit b ≡ Ok m → Read limit b m
  unfolding prepare_of
  prepare_read m h =
      let r = claim_read {A = Unit {0}} limit b 2 (λ c. nothing_at) (λ c t u. prepare c t) (λ u. []) (λ u. Unit {0}) bytes (λ c at p l e. subst (λ (z : Unit {0} × ℕ). Stands b at [] z.1 × Unit {0}) (ok_same e) (empty l, tt)) m h in
      subst (Read limit b) (sym r.3) (r.4, (r.5, r.6))

  commit_read : (m : Content) → commit_of limit b ≡ Ok m → Read limit b m
  unfolding commit_of
  commit_read m h =
      let r = claim_read limit b 3 (λ c. votes_at limit b) commit certificate_bytes (CertificateFits limit) bytes (λ c at p l e. certificate_only limit b at p bytes e) m h in
      subst (Read limit b) (sym r.3) (r.4, (r.5, r.6, r.7))

  new_view_read : (m : Content) → new_view_of limit b ≡ Ok m → Read limit b m
  unfolding new_view_of turn_bytes
  new_view_read m h =
      let w = wholly_ok b (bind (turn_at limit b 0) (λ p. Ok (new_view p.0, p.1))) m h in
      let q = bind_ok (turn_at limit b 0) (λ p. Ok (new_view p.0, p.1)) w.0 w.1 in
      let x = turn_only limit b 0 q.0 bytes q.1 in
      let is : new_view q.0.0 ≡ m = ap (λ (z : Content × ℕ). z.0) (ok_same q.2) ∙ w.3 in
      let end : q.0.1 ≡ length b = ap (λ (z : Content × ℕ). z.1) (ok_same q.2) ∙ w.2 in
      subst (Read limit b) is (all x.0 end, x.1)

  message_by_lem : (m : Content) (k1 k2 k3 k4 : Bool) → cond k1 (propose_of limit b) (cond k2 (prepare_of limit b) (cond k3 (commit_of limit b) (cond k4 (new_view_of limit b) (fault 0)))) ≡ Ok m → Read limit b m
  message_by_lem m true k2 k3 k4 h = propose_read m h
  message_by_lem m false true k3 k4 h = prepare_read m h
  message_by_lem m false false true k4 h = commit_read m h
  message_by_lem m false false false true h = new_view_read m h
  message_by_lem m false false false false h = absurd (let z : ◌≡◌ {A = ℕ} 0 1 = cc in omega arith)

  pub message_only : (m : Content) → message_of limit b ≡ Ok m → Read limit b m
  unfolding message_of
  message_only m h =
      let w = bind_ok (word_at b 0) (message_by limit b) m h in
      message_by_lem m (eqb w.0 1) (eqb w.0 2) (eqb w.0 3) (eqb w.0 4) w.2

-- ---- drafts ----

-- a draft, and the message that it becomes with any tag
pub record Drafted (limit : ℕ) (b : List ℕ) (end : ℕ) (m : Content) : Type 0 where
  pub is : b ≡ draft_bytes m
  pub ends : end ≡ length (statement_bytes (statement_of m))
  pub fits : (t : List ℕ) → length t ≤ limit → ContentFits limit (with_tag t m)

-- statement and attachment
module _ {S A : Type 0} (b : List ℕ) (k end : ℕ) (st : ℕ → Result (S × ℕ) Malformed) (att : S → ℕ → Result (A × ℕ) Malformed) (body : S → List ℕ) (rest : A → List ℕ) (SFits : S → Type 0) (AFits : A → S → Type 0) (bytes : Bytes b)
    (st-only : (p : S × ℕ) → st 4 ≡ Ok p → Stands b 4 (body p.0) p.1 × SFits p.0 × (p.1 ≡ 4 + length (body p.0)))
    (att-only : (s : S) (at : ℕ) (p : A × ℕ) → at ≤ length b → att s at ≡ Ok p → Stands b at (rest p.0) p.1 × AFits p.0 s) where
  draft_read : draft_as k st att b ≡ Ok end → (s : S) × (a : A) × (b ≡ (word_bytes k ++ body s) ++ rest a) × (end ≡ length (word_bytes k ++ body s)) × SFits s × AFits a s
  draft_read h =
      let w = wholly_ok b (envelope_at k st nothing_at att (λ s t a. s.1) b 0) end h in
      let o = opened b 0 k st nothing_at att (λ s t a. s.1) w.0 w.1 in
      let x0 = word_only b 0 k bytes o.kind in
      let x1 = st-only o.said o.said_is in
      let t : o.said.1 ≡ o.tagged.1 = ap (λ (z : Unit {0} × ℕ). z.1) (ok_same o.tagged_is) in
      let inside : o.tagged.1 ≤ length b = (let v = x1.0.within in omega arith) in
      let x3 = att-only o.said.0 o.tagged.1 o.attached inside o.attached_is in
      let behind : Stands b o.said.1 (rest o.attached.0) o.attached.1 = rw t x3.0 in
      let last : o.attached.1 ≡ length b = ap (λ (z : ℕ × ℕ). z.1) o.is ∙ w.2 in
      let e : o.said.1 ≡ end = ap (λ (z : ℕ × ℕ). z.0) o.is ∙ w.3 in
      let long : end ≡ length (word_bytes k ++ body o.said.0) = (let v = x1.2 in omega arith) in
      (o.said.0, o.attached.0, all (joins (joins x0.is x1.0) behind) last, long, x1.1, x3.1)

module _ (limit : ℕ) (b : List ℕ) (end : ℕ) (bytes : Bytes b) where
  claim_st : (p : Claim × ℕ) → claim_at b 4 ≡ Ok p → Stands b 4 (claim_bytes p.0) p.1 × ClaimFits p.0 × (p.1 ≡ 4 + length (claim_bytes p.0))
  claim_st p h = let x = claim_only b 4 p bytes h in (x.0, x.1, claim_ends b 4 p h)

  change_st : (p : ViewChange × ℕ) → change_at b 4 ≡ Ok p → Stands b 4 (change_bytes p.0) p.1 × ChangeFits p.0 × (p.1 ≡ 4 + length (change_bytes p.0))
  change_st p h = let x = change_only b 4 p bytes h in (x.0, x.1, change_ends b 4 p h)

  abbrev Draft : Type 0
  Draft = (m : Content) × Drafted limit b end m

  propose_draft : draft_as 1 (claim_at b) (λ c. progress_at limit b) b ≡ Ok end → Draft
  propose_draft h =
      let r = draft_read b 1 end (claim_at b) (λ c. progress_at limit b) claim_bytes progress_bytes ClaimFits (λ ms c. (length ms ≤ 16) × TurnsFit limit ms) bytes claim_st (λ c at p l e. let x = progress_only limit b at p bytes e in (x.0, (x.1, x.2))) h in
      (propose r.0 [] r.1, record { is = r.2; ends = r.3; fits = λ t l. (r.4, l, r.5.0, r.5.1) })

  prepare_draft : draft_as {A = Unit {0}} 2 (claim_at b) (λ c. nothing_at) b ≡ Ok end → Draft
  prepare_draft h =
      let r = draft_read {A = Unit {0}} b 2 end (claim_at b) (λ c. nothing_at) claim_bytes (λ u. []) ClaimFits (λ u c. Unit {0}) bytes claim_st (λ c at p l e. subst (λ (z : Unit {0} × ℕ). Stands b at [] z.1 × Unit {0}) (ok_same e) (empty l, tt)) h in
      (prepare r.0 [], record { is = r.2; ends = r.3; fits = λ t l. (r.4, l) })

  commit_draft : draft_as 3 (claim_at b) (λ c. votes_at limit b) b ≡ Ok end → Draft
  commit_draft h =
      let r = draft_read b 3 end (claim_at b) (λ c. votes_at limit b) claim_bytes certificate_bytes ClaimFits (λ vs c. CertificateFits limit vs) bytes claim_st (λ c at p l e. certificate_only limit b at p bytes e) h in
      (commit r.0 [] r.1, record { is = r.2; ends = r.3; fits = λ t l. (r.4, l, r.5) })

  turned : (c : ViewChange) (o : Option Certified) → reported o ≡ c.committed → b ≡ (word_bytes 4 ++ change_bytes c) ++ certified_bytes o → end ≡ length (word_bytes 4 ++ change_bytes c) → ChangeFits c → CertifiedFits limit o → Draft
  turned c o e is ends fits votes =
      let m : Turn = record { head = c.head; prepared = c.prepared; committed = o; tag = [] } in
      let same : c ≡ change_of m = ap (λ q. record { head = c.head; prepared = c.prepared; committed = q }) (sym e) in (
        new_view m,
        record {
          is = is ∙ ap (λ (d : ViewChange). (word_bytes 4 ++ change_bytes d) ++ certified_bytes o) same;
          ends = ends ∙ ap (λ (d : ViewChange). length (word_bytes 4 ++ change_bytes d)) same;
          fits = λ t l. record { change = subst ChangeFits same fits; tag = l; votes = votes };
        },
      )

  new_view_draft : draft_as 4 (change_at b) (λ c. certified_at limit b c.committed) b ≡ Ok end → Draft
  new_view_draft h =
      let r = draft_read b 4 end (change_at b) (λ c. certified_at limit b c.committed) change_bytes certified_bytes ChangeFits (λ o c. CertifiedFits limit o × (reported o ≡ c.committed)) bytes change_st (λ c at p l e. let x = certified_only limit b c.committed at p bytes l e in (x.0, (x.1, x.2))) h in
      turned r.0 r.1 r.5.1 r.2 r.3 r.4 r.5.0

  draft_by_lem : (k1 k2 k3 k4 : Bool) → cond k1 (draft_as 1 (claim_at b) (λ c. progress_at limit b) b) (cond k2 (draft_as 2 (claim_at b) (λ c. nothing_at) b) (cond k3 (draft_as 3 (claim_at b) (λ c. votes_at limit b) b) (cond k4 (draft_as 4 (change_at b) (λ c. certified_at limit b c.committed) b) (fault 0)))) ≡ Ok end → Draft
  draft_by_lem true k2 k3 k4 h = propose_draft h
  draft_by_lem false true k3 k4 h = prepare_draft h
  draft_by_lem false false true k4 h = commit_draft h
  draft_by_lem false false false true h = new_view_draft h
  draft_by_lem false false false false h = absurd (let z : ◌≡◌ {A = ℕ} 0 1 = cc in omega arith)

  pub draft_only : draft_end limit b ≡ Ok end → Draft
  unfolding draft_end
  draft_only h =
      let w = bind_ok (word_at b 0) (draft_by limit b) end h in
      draft_by_lem (eqb w.0 1) (eqb w.0 2) (eqb w.0 3) (eqb w.0 4) w.2
