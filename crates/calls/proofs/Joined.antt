-- The certificate that is drafted reads as the new-views where they lie.
use Rattle.std.proofs.Common.{◌≡◌, ℕ, zero, suc, ◌+◌, ◌*◌, ◌%◌, ◌^◌, ◌&&◌, ◌≤◌, ◌<◌, Bool, true, false, cond, leb, eqb, List, [], ◌∷◌, ◌++◌, length, take, drop, Ok, Err, Result, slice_index, sym, refl, ap, ap₂, ◌∙◌, arith}
use Rattle.std.specs.Prelude.{◌==◌}
use Rattle.std.proofs.lemmas.Bool.{leb-true, and_parts, eq-eqb}
use Rattle.buffers.proofs.Bytes.{bytes_take, bytes_drop}
use Rattle.buffers.specs.Words.{Bytes, word_bytes}
use Rattle.buffers.proofs.Held.{whole}
use Rattle.values.specs.Fleets.{sites}
use Rattle.wire.specs.declared.words.Malformed.{Malformed}
use Rattle.wire.specs.Words.{fault}
use Rattle.wire.specs.Contents.{Turn, turn_bytes, turns_bytes, progress_bytes}
use Rattle.wire.specs.Layout.{turn_at, wholly, progress_of}
use Rattle.wire.proofs.Results.{bind_ok, ok_same}
use Rattle.packets.specs.Fits.{TurnFits, TurnsFit}
use Rattle.packets.proofs.Only.{all, turn_only, wholly_ok}
use Rattle.packets.proofs.Back.{progress_back}
use Rattle.records.specs.Sizes.{view_row}
use Rattle.records.specs.Books.{Books}
use Rattle.records.specs.Kept.{Membership, Kept}
use Rattle.calls.specs.Gathering.{members, joined, placed, turn_of, is_gathered, gathered, gathered_turn, own_progress, turns_read}
use Rattle.calls.specs.Laws.{JoinedIsRead}

few_cond : (b : Bool) (x : ℕ) (xs : List ℕ) (n : ℕ) → length xs ≤ n → length (cond b (x ∷ xs) xs) ≤ suc n
few_cond true x xs n h = omega arith
few_cond false x xs n h = omega arith

-- no more than there are sites
pub few_members : (p : ℕ → Bool) (low n : ℕ) → length (members p low n) ≤ n
few_members p low zero = omega arith
few_members p low (suc n) = few_cond (p low) low (members p (suc low) n) n (few_members p (suc low) n)

placed_ok : {A : Type 0} (by : ℕ) (r : Result A Malformed) (x : A) → placed by r ≡ Ok x → r ≡ Ok x
placed_ok by (Ok y) x h = h
placed_ok by (Err e) x h = absurd (let z : ◌≡◌ {A = ℕ} 0 1 = cc in omega arith)

-- bytes that are one new-view
turn_is : (limit : ℕ) (b : List ℕ) (x : Turn) → Bytes b → turn_of limit b ≡ Ok x → (b ≡ turn_bytes x) × TurnFits limit x
turn_is limit b x bytes h =
    let w = wholly_ok b (turn_at limit b 0) x h in
    let t = turn_only limit b 0 w.0 bytes w.1 in
    rw (sym w.3) (all t.0 w.2, t.1)

module _ (m : Membership) (k : Kept) (books : Books) (bytes : Bytes books.views) where
  row_bytes : (j : ℕ) → Bytes (gathered_turn m k books.views j)
  row_bytes j =
      let size = view_row m.f m.t m.limit in
      bytes_take (slice_index k.lengths.views j) (take size (drop (j * size) books.views)) (bytes_take size (drop (j * size) books.views) (bytes_drop (j * size) books.views bytes))

  pub turns_are : (place : ℕ) (js : List ℕ) (xs : List Turn) → turns_read m k books.views place js ≡ Ok xs
      → (joined (gathered_turn m k books.views) js ≡ turns_bytes xs) × TurnsFit m.limit xs × (length xs ≡ length js)
  turns_are place [] xs h = rw (sym (ok_same h)) (refl, tt, refl)
  turns_are place (j ∷ js) xs h =
      let row = gathered_turn m k books.views j in
      let p = bind_ok (placed place (turn_of m.limit row)) _ xs h in
      let q = bind_ok (turns_read m k books.views (place + length row) js) _ xs p.2 in
      let t = turn_is m.limit row p.0 (row_bytes j) (placed_ok place (turn_of m.limit row) p.0 p.1) in
      let rest = turns_are (place + length row) js q.0 q.1 in
      rw (sym (ok_same q.2)) (ap₂ ◌++◌ t.0 rest.0, (t.1, rest.1), ap suc rest.2)

read_back : (limit : ℕ) (xs : List Turn) → limit < 2 ^ 32 → length xs ≤ 16 → TurnsFit limit xs → progress_of limit (progress_bytes xs) ≡ Ok xs
unfolding progress_of
read_back limit xs small few fits =
    let b = progress_bytes xs in
    let e = progress_back limit b 0 xs small few fits (whole b) in
    let end : (0 + length b == length b) ≡ true = eq-eqb (0 + length b) (length b) (omega arith) in
    ap (wholly b) e ∙ ap (λ (t : Bool). cond t (Ok xs) (fault (0 + length b))) end

pub joined_is_read : JoinedIsRead
joined_is_read m k books xs fleet limit bytes h =
    let g = gathered m k in
    let t = turns_are m k books bytes 4 g xs h in
    let few : sites m.f m.t ≤ 16 = leb-true (sites m.f m.t) 16 (and_parts (leb 1 m.f && leb m.f 5 && leb m.t m.f) (leb (sites m.f m.t) 16) fleet).1 in
    let low : length xs ≤ 16 = omega (arith, few_members (is_gathered m k) 0 (sites m.f m.t), t.2) in
    let l = and_parts (leb 4 m.limit) (leb m.limit 2048) (and_parts (leb 4 m.limit && leb m.limit 2048) (eqb (m.limit % 4) 0) limit).0 in
    let small : m.limit < 2 ^ 32 = omega (arith, leb-true m.limit 2048 l.1) in
    let is : own_progress m k books.views ≡ progress_bytes xs = ap₂ (λ (n : ℕ) (z : List ℕ). word_bytes n ++ z) (sym t.2) t.0 in
    (is, ap (progress_of m.limit) is ∙ read_back m.limit xs small low t.1)
