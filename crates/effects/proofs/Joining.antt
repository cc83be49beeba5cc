-- Laying a count word and, for each site that passes a test, some bytes.
use Rattle.std.proofs.Common.{◌≡◌, ℕ, suc, ◌+◌, ◌-◌, ◌<◌, ◌≤◌, Bool, true, false, List, ◌++◌, length, sym, ap, ◌∙◌, arith, length-append}
use Rattle.std.proofs.lemmas.List.{take-append-drop}
use Rattle.buffers.specs.Words.{word_bytes}
use Rattle.buffers.specs.Lays.{laid, Lays}
use Rattle.buffers.proofs.Laying.{laid_more, length-laid}
use Rattle.calls.specs.Gathering.{members, joined}

-- of n sites, the bytes of those from one on
abbrev pub rest : (ℕ → Bool) → (ℕ → List ℕ) → ℕ → ℕ → List ℕ
rest p bytes n site = joined bytes (members p site (n - site))

-- the count word, and the bytes of all
abbrev pub whole : (ℕ → Bool) → (ℕ → List ℕ) → ℕ → List ℕ
whole p bytes n = word_bytes (length (members p 0 n)) ++ joined bytes (members p 0 n)

-- with the rest laid at next, out is o with the whole laid over it
pub record Unfinished (p : ℕ → Bool) (bytes : ℕ → List ℕ) (n : ℕ) (o : List ℕ) (at : ℕ) (out : List ℕ) (next site : ℕ) : Type 0 where
  pub is : laid out next (rest p bytes n site) ≡ laid o at (whole p bytes n)
  pub ends : next + length (rest p bytes n site) ≡ at + length (whole p bytes n)
  pub long : length out ≡ length o
  pub room : at + length (whole p bytes n) ≤ length o

-- one site on, as the site passes or not
over : (p : ℕ → Bool) (bytes : ℕ → List ℕ) (n site : ℕ) → site < n → p site ≡ false → rest p bytes n site ≡ rest p bytes n (site + 1)
over p bytes n site l h =
    let left : n - site ≡ suc (n - (site + 1)) = omega arith in
    let after : suc site ≡ site + 1 = omega arith in
    rw (left, h, after)

taken : (p : ℕ → Bool) (bytes : ℕ → List ℕ) (n site : ℕ) → site < n → p site ≡ true → rest p bytes n site ≡ bytes site ++ rest p bytes n (site + 1)
taken p bytes n site l h =
    let left : n - site ≡ suc (n - (site + 1)) = omega arith in
    let after : suc site ≡ site + 1 = omega arith in
    rw (left, h, after)

module _ {p : ℕ → Bool} {bytes : ℕ → List ℕ} {n : ℕ} {o out : List ℕ} {at next : ℕ} where
  -- once the word is laid
  pub begun : {count : ℕ} → count ≡ length (members p 0 n) → at + length (whole p bytes n) ≤ length o → Lays o at (word_bytes count) out next → Unfinished p bytes n o at out next 0
  begun {count} many room e =
      let all : n - 0 ≡ n = omega arith in
      let word = word_bytes count in
      let left = joined bytes (members p 0 n) in
      record {
        is = rw (all, sym many) (ap (λ l. laid l next left) e.is ∙ laid_more o word left at next e.ends (omega (arith, e.ends, e.inside)));
        ends = rw all (omega (arith, e.ends, length-append word left));
        long = ap length e.is ∙ length-laid o word at (omega (arith, e.ends, e.inside));
        room = room;
      }

  module _ {site : ℕ} where
    -- a site that does not pass adds nothing
    pub passed_over : site < n → p site ≡ false → Unfinished p bytes n o at out next site → Unfinished p bytes n o at out next (site + 1)
    passed_over l h u =
        let e = over p bytes n site l h in
        record { is = rw e at u.is; ends = rw e at u.ends; long = u.long; room = u.room }

    -- there is room for the bytes of a site that passes
    pub room_for : site < n → p site ≡ true → Unfinished p bytes n o at out next site → next + length (bytes site) ≤ length out
    room_for l h u = omega (arith, u.ends, u.room, u.long, ap length (taken p bytes n site l h), length-append (bytes site) (rest p bytes n (site + 1)))

    -- and they are laid
    pub joined_on : {out' : List ℕ} {next' : ℕ} → site < n → p site ≡ true → Unfinished p bytes n o at out next site → Lays out next (bytes site) out' next'
        → Unfinished p bytes n o at out' next' (site + 1)
    joined_on {out'} {next'} l h u e =
        let left = rest p bytes n (site + 1) in
        let t = taken p bytes n site l h in
        record {
          is = ap (λ l. laid l next' left) e.is ∙ laid_more out (bytes site) left next next' e.ends (omega (arith, e.ends, e.inside)) ∙ ap (laid out next) (sym t) ∙ u.is;
          ends = omega (arith, u.ends, e.ends, ap length t, length-append (bytes site) left);
          long = ap length e.is ∙ length-laid out (bytes site) next (omega (arith, e.ends, e.inside)) ∙ u.long;
          room = u.room;
        }

    pub finished : n ≤ site → Unfinished p bytes n o at out next site → Lays o at (whole p bytes n) out next
    unfolding laid
    finished l u =
        let none : n - site ≡ 0 = omega arith in
        let same : next + 0 ≡ next = omega arith in
        record {
          is = sym (take-append-drop next out) ∙ rw (none, same) at u.is;
          ends = omega (arith, rw none at u.ends);
          inside = omega (arith, rw none at u.ends, u.room, u.long);
        }
