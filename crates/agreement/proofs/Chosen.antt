-- At any moments of a run: what the rule-following sites propose, prepare and commit, what their records say of it, and what
-- follows once chosen sites have been heard.
use Rattle.std.proofs.Common.{◌≡◌, ℕ, ◌<◌, ◌≤◌, true, List, take, Some, arith}
use Rattle.values.specs.declared.fix.Value.{Value}
use Rattle.values.specs.declared.fix.Report.{Report}
use Rattle.values.specs.Fleets.{sites, fast_quorum, recovery_quorum, leader_of}
use Rattle.agreement.specs.Sites.{SiteSet, size, all_but}
use Rattle.agreement.specs.Statements.{Said, propose, prepare, commit, In}
use Rattle.agreement.specs.Moves.{Site, start, Moved, Run, after, world_at}
use Rattle.agreement.proofs.Rules.{PreparedIn, CommittedIn, SpokeIn}
use Rattle.agreement.proofs.Agree.{back_same}
use Rattle.agreement.proofs.Grow.{Within}
use Rattle.agreement.proofs.Keep.{Inv, inv_run, inv_start', run_take, log_take, rules_of}
use Rattle.agreement.proofs.Led.{Led, led_run}
use Rattle.agreement.proofs.Prompt.{Hold, Prompt, prompt_run, rows_hold}
use Rattle.agreement.proofs.Lasting.{Lasts, grows}

-- a run in which at most f sites lie
pub record GoodRun (f t : ℕ) (good : SiteSet) (ms : List Moved) : Type 0 where
  pub few : size (all_but good) (sites f t) ≤ f
  pub is_run : Run f t good start ms

module _ {f t : ℕ} {good : SiteSet} {ms : List Moved} (r : GoodRun f t good ms) where
  -- what is drafted, and a site's record, when the first a moves are made
  abbrev log : ℕ → List Said
  log a = (world_at f t ms a).log

  abbrev site : ℕ → ℕ → Site
  site a i = (world_at f t ms a).at i

  -- the leader of a view
  abbrev leader : ℕ → ℕ
  leader v = leader_of (sites f t) v

  inv_at : (a : ℕ) → Inv f t good (world_at f t ms a).at (log a)
  inv_at a = inv_run f t good start (take a ms) (run_take f t good a start ms r.is_run) (inv_start' f t good r.few ms r.is_run)

  led_at : (a i : ℕ) → good i ≡ true → Led f t good i (site a i).view (site a i).proposed (log a)
  led_at a = led_run f t good (take a ms) (run_take f t good a start ms r.is_run)

  prompt_at : (a i : ℕ) → good i ≡ true → Prompt f t good i (site a i) (log a)
  prompt_at a = prompt_run f t good (take a ms) (run_take f t good a start ms r.is_run)

  -- what is drafted in the whole run
  abbrev whole : List Said
  whole = (after f t start ms).log

  within : (a : ℕ) → Within (log a) whole
  within a = log_take f t good a start ms

  -- ---- from one moment to a later one ----

  pub lasts : (a b i : ℕ) → a ≤ b → Lasts (site a i) (site b i)
  lasts a b i l = (grows f t good ms r.is_run a b l).sites i

  pub log_lasts : (a b : ℕ) → a ≤ b → Within (log a) (log b)
  log_lasts a b l = (grows f t good ms r.is_run a b l).log

  -- ---- one proposal, one prepare ----

  pub one_proposal : (a b : ℕ) {i v : ℕ} {d e : Value} → good i ≡ true → In (propose i v d) (log a) → In (propose i v e) (log b) → d ≡ e
  one_proposal a b {i} {v} {d} {e} g x y = (led_run f t good ms r.is_run i g).one v d e (within a (propose i v d) x) (within b (propose i v e) y)

  pub one_prepare : (a b : ℕ) {i v : ℕ} {d e : Value} → good i ≡ true → In (prepare i v d) (log a) → In (prepare i v e) (log b) → d ≡ e
  one_prepare a b {i} {v} {d} {e} g x y = (rules_of f t good r.few ms r.is_run).once g (within a (prepare i v d) x) (within b (prepare i v e) y)

  -- what is prepared in a view whose leader follows the rules, the leader proposed
  pub prepares_led : (a : ℕ) {i v : ℕ} {d : Value} → good i ≡ true → good (leader v) ≡ true → In (prepare i v d) (log a) → In (propose (leader v) v d) (log a)
  prepares_led a {i} {v} {d} g l x = (led_at a i g).led v d x l

  -- ---- what a record says ----

  pub marked : (a i : ℕ) → good i ≡ true → (site a i).proposed ≡ true → (d : Value) × In (propose i (site a i).view d) (log a)
  marked a i g h = (led_at a i g).meant h

  pub made : (a i : ℕ) (x : Report) → good i ≡ true → (site a i).prepared ≡ Some x → In (prepare i x.view x.value) (log a)
  made a i x g h = (((inv_at a).kept i g).made x h).0

  pub prepare_rows : (a i j : ℕ) (d : Value) → good i ≡ true → good j ≡ true → (site a i).prepares j ≡ Some d → In (prepare j (site a i).view d) (log a)
  prepare_rows a i j d g gj h = ((inv_at a).kept i g).prepare_rows j d h gj

  pub commit_rows : (a i j : ℕ) (d : Value) → good i ≡ true → good j ≡ true → (site a i).commits j ≡ Some d → In (commit j (site a i).view d) (log a)
  commit_rows a i j d g gj h = ((inv_at a).kept i g).commit_rows j d h gj

  -- ---- chosen sites ----

  -- a commit is of the value that a recovery quorum prepares in its view
  pub commits_backed : (a b : ℕ) {i v : ℕ} {d e : Value} (chosen : SiteSet) → good i ≡ true → In (commit i v d) (log a)
      → recovery_quorum f t ≤ size chosen (sites f t) → ((j : ℕ) → j < sites f t → chosen j ≡ true → In (prepare j v e) (log b)) → d ≡ e
  commits_backed a b {i} {v} {d} {e} chosen g x enough h =
      back_same f t good (PreparedIn whole) (CommittedIn whole) (SpokeIn whole) (rules_of f t good r.few ms r.is_run) v d e
      ((rules_of f t good r.few ms r.is_run).backed g (within a (commit i v d) x))
      (chosen, record { enough = enough; prepared = λ j l gj c. within b (prepare j v e) (h j l c) })

  module _ (a : ℕ) {i : ℕ} {d : Value} {chosen : SiteSet} (g : good i ≡ true) where
    pub decides_fast : fast_quorum f t ≤ size chosen (sites f t) → Hold (sites f t) chosen (site a i).prepares d → (x : Report) × ((site a i).decision ≡ Some x)
    decides_fast enough h = (prompt_at a i g).fast d (omega (arith, enough, rows_hold (sites f t) chosen (site a i).prepares d h))

    pub commits_then : recovery_quorum f t ≤ size chosen (sites f t) → Hold (sites f t) chosen (site a i).prepares d → In (commit i (site a i).view d) (log a)
    commits_then enough h = (prompt_at a i g).committed d (omega (arith, enough, rows_hold (sites f t) chosen (site a i).prepares d h))

    pub decides_by_commits : recovery_quorum f t ≤ size chosen (sites f t) → Hold (sites f t) chosen (site a i).commits d → (x : Report) × ((site a i).decision ≡ Some x)
    decides_by_commits enough h = (prompt_at a i g).recovery d (omega (arith, enough, rows_hold (sites f t) chosen (site a i).commits d h))
