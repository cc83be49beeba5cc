-- A run with a liar in which a site decides, and a valid progress certificate of a later view.
use Rattle.std.proofs.Common.{List, [], ◌∷◌, Some, None, refl, ap, arith}
use Rattle.std.proofs.lemmas.Bool.{false≢true}
use Rattle.verdicts.specs.Rule.{reported_view, finding}
use Rattle.agreement.specs.Statements.{newest, before, Entry, Formed}
use Rattle.agreement.specs.Moves.{start, Moved, Run, moves, propose_it, hear_propose, hear_prepare, leave}
use Rattle.agreement.specs.Examples.{d, e, viewed}
use Rattle.agreement.specs.Promises.{others, Valid, Happens}
use Rattle.agreement.proofs.Judged.{none_some}

-- the new-views over which site 1 proposes in view 2: those of the liar and of site 3 force e
abbrev first_entries : List Entry
first_entries =
    record { site = 0; prepared = Some (viewed 1 e); committed = None }
    ∷ record { site = 1; prepared = Some (viewed 1 d); committed = None }
    ∷ record { site = 3; prepared = Some (viewed 1 e); committed = None }
    ∷ []

first_formed : Formed 1 0 2 first_entries
first_formed =
    record {
      rising = (omega arith, omega arith, (omega arith, omega arith, (omega arith, omega arith, tt)));
      enough = refl;
      certificates = (tt, (tt, (tt, tt)));
    }

-- new-views for view 3: the liar reports a commit of view 1, with its certificate
abbrev later_entries : List Entry
later_entries =
    record { site = 0; prepared = Some (viewed 1 d); committed = Some (record { report = viewed 1 d; sites = 0 ∷ 1 ∷ 2 ∷ [] }) }
    ∷ record { site = 2; prepared = Some (viewed 2 e); committed = None }
    ∷ record { site = 3; prepared = Some (viewed 2 e); committed = None }
    ∷ []

later_formed : Formed 1 0 3 later_entries
later_formed =
    record {
      rising = (omega arith, omega arith, (omega arith, omega arith, (omega arith, omega arith, tt)));
      enough = refl;
      certificates = (
        record {
          view_low = omega arith;
          view_high = omega arith;
          quorum = record {
            rising = (omega arith, omega arith, (omega arith, omega arith, (omega arith, omega arith, tt)));
            enough = refl;
          };
        },
        (tt, (tt, tt)),
      );
    }

-- sites 1 and 2 prepare d, and site 3 prepares e; in view 2 all three prepare e, and site 1 hears of it
abbrev pub all_moves : List Moved
all_moves =
    moves 1 (hear_propose d [])
    ∷ moves 2 (hear_propose d [])
    ∷ moves 3 (hear_propose e [])
    ∷ moves 1 (leave 2)
    ∷ moves 2 (leave 2)
    ∷ moves 3 (leave 2)
    ∷ moves 1 (propose_it e)
    ∷ moves 1 (hear_propose e first_entries)
    ∷ moves 2 (hear_propose e first_entries)
    ∷ moves 3 (hear_propose e first_entries)
    ∷ moves 1 (hear_prepare 0 e)
    ∷ moves 1 (hear_prepare 1 e)
    ∷ moves 1 (hear_prepare 2 e)
    ∷ moves 1 (hear_prepare 3 e)
    ∷ moves 2 (leave 3)
    ∷ moves 3 (leave 3)
    ∷ []

pub all_moves_run : Run 1 0 others start all_moves
unfolding finding
all_moves_run = (
  refl,
  (λ r h. absurd (none_some r h), λ l. absurd (omega arith)),
  (λ g. absurd (false≢true g), tt),
  (
    refl,
    (λ r h. absurd (none_some r h), λ l. absurd (omega arith)),
    (λ g. absurd (false≢true g), tt),
    (
      refl,
      (λ r h. absurd (none_some r h), λ l. absurd (omega arith)),
      (λ g. absurd (false≢true g), tt),
      (
        refl,
        omega arith,
        tt,
        (
          refl,
          omega arith,
          tt,
          (
            refl,
            omega arith,
            tt,
            (
              refl,
              refl,
              tt,
              (
                refl,
                (λ r h k. absurd (omega (arith, ap reported_view h)), λ l. (first_formed, refl)),
                (λ g. newest, (λ g. absurd (false≢true g), (λ g. before (before (before newest)), (λ g. before newest, tt)))),
                (
                  refl,
                  (λ r h k. absurd (omega (arith, ap reported_view h)), λ l. (first_formed, refl)),
                  (λ g. before newest, (λ g. absurd (false≢true g), (λ g. before (before (before (before newest))), (λ g. before (before newest), tt)))),
                  (
                    refl,
                    (λ r h k. absurd (omega (arith, ap reported_view h)), λ l. (first_formed, refl)),
                    (λ g. before (before newest), (λ g. absurd (false≢true g), (λ g. before (before (before (before (before newest)))), (λ g. before (before (before newest)), tt)))),
                    (
                      refl,
                      refl,
                      (λ g. absurd (false≢true g), tt),
                      (
                        refl,
                        refl,
                        (λ g. before (before newest), tt),
                        (
                          refl,
                          refl,
                          (λ g. before newest, tt),
                          (
                            refl,
                            refl,
                            (λ g. before newest, tt),
                            (
                              refl,
                              omega arith,
                              tt,
                              (
                                refl,
                                omega arith,
                                tt,
                                tt,
                              ),
                            ),
                          ),
                        ),
                      ),
                    ),
                  ),
                ),
              ),
            ),
          ),
        ),
      ),
    ),
  ),
)

pub later_valid : Valid 1 0 others all_moves 16 3 later_entries
later_valid = (
  later_formed,
  (
    λ g. absurd (false≢true g),
    (
      λ g. absurd (false≢true g),
      (
        λ g. before (before (before (before (before (before (before (before (before (before (before (before newest))))))))))),
        (
          λ g. before (before (before (before (before (before (before (before (before (before (before newest)))))))))),
          (
            λ g. before newest,
            (
              λ g. newest,
              tt,
            ),
          ),
        ),
      ),
    ),
  ),
)

pub a_site_decides : Happens
unfolding finding
a_site_decides = (omega arith, (all_moves, 14, 16, later_entries, all_moves_run, refl, later_valid, refl))
