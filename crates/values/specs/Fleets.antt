-- Fleets, views and tag limits.
use Rattle.std.specs.Prelude.{ℕ, ◌+◌, ◌-◌, ◌*◌, ◌%◌, Bool, cond, ◌&&◌, Some, None, Ok, Err, Option, Result, ◌==◌, nat_le}
use Rattle.values.specs.Refusals.{Refused, limits}

-- how many sites it takes so that f of them may break the rules, and t may stay away from a fast decision
abbrev pub sites : ℕ → ℕ → ℕ
sites f t = 3 * f + 2 * t + 1

abbrev pub legal_fleet : ℕ → ℕ → Bool
legal_fleet f t = nat_le 1 f && nat_le f 5 && nat_le t f && nat_le (sites f t) 16

-- what making a fleet answers: its f and t
abbrev pub fleet_of : ℕ → ℕ → Result (ℕ × ℕ) Refused
fleet_of f t = cond (legal_fleet f t) (Ok (f, t)) (Err limits)

-- so many prepares of one fix in one view decide it
abbrev pub fast_quorum : ℕ → ℕ → ℕ
fast_quorum f t = sites f t - t

-- so many prepares make a commit certificate, so many commits decide
abbrev pub recovery_quorum : ℕ → ℕ → ℕ
recovery_quorum f t = sites f t - f - t

-- so many new-views make a progress certificate
abbrev pub progress_quorum : ℕ → ℕ → ℕ
progress_quorum f t = sites f t - f

-- views are counted from 1, and the sites lead them in turn
abbrev pub view_of : ℕ → Option ℕ
view_of v = cond (nat_le 1 v) (Some v) None

abbrev pub leader_of : ℕ → ℕ → ℕ
leader_of n v = (v - 1) % n

-- the longest tag: a multiple of 4 from 4 to 2,048
abbrev pub legal_limit : ℕ → Bool
legal_limit l = nat_le 4 l && nat_le l 2048 && l % 4 == 0

abbrev pub limit_of : ℕ → Result ℕ Refused
limit_of l = cond (legal_limit l) (Ok l) (Err limits)
