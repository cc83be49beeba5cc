-- Comments.
use Rattle.std.specs.Prelude.{ℕ, List, take, not, ◌==◌}
use Rattle.std.specs.List.{prefix_len}

-- where the first # stands; the end, if there is none
abbrev pub comment_at : List ℕ → ℕ
comment_at line = prefix_len (λ c. not (c == 35)) line

abbrev pub before_comment : List ℕ → List ℕ
before_comment line = take (comment_at line) line
