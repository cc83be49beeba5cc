-- Sets of sites, how many sites they have, and lists that name sites in ascending order.
--     SiteSet      a set of sites: a test on site numbers
--     size S n      how many of the sites 0 to n - 1 are in S
--     both, all_but      the sites of two sets; those outside a set
--     Ascending key low n xs      the members' site numbers rise strictly, from low on, and stay below n
--     named key p xs      the sites that stand in the list with a member that passes p
--     listed xs      the sites that a list of site numbers names
use Rattle.std.specs.Prelude.{ℕ, zero, suc, ◌+◌, ◌<◌, ◌≤◌, Bool, true, false, cond, not, ◌&&◌, ◌||◌, List, [], ◌∷◌, ◌==◌}

abbrev pub SiteSet : Type 0
SiteSet = ℕ → Bool

abbrev pub size : SiteSet → ℕ → ℕ
size S zero = 0
size S (suc n) = cond (S n) 1 0 + size S n

abbrev pub both : SiteSet → SiteSet → SiteSet
both P Q i = P i && Q i

abbrev pub all_but : SiteSet → SiteSet
all_but P i = not (P i)

abbrev pub Ascending : {A : Type 0} → (A → ℕ) → ℕ → ℕ → List A → Type 0
Ascending key low n [] = Unit {0}
Ascending key low n (x ∷ xs) = (low ≤ key x) × (key x < n) × Ascending key (suc (key x)) n xs

abbrev pub named : {A : Type 0} → (A → ℕ) → (A → Bool) → List A → SiteSet
named key p [] i = false
named key p (x ∷ xs) i = (key x == i && p x) || named key p xs i

abbrev pub listed : List ℕ → SiteSet
listed xs i = named (λ x. x) (λ x. true) xs i
