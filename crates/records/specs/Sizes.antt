-- How many bytes the three books and out must have.
use Rattle.std.specs.Prelude.{ℕ, ◌+◌, ◌*◌, Bool, ◌&&◌, nat_le}
use Rattle.values.specs.Fleets.{sites, recovery_quorum, progress_quorum}
use Rattle.records.specs.declared.sizes.Sizes.{Sizes}

-- a row of the tag book: a length word and the longest tag
abbrev pub tag_row : ℕ → ℕ
tag_row limit = limit + 4

-- the longest commit certificate: a count word, and so many entries of a site word and a tag
abbrev pub certificate_size : ℕ → ℕ → ℕ → ℕ
certificate_size f t limit = 4 + recovery_quorum f t * (limit + 8)

-- a row of the view book: the longest new-view
abbrev pub view_row : ℕ → ℕ → ℕ → ℕ
view_row f t limit = 60 + limit + certificate_size f t limit

-- the longest message: a proposal with its tag and a progress certificate
abbrev pub out_size : ℕ → ℕ → ℕ → ℕ
out_size f t limit = 36 + limit + progress_quorum f t * view_row f t limit

abbrev pub sizes_of : ℕ → ℕ → ℕ → Sizes
sizes_of f t limit =
    record {
      tags = sites f t * tag_row limit;
      certificate = certificate_size f t limit;
      views = sites f t * view_row f t limit;
      out = out_size f t limit;
    }

-- each of the four is as long as needed, or longer
abbrev pub covers : Sizes → Sizes → Bool
covers lent needed =
    nat_le needed.tags lent.tags && nat_le needed.certificate lent.certificate && nat_le needed.views lent.views && nat_le needed.out lent.out
