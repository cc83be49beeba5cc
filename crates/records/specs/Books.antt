-- The books, which are lent to each call, and their rows.
use Rattle.std.specs.Prelude.{ℕ, ◌*◌, List, length, take, drop, slice_index}
use Rattle.records.specs.declared.books.Books as code
use Rattle.records.specs.declared.books.BooksMut.{BooksMut}
use Rattle.records.specs.declared.sizes.Sizes.{Sizes}

pub record Books : Type 0 where
  pub tags : List ℕ
  pub certificate : List ℕ
  pub views : List ℕ

abbrev pub books_of : code.Books → Books
books_of b = record { tags = b.tags.now; certificate = b.certificate.now; views = b.views.now }

-- the same, where they may be written
abbrev pub writable_of : BooksMut → Books
writable_of b = record { tags = b.tags.now; certificate = b.certificate.now; views = b.views.now }

-- how long they are, beside an out of so many bytes
abbrev pub lent_sizes : Books → ℕ → Sizes
lent_sizes b out = record { tags = length b.tags; certificate = length b.certificate; views = length b.views; out = out }

-- row r of a book starts at r times the rows' length
abbrev pub book_row : List ℕ → ℕ → ℕ → List ℕ
book_row book size r = take size (drop (r * size) book)

-- what a row or the certificate book holds: so many of its first bytes
abbrev pub held : ℕ → List ℕ → List ℕ
held length bytes = take length bytes

-- what row r holds, by the lengths that the record has
abbrev pub held_row : List ℕ → ℕ → List ℕ → ℕ → List ℕ
held_row book size lengths r = held (slice_index lengths r) (book_row book size r)
