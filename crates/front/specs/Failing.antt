-- How often the disks of a store had failed as its books were opened.
use Rattle.std.specs.Prelude.{ℕ, ◌+◌, List, [], ◌∷◌}
use Rattle.front_api.specs.Seen.{SackBook, SeenBooks}

-- those of these sacks together
abbrev pub failed_sacks : List SackBook → ℕ
failed_sacks [] = 0
failed_sacks (book ∷ books) = book.failed + failed_sacks books

-- those of all books together
abbrev pub failed_at_first : SeenBooks → ℕ
failed_at_first books = books.index.failed + failed_sacks books.sacks
