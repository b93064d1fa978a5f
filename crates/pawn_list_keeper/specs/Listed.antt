-- The host of the books in a list, and what a change does to the list.
use Rattle.pawn_book.specs.Sound.{IsSound}
use Rattle.pawn_book.specs.declared.fault.SaveError.{SaveError}
use Rattle.pawn_list_keeper.specs.Books.{Books}
use Rattle.pawn_list_keeper.specs.Common.{AddTerms, AreReplayable, BookValue, Change, Full, Host, ImportBook, Keeping}
use Rattle.pawn_list_keeper.specs.Common.{MakeBook, Memory, PledgeValue, PutPledge, Store, book_number, changed_book}
use Rattle.pawn_list_keeper.specs.Common.{most_rows, pledge_in, pledge_row_count, rows, with_change}
use Rattle.pawn_list_keeper.specs.declared.kept.Kept.{Kept}
use Rattle.std.specs.FinMap.{from_entries}
use Rattle.std.specs.Prelude.{◌≡◌, ◌≢◌, ℕ, zero, suc, ◌+◌, ◌≤◌, ◌<◌, List, [], ◌∷◌, Option, Some, None, Result, Ok, Err}
use Rattle.std.specs.Prelude.{length, sum_by, ◌==◌, if◌then◌else◌, ⊤}

-- a book of the list, with its number
abbrev pub listed_book : Kept → ℕ × BookValue
listed_book k = (
  k.number,
  record {
    key = k.made.key;
    name = k.made.name;
    capacity = k.made.capacity;
    terms = k.terms.items;
    pledges = k.pledges.items;
    imported = k.imported;
  },
)

-- the book at a number: the first of that number
abbrev pub book_at : List (ℕ × BookValue) → ℕ → Option BookValue
book_at [] b = None
book_at (e ∷ es) b = if b == e.0 then Some e.1 else book_at es b

-- the place of the first book of a number
abbrev pub IsPlace : List (ℕ × BookValue) → ℕ → ℕ → Type 0
IsPlace [] b i = ⊥
IsPlace (e ∷ es) b zero = b ≡ e.0
IsPlace (e ∷ es) b (suc i) = (b ≢ e.0) × IsPlace es b i

-- the least book number of the list that is greater than `after`; None only if no number is
abbrev pub IsLeastAbove : List (ℕ × BookValue) → ℕ → Option ℕ → Type 0
IsLeastAbove books after None = (b : ℕ) (book : BookValue) → book_at books b ≡ Some book → b ≤ after
IsLeastAbove books after (Some next) =
    (after < next) × ((book : BookValue) × (book_at books next ≡ Some book))
    × ((b : ℕ) (book : BookValue) → book_at books b ≡ Some book → after < b → next ≤ b)

-- how many rows a pledge counts for, or 0 where there is none
abbrev pub rows_now : Option PledgeValue → ℕ
rows_now None = 0
rows_now (Some p) = pledge_row_count p

-- how many rows a change adds, and how many rows the pledge has that it replaces
abbrev pub added_rows : Change → ℕ
added_rows (MakeBook b new) = 1
added_rows (AddTerms b version terms) = 1
added_rows (PutPledge b n p) = pledge_row_count p
added_rows (ImportBook b key rows) = length rows.terms + sum_by pledge_row_count rows.pledges

abbrev pub replaced_rows : List (ℕ × BookValue) → Change → ℕ
replaced_rows books (MakeBook b new) = 0
replaced_rows books (AddTerms b version terms) = 0
replaced_rows books (PutPledge b n p) = rows_now (pledge_in (book_at books b) n)
replaced_rows books (ImportBook b key rows) = 0

-- A change can be made to the books of the list. A new book's number is not taken; every other change names a book of
-- the list. A pledge's number is that of a pledge of the book or the next one. Imported rows are replayable.
abbrev pub Fits : List (ℕ × BookValue) → Change → Type 0
Fits books (MakeBook b new) = book_at books b ≡ None
Fits books (AddTerms b version terms) = (at : BookValue) × (book_at books b ≡ Some at)
Fits books (PutPledge b n p) = (at : BookValue) × (book_at books b ≡ Some at) × (n ≤ 1 + length at.pledges)
Fits books (ImportBook b key rows) = (at : BookValue) × (book_at books b ≡ Some at) × AreReplayable rows.terms rows.pledges

-- the book that the change names is changed by it, and every other book is as it was
abbrev pub HasChange : List (ℕ × BookValue) → Change → List (ℕ × BookValue) → Type 0
HasChange old change new =
    (b : ℕ) → book_at new b ≡ (if b == book_number change then changed_book (book_at old (book_number change)) change else book_at old b)

-- the host whose books are those of the list
abbrev pub host_of : Books → Host
host_of k = record { books = from_entries k.books; limit = k.limit }

-- the invariant of `ListKeep`: the host is sound, `count` is the number of its rows, and the limit is at most the
-- largest
pub record IsListed (k : Books) (count : ℕ) : Type 0 where
  pub sound : IsSound (host_of k)
  pub counted : count ≡ rows (host_of k)
  pub limit : k.limit ≤ most_rows

-- The result of a save. Ok: the change is made, and the rows are within the limit. Full: they would exceed it, and
-- nothing is changed. Memory: nothing is changed. A list never answers Store.
abbrev pub SavesListed : Books → Change → Result (Unit {0}) SaveError → Books → Type 0
SavesListed old change (Ok done) new = (host_of new ≡ with_change (host_of old) change) × (rows (with_change (host_of old) change) ≤ old.limit)
SavesListed old change (Err Full) new = (new ≡ old) × (old.limit < rows (with_change (host_of old) change))
SavesListed old change (Err Memory) new = new ≡ old
SavesListed old change (Err (Store fault)) new = ⊥

-- A list is always honest, usable and steady, and stands for its host alone. As a model of a crash it leaves
-- that host. It is whole if the host is sound.
abbrev pub list_keeping : Keeping Books
list_keeping =
    record { stands = λ k h. h ≡ host_of k; honest = λ k. ⊤; usable = λ k. ⊤; steady = λ k. ⊤; leaves = λ k h. h ≡ host_of k; whole = λ k. IsSound (host_of k) }
