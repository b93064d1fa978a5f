-- The host after a change, and which changes may be saved.
use Rattle.pawn_book.specs.BookStep.{BookValue, changed_book, pledge_from}
use Rattle.pawn_book.specs.Common.{Grows, PledgeValue}
use Rattle.pawn_book.specs.HostStep.{Host, with_book}
use Rattle.pawn_book.specs.Sound.{AreSound}
use Rattle.pawn_book.specs.declared.change.Change.{Change}
use Rattle.pawn_book.specs.declared.change.Change.TheVariants.{MakeBook, AddTerms, PutPledge, ImportBook}
use Rattle.std.specs.FinMap.{get}
use Rattle.std.specs.Prelude.{◌≡◌, ◌⊎◌, ℕ, ◌+◌, [], None, Some, length, List, ◌∷◌}

-- the number of the book that a change changes
abbrev pub book_number : Change → ℕ
book_number (MakeBook book new) = book
book_number (AddTerms book version terms) = book
book_number (PutPledge book number pledge) = book
book_number (ImportBook book key rows) = book

-- the host after a change
abbrev pub with_change : Host → Change → Host
with_change h change = with_book h (book_number change) (changed_book (get h.books (book_number change)) change)

-- the new pledge continues the old one: the agreement stays the same, and the lists grow only at their ends
pub record Continues (old new : PledgeValue) : Type 0 where
  pub agreement : new.agreement ≡ old.agreement
  pub lists : Grows old new

-- a book without terms, pledges and an import
pub record IsUnfilled (book : BookValue) : Type 0 where
  pub terms : book.terms ≡ []
  pub pledges : book.pledges ≡ []
  pub imported : book.imported ≡ None

-- A change that can come next: a new book; the next version of terms; the next pledge, or one that continues the pledge
-- with its number; an import into a book without terms, pledges and an import.
abbrev pub Follows : Host → Change → Type 0
Follows h (MakeBook book new) = get h.books book ≡ None
Follows h (AddTerms book version terms) = (at : BookValue) × (get h.books book ≡ Some at) × (version ≡ length at.terms + 1)
Follows h (PutPledge book number pledge) =
    (at : BookValue) × (get h.books book ≡ Some at)
    × ((number ≡ length at.pledges + 1) ⊎ ((old : PledgeValue) × (pledge_from 1 at.pledges number ≡ Some old) × Continues old pledge))
Follows h (ImportBook book key rows) = (at : BookValue) × (get h.books book ≡ Some at) × IsUnfilled at

-- a change that may be saved: it can come next, and the books of the changed host are sound
pub record CanSave (h : Host) (change : Change) : Type 0 where
  pub follows : Follows h change
  pub sound : AreSound (with_change h change)

-- pledges with their numbers k, k + 1, ..
abbrev pub numbered_pledges : ℕ → List PledgeValue → List (ℕ × PledgeValue)
numbered_pledges k [] = []
numbered_pledges k (p ∷ ps) = (k, p) ∷ numbered_pledges (k + 1) ps

-- the pledges that a change makes or changes, as they are after it
abbrev pub touched_pledges : Change → List (ℕ × PledgeValue)
touched_pledges (MakeBook b new) = []
touched_pledges (AddTerms b version terms) = []
touched_pledges (PutPledge b n p) = (n, p) ∷ []
touched_pledges (ImportBook b key rows) = numbered_pledges 1 rows.pledges
