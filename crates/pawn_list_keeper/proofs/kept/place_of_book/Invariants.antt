use Rattle.pawn_list_keeper.specs.Listed.{IsPlace, book_at, listed_book}
use Rattle.std.proofs.Common.{◌≡◌, ◌+◌, ℕ, drop, map}
use Rattle.pawn_list_keeper.proofs.kept.place_of_book.Given as goal

abbrev pub invariant-loop-place : goal.invariant-loop-place
invariant-loop-place l =
    (book_at (drop l.place (map listed_book l.books)) l.book ≡ book_at (map listed_book l.books) l.book)
    × ((j : ℕ) → IsPlace (drop l.place (map listed_book l.books)) l.book j → IsPlace (map listed_book l.books) l.book (l.place + j))
