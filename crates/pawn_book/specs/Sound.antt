-- Sound books and hosts.
pub use Rattle.pawn_book.specs.TextsAndWords.{IsWord, AreWords, HasTextsAndWords}
use Rattle.pawn_book.specs.BookStep.{BookValue}
use Rattle.pawn_book.specs.Common.{Each, IsNumber, IsText, IsUtf8}
use Rattle.pawn_book.specs.HostStep.{Host, rows}
use Rattle.pawn_book.specs.Limits.{IsCapacity, most_name_bytes}
use Rattle.pawn_book.specs.Rows.{AreReplayable}
use Rattle.std.specs.FinMap.{get}
use Rattle.std.specs.Prelude.{◌≡◌, ℕ, ◌≤◌, Some, IfSome}

-- a sound book: its rows are replayable and within the limits, its keys are words of 128 bits, and its texts are UTF-8
pub record IsSoundBook (book : BookValue) : Type 0 where
  pub key : IsWord book.key
  pub imported : IfSome book.imported (λ imported. IsWord imported.key)
  pub utf8 : IsUtf8 book.name
  pub name : IsText most_name_bytes book.name
  pub capacity : IsCapacity book.capacity
  pub rows : AreReplayable book.terms book.pledges
  pub texts_and_words : Each HasTextsAndWords book.pledges

-- a sound book under a number that a book may have
abbrev pub IsSoundAt : ℕ → BookValue → Type 0
IsSoundAt b book = IsNumber b × IsSoundBook book

-- each book of the host is sound
abbrev pub AreSound : Host → Type 0
AreSound h = (b : ℕ) (book : BookValue) → get h.books b ≡ Some book → IsSoundAt b book

-- the host has a book of this number that is not sound
abbrev pub IsUnsoundAt : ℕ → Host → Type 0
IsUnsoundAt b h = (book : BookValue) × (get h.books b ≡ Some book) × (IsSoundAt b book → ⊥)

-- a book of the host is not sound
abbrev pub HasUnsoundBook : Host → Type 0
HasUnsoundBook h = (b : ℕ) × IsUnsoundAt b h

-- each book of the host is sound, and its rows are within the limit
pub record IsSound (h : Host) : Type 0 where
  pub books : AreSound h
  pub fits : rows h ≤ h.limit
