-- What the result of a check states about a host.
use Rattle.pawn_base.specs.Lists.{DoNotFall, Each, last_by}
use Rattle.pawn_book.specs.BookStep.{BookValue}
use Rattle.pawn_book.specs.HostStep.{Host, book_row_count, pledge_row_count, rows}
use Rattle.pawn_book.specs.Keeping.{Keeping, number_of}
use Rattle.pawn_book.specs.Rows.{AreDistinct, AreNumberedFrom, IsUnder, references_of, version_of}
use Rattle.pawn_book.specs.Sound.{AreSound, HasTextsAndWords, HasUnsoundBook, IsSoundAt}
use Rattle.pawn_book.specs.declared.fault.KeepError.{KeepError}
use Rattle.pawn_book.specs.declared.fault.StoreFault.TheVariants.{NoRecord, Database}
use Rattle.pawn_check.specs.declared.counts.BookCounts.{BookCounts}
use Rattle.pawn_check.specs.declared.counts.Counts.{Counts}
use Rattle.pawn_check.specs.declared.fault.CheckFault.{CheckFault}
use Rattle.pawn_check.specs.declared.fault.CheckFault.TheVariants.{Damaged, Memory, Store}
use Rattle.pawn_pledge.specs.Common.{most_entries}
use Rattle.pawn_pledge.specs.Limits.{most_secrets}
use Rattle.pawn_pledge.specs.Pledge.{PledgeValue}
use Rattle.pawn_pledge.specs.Replayable.{IsReachable}
use Rattle.std.specs.FinMap.{entries, get}
use Rattle.std.specs.Prelude.{◌≡◌, ℕ, ◌+◌, List, length, Result, Ok, Err, sum_by, IsErrOf, Some}
use Rattle.pawn_book.specs.declared.fault.KeepError.TheVariants as Keeper

-- a keeper's error as a fault of a check: a row that cannot be decoded is damage
abbrev pub check_fault_of : KeepError → CheckFault
check_fault_of Keeper.Memory = Memory
check_fault_of (Keeper.Store NoRecord) = Damaged
check_fault_of (Keeper.Store Database) = Store

-- if the fault is Damaged, some book of the host is not sound; the other faults say nothing
abbrev pub Blames : Host → CheckFault → Type 0
Blames h Damaged = HasUnsoundBook h
Blames h Memory = Unit {0}
Blames h Store = Unit {0}

-- P holds of the value that was found; or the fault is as `Blames` says
abbrev pub FindsSound : {T : Type 0} → Host → Result T CheckFault → (T → Type 0) → Type 0
FindsSound h (Ok found) P = P found
FindsSound h (Err fault) P = Blames h fault

-- these are the numbers of the host's books, of their pledges, and of its counted rows
pub record AreCounted (h : Host) (counts : Counts) : Type 0 where
  pub books : counts.books ≡ length (entries h.books)
  pub pledges : counts.pledges ≡ sum_by (λ (e : ℕ × BookValue). length e.1.pledges) (entries h.books)
  pub rows : counts.rows ≡ rows h

-- each book is sound and the counts are right; or the fault is as `Blames` says
abbrev pub ChecksBooks : Host → Result Counts CheckFault → Type 0
ChecksBooks h result = FindsSound h result (λ counts. AreSound h × AreCounted h counts)

-- the most counted rows of a pledge: its own, its entries, its secrets and its booking. Extensions are not counted
abbrev pub most_pledge_rows : ℕ
most_pledge_rows = 1 + most_entries + most_secrets + 1

-- over a steady keeper the fault is never Store
abbrev pub IsQuietCheck : {K T : Type 0} → Keeping K → K → Result T CheckFault → Type 0
IsQuietCheck k old result = k.steady old → IsErrOf result Store → ⊥

-- these are the numbers of a book's pledges and counted rows
pub record AreOfBook (book : BookValue) (counts : BookCounts) : Type 0 where
  pub pledges : counts.pledges ≡ length book.pledges
  pub rows : counts.rows ≡ book_row_count book

-- the book, if the host has it, is sound and these are its counts; or the fault is as `Blames` says
abbrev pub ChecksBook : Host → ℕ → Result BookCounts CheckFault → Type 0
ChecksBook h b result = (book : BookValue) → get h.books b ≡ Some book → FindsSound h result (λ counts. IsSoundAt b book × AreOfBook book counts)

-- the pledge can be number n of a sound book with these terms and pledges
pub record FitsAt (book : BookValue) (n : ℕ) (p : PledgeValue) : Type 0 where
  pub number : p.agreement.number ≡ n
  pub reachable : IsReachable p
  pub under : IsUnder book.terms p
  pub reference : number_of (Some book) p.agreement.opening.reference ≡ Some n
  pub texts_and_words : HasTextsAndWords p

-- The first pledges of a book are as in a sound book; the last of them has this version of terms (0 if there are none),
-- and together they have this many counted rows.
pub record IsFront (book : BookValue) (pledges : List PledgeValue) (version rows : ℕ) : Type 0 where
  pub numbered : AreNumberedFrom 1 pledges
  pub reachable : Each IsReachable pledges
  pub references : AreDistinct (references_of pledges)
  pub under : Each (IsUnder book.terms) pledges
  pub versions : DoNotFall version_of 0 pledges
  pub texts_and_words : Each HasTextsAndWords pledges
  pub last : version ≡ last_by version_of 0 pledges
  pub counted : rows ≡ sum_by pledge_row_count pledges
