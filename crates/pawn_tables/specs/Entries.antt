-- Entries of a pledge, found by their numbers.
use Rattle.pawn_debt.specs.Limits.{most_pence}
use Rattle.pawn_tables.specs.Common.{IsDayNumber, Entry}
use Rattle.pawn_tables.specs.Pages.{IsPage}
use Rattle.std.specs.Prelude.{ℕ, ◌+◌, ◌≤◌, ◌==◌, nat_le, List, [], ◌∷◌, filter, find, Option}

-- the numbers of the entries rise, and none is less than n; numbers may be missing
abbrev pub RiseFrom : ℕ → List Entry → Type 0
RiseFrom n [] = Unit {0}
RiseFrom n (e ∷ es) = (n ≤ e.seq) × RiseFrom (e.seq + 1) es

-- the entry with number n
abbrev pub with_seq : List Entry → ℕ → Option Entry
with_seq es n = find (λ (e : Entry). e.seq == n) es

-- the entries with number n or more
abbrev pub entries_from : ℕ → List Entry → List Entry
entries_from n es = filter (λ (e : Entry). nat_le n e.seq) es

-- the number that follows an entry's
abbrev pub behind : Entry → ℕ
behind e = e.seq + 1

-- a page of the entries with number n or more
abbrev pub IsEntriesPage : ℕ → List Entry → List Entry → Type 0
IsEntriesPage n es page = IsPage (λ m. entries_from m es) (λ (e : Entry). e) behind n page

-- a sum in pence that an entry may have
abbrev pub IsAmount : ℕ → Type 0
IsAmount pence = (1 ≤ pence) × (pence ≤ most_pence)

-- the row of the entry can be decoded: its day is in the calendar, and its sum is one that an entry may have
abbrev pub IsEntryDecodable : Entry → Type 0
IsEntryDecodable e = IsDayNumber e.day × IsAmount e.pence
