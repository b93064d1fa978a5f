-- How much of a pledge is stored.
use Rattle.pawn_saving.specs.declared.lengths.Lengths.{Lengths}
use Rattle.pawn_saving.specs.declared.stored.PledgeList.{PledgeList}
use Rattle.pawn_saving.specs.declared.stored.PledgeList.TheVariants.{Entries, Secrets, Extensions}
use Rattle.pawn_saving.specs.declared.stored.Stored.{Stored}
use Rattle.pawn_tables.specs.Common.{HasCleanDisk, State, PledgeValue, Host, entries_of, extensions_of, secrets_of}
use Rattle.pawn_tables.specs.Common.{IsSound, Rests}
use Rattle.pawn_tables.specs.PledgeRows.{booking_of}
use Rattle.pawn_tables.specs.StandsFor.{StandsFor}
use Rattle.std.specs.Prelude.{◌≡◌, ℕ, ◌≤◌, length, Option, is_some, IsTrue, Result, IfOk}

-- how long a list of a pledge is: 0 if there is no pledge
abbrev pub length_in : PledgeList → Option PledgeValue → ℕ
length_in Entries p = length (entries_of p)
length_in Secrets p = length (secrets_of p)
length_in Extensions p = length (extensions_of p)

-- the lists of a pledge are as long as this
pub record AreLengths (l : Lengths) (p : Option PledgeValue) : Type 0 where
  pub entries : l.entries ≡ length (entries_of p)
  pub secrets : l.secrets ≡ length (secrets_of p)
  pub extensions : l.extensions ≡ length (extensions_of p)

-- the lists of a pledge are no longer than this
pub record IsLengthWithin (p : Option PledgeValue) (l : Lengths) : Type 0 where
  pub entries : length (entries_of p) ≤ l.entries
  pub secrets : length (secrets_of p) ≤ l.secrets
  pub extensions : length (extensions_of p) ≤ l.extensions

-- this much of a pledge is stored
pub record IsStored (s : Stored) (p : Option PledgeValue) : Type 0 where
  pub lengths : AreLengths s.lengths p
  pub booked : s.is_booked ≡ is_some (booking_of p)

-- Within a transaction, while the disk returns what was written: for each sound host that the tables stand for, P holds
-- of the value that was read, and the database is unchanged.
abbrev pub ReadsIn : {A E : Type 0} → State → State → Result A E → (Host → A → Type 0) → Type 0
ReadsIn old new result P =
    HasCleanDisk new → IsTrue old.in_transaction → (h : Host) → IsSound h → StandsFor old.now h → IfOk result (λ x. P h x × Rests old new)
