-- The rows that saving a pledge writes.
use Rattle.pawn_debt.specs.Kept.{totals_of}
use Rattle.pawn_saving.specs.Common.{pledge_row_count, with_rows, ListsOurs}
use Rattle.pawn_saving.specs.RowWrites.{IsOnly}
use Rattle.pawn_saving.specs.declared.lengths.Lengths.{Lengths}
use Rattle.pawn_tables.specs.At.{at_pledge}
use Rattle.pawn_tables.specs.Common.{Row, HasCleanDisk, State, PledgeValue, debt_of, Listed}
use Rattle.pawn_tables.specs.Rows.{at_most_one, booking_cells, entry_cells, extension_cells, placed_from, pledge_cells}
use Rattle.pawn_tables.specs.Rows.{secret_cells, totals_cells, under}
use Rattle.pawn_tables.specs.Schema.{bookings_tree, entries_tree, extensions_tree, pledges_tree, secrets_tree}
use Rattle.pawn_tables.specs.Schema.{totals_tree}
use Rattle.std.specs.Prelude.{◌≡◌, ◌==◌, if◌then◌else◌, ℕ, ◌+◌, List, [], ◌∷◌, ◌++◌, map, drop, filter, Bool}
use Rattle.std.specs.Prelude.{IsPermutation, IsTrue, Result, OnOk, IfOk}

-- ---- the rows of pledge n of book b

abbrev pub row_under : ℕ → ℕ → PledgeValue → Row
row_under b n p = under b n (pledge_cells p)

abbrev pub totals_under : ℕ → ℕ → PledgeValue → Row
totals_under b n p = under b n (totals_cells (totals_of (debt_of p)))

abbrev pub booking_under : ℕ → ℕ → PledgeValue → List Row
booking_under b n p = at_most_one (λ k. under b n (booking_cells k)) p.standing.booking

-- the rows of each list after its first `so_many`
abbrev pub entries_past : ℕ → ℕ → ℕ → PledgeValue → List Row
entries_past so_many b n p = map (λ e. under b n (entry_cells e)) (drop so_many p.entries)

abbrev pub secrets_past : ℕ → ℕ → ℕ → PledgeValue → List Row
secrets_past so_many b n p = placed_from (λ place i. under b n (secret_cells place i)) (so_many + 1) (drop so_many p.secrets)

abbrev pub extensions_past : ℕ → ℕ → ℕ → PledgeValue → List Row
extensions_past so_many b n p = placed_from (λ place e. under b n (extension_cells place e)) (so_many + 1) (drop so_many p.extensions)

-- the rows of its lists after these lengths, by the tree of their table
abbrev pub lists_past : Lengths → ℕ → ℕ → PledgeValue → Listed
lists_past l b n p t =
    if t == entries_tree then entries_past l.entries b n p
    else if t == secrets_tree then secrets_past l.secrets b n p
    else if t == extensions_tree then extensions_past l.extensions b n p
    else []

-- the single rows of the pledge (at most one in a table), by the tree of their table
abbrev pub related_of : ℕ → ℕ → PledgeValue → Listed
related_of b n p t =
    if t == pledges_tree then row_under b n p ∷ []
    else if t == bookings_tree then booking_under b n p
    else if t == totals_tree then totals_under b n p ∷ []
    else []

-- all rows of the pledge, by the tree of their table
abbrev pub whole_pledge : ℕ → ℕ → PledgeValue → Listed
whole_pledge b n p t =
    if t == pledges_tree then row_under b n p ∷ []
    else if t == entries_tree then entries_past 0 b n p
    else if t == secrets_tree then secrets_past 0 b n p
    else if t == bookings_tree then booking_under b n p
    else if t == totals_tree then totals_under b n p ∷ []
    else if t == extensions_tree then extensions_past 0 b n p
    else []

-- the single rows of pledge n of book b are listed, and the other rows of these tables are not the pledge's
pub record AreRelatedPut (b n : ℕ) (p : PledgeValue) (listed others : Listed) : Type 0 where
  pub row : IsOnly (at_pledge b n) (listed pledges_tree) (row_under b n p) (others pledges_tree)
  pub totals : IsOnly (at_pledge b n) (listed totals_tree) (totals_under b n p) (others totals_tree)
  pub bookings : IsPermutation (listed bookings_tree) (booking_under b n p ++ others bookings_tree)
  pub no_booking : filter (at_pledge b n) (others bookings_tree) ≡ []

-- the single rows of a pledge joined to the other rows of their tables; the other tables are unchanged
abbrev pub with_related : ℕ → ℕ → PledgeValue → Listed → Listed → Listed
with_related b n p others listed t =
    if t == pledges_tree then row_under b n p ∷ others pledges_tree
    else if t == bookings_tree then booking_under b n p ++ others bookings_tree
    else if t == totals_tree then totals_under b n p ∷ others totals_tree
    else listed t

-- ---- what the parts write

-- the rows of each table, with further rows in front
abbrev pub beside : Listed → Listed → Listed
beside more listed t = more t ++ listed t

-- the rows are added to those of their tables
abbrev pub AddRows : {T E : Type 0} → State → State → Result T E → Listed → Type 0
AddRows old new result more =
    HasCleanDisk new → IsTrue old.in_transaction → (listed : Listed) → ListsOurs old.now listed → OnOk result (ListsOurs new.now (beside more listed))

-- the single rows of a pledge are added to their tables, if no booking of it is stored
abbrev pub AddRelated : {T E : Type 0} → State → State → Result T E → ℕ → ℕ → PledgeValue → Type 0
AddRelated old new result b n p =
    HasCleanDisk new → IsTrue old.in_transaction → (listed : Listed) → filter (at_pledge b n) (listed bookings_tree) ≡ [] → ListsOurs old.now listed
    → OnOk result (ListsOurs new.now (beside (related_of b n p) listed))

-- the single rows of a pledge replace those that it had before
abbrev pub RenewRelated : {T E : Type 0} → State → State → Result T E → ℕ → ℕ → PledgeValue → PledgeValue → Type 0
RenewRelated old new result b n before p =
    HasCleanDisk new → IsTrue old.in_transaction → (listed others : Listed) → AreRelatedPut b n before listed others → ListsOurs old.now listed
    → OnOk result (ListsOurs new.now (with_related b n p others listed))

-- all rows of the pledge are added to their tables, if no booking of it is stored; the answer is how many of them are
-- counted
abbrev pub AddsPledge : {E : Type 0} → State → State → Result ℕ E → ℕ → ℕ → PledgeValue → Type 0
AddsPledge old new result b n p =
    HasCleanDisk new → IsTrue old.in_transaction → (listed : Listed) → filter (at_pledge b n) (listed bookings_tree) ≡ [] → ListsOurs old.now listed
    → IfOk result (λ added. (added ≡ pledge_row_count p) × ListsOurs new.now (beside (whole_pledge b n p) listed))

-- in one table, these rows replace those that pass the test
abbrev pub PutsFor : {T E : Type 0} → State → State → Result T E → ℕ → (Row → Bool) → List Row → List Row → Type 0
PutsFor old new result tree test before after =
    HasCleanDisk new → IsTrue old.in_transaction → (listed : Listed) (others : List Row) → IsPermutation (listed tree) (before ++ others)
    → filter test others ≡ [] → ListsOurs old.now listed
    → OnOk result (ListsOurs new.now (with_rows listed tree (after ++ others)))
