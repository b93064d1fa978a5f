-- The rows that an import writes.
use Rattle.pawn_saving.specs.Common.{pledge_row_count, ListsOurs}
use Rattle.pawn_saving.specs.Putting.{beside, whole_pledge}
use Rattle.pawn_tables.specs.At.{at_pledge}
use Rattle.pawn_tables.specs.Common.{HasCleanDisk, State, PledgeValue, AreNumberedFrom, Listed}
use Rattle.pawn_tables.specs.Rows.{number_in_book}
use Rattle.pawn_tables.specs.Schema.{bookings_tree}
use Rattle.std.specs.Prelude.{◌≡◌, ℕ, List, [], filter, flat_map, IsTrue, Result, IfOk, sum_by}

-- all rows of pledges of book b, by the tree of their table
abbrev pub whole_pledges : ℕ → List PledgeValue → Listed
whole_pledges b pledges t = flat_map (λ p. whole_pledge b (number_in_book p) p t) pledges

-- All rows of pledges numbered 1, 2, .. are added to their tables, if no booking of the book is stored. The answer is
-- how many of these rows are counted.
abbrev pub AddsPledges : {E : Type 0} → State → State → Result ℕ E → ℕ → List PledgeValue → Type 0
AddsPledges old new result b pledges =
    HasCleanDisk new → IsTrue old.in_transaction → (listed : Listed) → ((n : ℕ) → filter (at_pledge b n) (listed bookings_tree) ≡ [])
    → AreNumberedFrom 1 pledges → ListsOurs old.now listed
    → IfOk result (λ added. (added ≡ sum_by pledge_row_count pledges) × ListsOurs new.now (beside (whole_pledges b pledges) listed))
