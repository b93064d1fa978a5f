-- What the parts of a pledge's put write, one after another.
use Rattle.pawn_saving.proofs.Basics.{one_mapped}
use Rattle.pawn_saving.proofs.OurTables.{with_tables}
use Rattle.pawn_saving.proofs.RowsInOrder.{nothing_put, reordered}
use Rattle.pawn_saving.specs.Common.{Database, with_rows, ListsOurs}
use Rattle.pawn_saving.specs.Putting.{beside, booking_under, entries_past, extensions_past, lists_past, row_under}
use Rattle.pawn_saving.specs.Putting.{secrets_past, related_of, totals_under, whole_pledge, with_related}
use Rattle.pawn_saving.specs.declared.lengths.Lengths.{Lengths}
use Rattle.pawn_tables.proofs.Basics.{IsPermutation-sym}
use Rattle.pawn_tables.specs.Common.{Row, PledgeValue, Listed}
use Rattle.pawn_tables.specs.Rows.{at_most_one}
use Rattle.pawn_tables.specs.Schema.{bookings_tree, entries_tree, extensions_tree, pledges_tree, secrets_tree}
use Rattle.pawn_tables.specs.Schema.{totals_tree}
use Rattle.std.proofs.Common.{◌≡◌, ◌++◌, ◌∷◌, ℕ, List, Option, Some, None, IsPermutation, sym, subst, ◌∙◌, option_map}

module _ (db : Database) (listed : Listed) (b n : ℕ) (p : PledgeValue) where
  -- the lists, one after another
  pub lists_put : (l : Lengths) → ListsOurs db (with_rows (with_rows (with_rows listed entries_tree (entries_past l.entries b n p ++ listed entries_tree))
      secrets_tree (secrets_past l.secrets b n p ++ listed secrets_tree)) extensions_tree (extensions_past l.extensions b n p ++ listed extensions_tree))
      → ListsOurs db (beside (lists_past l b n p) listed)
  lists_put l lists = with_tables lists lists.lists.tables

  -- the rows of which there is one at most
  pub related_put : ListsOurs db (with_rows (with_rows (with_rows listed pledges_tree (row_under b n p ∷ listed pledges_tree)) totals_tree
      (totals_under b n p ∷ listed totals_tree)) bookings_tree (booking_under b n p ++ listed bookings_tree)) → ListsOurs db (beside (related_of b n p) listed)
  related_put lists = with_tables lists lists.lists.tables

  -- both
  pub whole_put : ListsOurs db (beside (lists_past (record { entries = 0; secrets = 0; extensions = 0 }) b n p) (beside (related_of b n p) listed))
      → ListsOurs db (beside (whole_pledge b n p) listed)
  whole_put lists = with_tables lists lists.lists.tables

  -- the rows of which there is one at most, where the pledge stood
  pub related_set : (others : Listed) → ListsOurs db (with_rows (with_rows (with_rows listed pledges_tree (row_under b n p ∷ others pledges_tree)) totals_tree
      (totals_under b n p ∷ others totals_tree)) bookings_tree (booking_under b n p ++ others bookings_tree)) → ListsOurs db (with_related b n p others listed)
  related_set others lists = with_tables lists lists.lists.tables

-- ---- bookings

-- the rows before a booking is put, as its statement reads them
pub stood_before : {A : Type 0} (f : A → Row) (o : Option A) (rows others : List Row) → IsPermutation rows (at_most_one f o ++ others)
    → IsPermutation rows (at_most_one (λ r. r) (option_map f o) ++ others)
stood_before f o rows others same = subst (λ l. IsPermutation rows (l ++ others)) (one_mapped f (λ r. r) o) same

pub now_stands : {A : Type 0} (f : A → Row) (db : Database) (listed : Listed) (others : List Row) (o : Option A) (x : A) → o ≡ Some x
    → ListsOurs db (with_rows listed bookings_tree (f x ∷ others)) → ListsOurs db (with_rows listed bookings_tree (at_most_one f o ++ others))
now_stands f db listed others o x is l = subst (λ p. ListsOurs db (with_rows listed bookings_tree (at_most_one f p ++ others))) (sym is) l

-- no booking is put, and none stood
pub none_stands : {A : Type 0} (f : A → Row) (db : Database) (listed : Listed) (others : List Row) (o before : Option A) → o ≡ None → before ≡ None
    → IsPermutation (listed bookings_tree) (at_most_one f before ++ others) → ListsOurs db listed
    → ListsOurs db (with_rows listed bookings_tree (at_most_one f o ++ others))
none_stands f db listed others o before is was same l = reordered db listed bookings_tree _ (listed bookings_tree) (IsPermutation-sym _ _
    (subst (λ p. IsPermutation (listed bookings_tree) (at_most_one f p ++ others)) (was ∙ sym is) same)) (nothing_put db listed bookings_tree l)
