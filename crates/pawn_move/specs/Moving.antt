-- Tables during a migration from an older schema.
use Rattle.pawn_debt.specs.Replay.{IsReachableDebt}
use Rattle.pawn_move.specs.StandsUnder.{HasNoExtension, StandsUnder, listed_under}
use Rattle.pawn_opening.specs.Common.{Row, HasCleanDisk, State, Host, Listed, with_rows, ListsOurs, StandsFor}
use Rattle.pawn_opening.specs.Common.{Index, Lists, Schema, with_indexes}
use Rattle.pawn_opening.specs.Indexing.{AreLacked}
use Rattle.pawn_opening.specs.declared.indexing.Lacking.{Lacking}
use Rattle.pawn_tables.specs.Common.{get, Tables, Totals, PledgeValue, debt_of, Each, BookValue, pledge_in, IsNextBook}
use Rattle.pawn_tables.specs.Common.{pledges_of, HasUnsoundBook, KeepError}
use Rattle.pawn_tables.specs.Finding.{Finds}
use Rattle.pawn_tables.specs.PledgeRows.{totals_in}
use Rattle.pawn_tables.specs.Rows.{totals_listed}
use Rattle.pawn_tables.specs.Schema.{extensions_tree, keep_schema, totals_tree}
use Rattle.pawn_tables.specs.StandsFor.{AreBooksOrdered, AreStorable, ListDebts, of_pledges}
use Rattle.pawn_terms.specs.Terms.{IsChecked}
use Rattle.std.specs.Prelude.{◌≡◌, ◌++◌, ℕ, Bool, [], List, OnOk, Option, Some, None, IfSome, IsTrue, Result, flat_map}
use Rattle.std.specs.Prelude.{is_some}

-- the rows of a host by the tree of their table, with the number n of a schema, these rows of totals, and no extensions
abbrev pub listed_with : ℕ → List Row → Host → Listed
listed_with n owed h = with_rows (with_rows (listed_under n h) totals_tree owed) extensions_tree []

-- The program's tables, with no indexes but those of their keys, hold the rows of a host without extensions, except that
-- they have these rows of totals, and note the number n of a schema.
pub record IsMoving (n : ℕ) (owed : List Row) (db : Tables) (h : Host) : Type 0 where
  pub lists : Lists keep_schema db (listed_with n owed h)
  pub ordered : AreBooksOrdered h
  pub storable : AreStorable h
  pub unextended : HasNoExtension h

-- the schema is the program's with these of its indexes, and no others but those of the keys
abbrev pub HasMade : Option Lacking → Schema → Type 0
HasMade which schema = (more : List Index) × AreLacked which keep_schema.tables more × (schema ≡ with_indexes more)

-- The same tables after the last step: they note the number of the program's schema, and have these of its indexes.
pub record HasMoved (which : Option Lacking) (owed : List Row) (db : Tables) (h : Host) : Type 0 where
  pub lists : ListsOurs db (listed_with 3 owed h)
  pub made : HasMade which db.schema
  pub ordered : AreBooksOrdered h
  pub storable : AreStorable h
  pub unextended : HasNoExtension h

-- the tables of books, terms, pledges and entries hold the rows of a host without extensions
pub record ListFirstDebts (db : Tables) (h : Host) : Type 0 where
  pub debts : ListDebts db h
  pub unextended : HasNoExtension h

-- ---- debts that are checked

-- the debt of a pledge is reachable: its terms are within their limits, and its sum and its entries, one after the
-- other, are such that commands can produce them
abbrev pub CanBeOwed : PledgeValue → Type 0
CanBeOwed p = IsChecked p.agreement.terms × IsReachableDebt (debt_of p)

-- the debts of all pledges of a book are reachable
abbrev pub AreOwedIn : Host → ℕ → Type 0
AreOwedIn h b = Each CanBeOwed (pledges_of (get h.books b))

-- the debts of all pledges of all books are reachable
abbrev pub AreAllOwed : Host → Type 0
AreAllOwed h = (b : ℕ) (k : BookValue) → get h.books b ≡ Some k → Each CanBeOwed k.pledges

-- these are the totals of pledge n of book b, whose debt is reachable; none if there is no such pledge
abbrev pub AreTotalsAt : Host → ℕ → ℕ → Option Totals → Type 0
AreTotalsAt h b n totals = (totals ≡ totals_in (pledge_in (get h.books b) n)) × IfSome (pledge_in (get h.books b) n) CanBeOwed

-- the answer states whether there is a pledge n in book b; if there is, its debt is reachable
abbrev pub IsCheckedAt : Host → ℕ → ℕ → Bool → Type 0
IsCheckedAt h b n checked = (checked ≡ is_some (pledge_in (get h.books b) n)) × IfSome (pledge_in (get h.books b) n) CanBeOwed

-- this is the book with the least number that is greater than `above`, if there is one; its debts are reachable
abbrev pub IsNextChecked : Host → ℕ → Option ℕ → Type 0
IsNextChecked h above next = IsNextBook h above next × IfSome next (AreOwedIn h)

-- ---- totals that are inserted

-- the rows of a value, if there is one; otherwise none
abbrev pub rows_if_any : {X : Type 0} → Option X → (X → List Row) → List Row
rows_if_any None f = []
rows_if_any (Some x) f = f x

-- the rows of totals of the pledges of a book
abbrev pub totals_of_book : Host → ℕ → List Row
totals_of_book h b = flat_map (totals_listed b) (pledges_of (get h.books b))

-- Within a transaction the call inserts the rows of totals `put`, and P holds of its answer. The error is NoRecord only
-- if some book of the host is not sound.
abbrev pub PutsTotals : {A : Type 0} → State → State → Result A KeepError → (Host → A → List Row) → (Host → A → Type 0) → Type 0
PutsTotals old new result put P =
    HasCleanDisk new → IsTrue old.in_transaction → (n : ℕ) (owed : List Row) (h : Host) → IsMoving n owed old.now h
    → Finds result (λ x. P h x × IsMoving n (put h x ++ owed) new.now h) (HasUnsoundBook h)

-- Within a transaction the call inserts the totals of all pledges of all books, whose debts are reachable, if no book
-- has the number 0. The error is NoRecord only if some book of the host is not sound.
abbrev pub PutsAll : State → State → Result (Unit {0}) KeepError → Type 0
PutsAll old new result =
    HasCleanDisk new → IsTrue old.in_transaction → (n : ℕ) (owed : List Row) (h : Host) → get h.books 0 ≡ None → IsMoving n owed old.now h
    → Finds result (λ done. AreAllOwed h × IsMoving n (of_pledges h totals_listed ++ owed) new.now h) (HasUnsoundBook h)

-- within a transaction the call notes the number of the program's schema
abbrev pub NotesProgram : State → State → Result (Unit {0}) KeepError → Type 0
NotesProgram old new result =
    HasCleanDisk new → IsTrue old.in_transaction → (n : ℕ) (owed : List Row) (h : Host) → IsMoving n owed old.now h → OnOk result (IsMoving 3 owed new.now h)

-- within a transaction the call notes the number of the program's schema, and makes these of its indexes
abbrev pub Finishes : Option Lacking → State → State → Result (Unit {0}) KeepError → Type 0
Finishes which old new result =
    HasCleanDisk new → IsTrue old.in_transaction → (n : ℕ) (owed : List Row) (h : Host) → IsMoving n owed old.now h
    → OnOk result (HasMoved which owed new.now h)

-- within a transaction the call migrates tables of schema n to the program's; the error is NoRecord only if some book
-- of the host is not sound
abbrev pub Moves : ℕ → State → State → Result (Unit {0}) KeepError → Type 0
Moves n old new result =
    HasCleanDisk new → IsTrue old.in_transaction → (h : Host) → get h.books 0 ≡ None → StandsUnder n old.now h
    → Finds result (λ done. StandsFor new.now h) (HasUnsoundBook h)

-- within a transaction the call migrates tables of schema n only if every debt is reachable
abbrev pub MovesOwed : ℕ → State → State → Result (Unit {0}) KeepError → Type 0
MovesOwed n old new result =
    HasCleanDisk new → IsTrue old.in_transaction → (h : Host) → get h.books 0 ≡ None → StandsUnder n old.now h → OnOk result (AreAllOwed h)

-- within a transaction the call migrates tables of schema n only to ones that have these of the program's indexes, and
-- no others but those of the keys
abbrev pub MovesIndexed : ℕ → Option Lacking → State → State → Result (Unit {0}) KeepError → Type 0
MovesIndexed n which old new result =
    HasCleanDisk new → IsTrue old.in_transaction → (h : Host) → get h.books 0 ≡ None → StandsUnder n old.now h → OnOk result (HasMade which new.now.schema)
