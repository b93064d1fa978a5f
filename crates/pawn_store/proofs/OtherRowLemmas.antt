-- The rows of one book are those of its own content.
use Rattle.one_table.specs.Listing.{Holds}
use Rattle.pawn_book.proofs.SlotRuns.{other_books_stay}
use Rattle.pawn_book.specs.BookStep.{BookValue}
use Rattle.pawn_book.specs.HostStep.{Host}
use Rattle.pawn_book.specs.Runs.{Event, Mark, host_after_event, no_memory, no_store, read_as, request_in, run_host}
use Rattle.pawn_pledge.specs.Pledge.{PledgeValue}
use Rattle.pawn_pledge.specs.declared.command.Stamp.{Stamp}
use Rattle.pawn_store.specs.OtherRows.{AreElsewhere, HaveSameRows, IsElsewhere, OtherRowsStay, OtherRowsStayInRuns}
use Rattle.pawn_store.specs.OtherRows.{rows_under_book}
use Rattle.pawn_tables.proofs.PledgeReads.{under_map, under_placed, under_booked}
use Rattle.pawn_tables.proofs.RowsUnderKey.{AreUnder, equals, rows_at, of_one_book}
use Rattle.pawn_tables.specs.At.{at_book, is_at}
use Rattle.pawn_tables.specs.Rows.{number, book_row, terms_listed, placed_from, terms_cells, pledge_listed}
use Rattle.pawn_tables.specs.Rows.{entries_listed, secrets_listed, booking_listed, totals_listed, extensions_listed}
use Rattle.pawn_tables.specs.Rows.{entry_cells, secret_cells, extension_cells, number_in_book}
use Rattle.pawn_tables.specs.StandsFor.{StandsFor, of_books, of_pledges}
use Rattle.pawn_terms.specs.declared.terms.Rates.{Rates}
use Rattle.sqlite.specs.Effect.{Database}
use Rattle.sqlite.specs.Order.{Row, column}
use Rattle.sqlite.specs.Table.{Table}
use Rattle.sqlite.specs.Tree.{Trees}
use Rattle.sqlite_trees.proofs.ListLemmas.{IsPermutation-filter}
use Rattle.std.proofs.Common.{◌≡◌, ◌≢◌, ◌++◌, ◌==◌, ℕ, ◌+◌, List, [], ◌∷◌, map, filter, flat_map, true, false, cond}
use Rattle.std.proofs.Common.{◌&&◌, Ok, Err, refl, sym, ap, subst, ◌∙◌, arith, IsPermutation}
use Rattle.std.proofs.lemmas.Bool.Decides.{nat_tests}
use Rattle.std.proofs.lemmas.List.Sorted.{IsPermutation-trans, IsPermutation-sym}
use Rattle.std.specs.FinMap.{entries, get}
use Rattle.std.specs.List.{AllByRecursion}

-- rows of one book
abbrev pub AreOf : ℕ → List Row → Type 0
AreOf b = AllByRecursion (λ r. column r 0 ≡ number b)

is_of : (b m : ℕ) (r : Row) → column r 0 ≡ number m → at_book b r ≡ ((m == b) && true)
is_of b m r at = (λ i. is_at (at i) (number b) && true) ∙ (λ i. equals m b i && true)

not_here : (b m : ℕ) → m ≢ b → ((m == b) && true) ≡ false
not_here b m apart = let e : (m == b) ≡ false = grind (arith, nat_tests, apart) in rw e refl

none_of : (b m : ℕ) → m ≢ b → (rows : List Row) → AreOf m rows → filter (at_book b) rows ≡ []
none_of b m apart [] h = refl
none_of b m apart (r ∷ rows) h = ap (λ c. cond c (r ∷ filter (at_book b) rows) (filter (at_book b) rows)) (is_of b m r h.0 ∙ not_here b m apart)
    ∙ none_of b m apart rows h.1

-- the rows of a book hang on its content alone
one_book : (h g : Host) (b : ℕ) (rows_of : ℕ → BookValue → List Row) → ((m : ℕ) (k : BookValue) → AreOf m (rows_of m k))
    → get h.books b ≡ get g.books b → filter (at_book b) (of_books h rows_of) ≡ filter (at_book b) (of_books g rows_of)
one_book h g b rows_of are same =
    let none = λ (m : ℕ) (k : BookValue) (apart : m ≢ b). none_of b m apart (rows_of m k) (are m k) in
    of_one_book h b (at_book b) rows_of none ∙ ap (λ o. rows_at o (λ k. filter (at_book b) (rows_of b k))) same ∙ sym (of_one_book g b (at_book b) rows_of none)

-- ---- the rows of each table are of their books

of_append : (b : ℕ) (xs ys : List Row) → AreOf b xs → AreOf b ys → AreOf b (xs ++ ys)
of_append b [] ys h g = g
of_append b (x ∷ xs) ys h g = (h.0, of_append b xs ys h.1 g)

of_under : (b n : ℕ) (rows : List Row) → AreUnder b n rows → AreOf b rows
of_under b n [] h = tt
of_under b n (r ∷ rows) h = (h.0.0, of_under b n rows h.1)

of_all : (b : ℕ) (f : PledgeValue → List Row) → ((p : PledgeValue) → AreUnder b (number_in_book p) (f p)) → (ps : List PledgeValue) → AreOf b (flat_map f ps)
of_all b f are [] = tt
of_all b f are (p ∷ ps) = of_append b (f p) (flat_map f ps) (of_under b (number_in_book p) (f p) (are p)) (of_all b f are ps)

of_terms : (b at : ℕ) (ts : List Rates) → AreOf b (placed_from (λ version t. number b ∷ number version ∷ terms_cells t) at ts)
of_terms b at [] = tt
of_terms b at (t ∷ ts) = (refl, of_terms b (at + 1) ts)

singles : {X : Type 0} (f : X → Row) (xs : List X) → flat_map (λ x. f x ∷ []) xs ≡ map f xs
singles f [] = refl
singles f (x ∷ xs) = ap (λ l. f x ∷ l) (singles f xs)

-- ---- tables

held : (old new : Trees) (b : ℕ) (table : Table) (xs ys : List Row) → Holds old table.tree table xs → Holds new table.tree table ys
    → filter (at_book b) xs ≡ filter (at_book b) ys → IsPermutation (rows_under_book b old table) (rows_under_book b new table)
held old new b table xs ys a c same = IsPermutation-trans _ _ _ (IsPermutation-sym _ _ (IsPermutation-filter (at_book b) _ _ a.same))
    (subst (λ l. IsPermutation l (rows_under_book b new table)) (sym same) (IsPermutation-filter (at_book b) _ _ c.same))

pub same_rows : (old new : Database) (h g : Host) (b : ℕ) → StandsFor old h → StandsFor new g → get h.books b ≡ get g.books b
    → HaveSameRows b old.trees new.trees
same_rows old new h g b a c same = (
  held old.trees new.trees b _ _ _ a.books c.books heads,
  (
    held old.trees new.trees b _ _ _ a.terms c.terms (one_book h g b terms_listed (λ m k. of_terms m 1 k.terms) same),
    (
      held old.trees new.trees b _ _ _ a.pledges c.pledges (of_each pledge_listed (λ m p. ((refl, refl), tt))),
      (
        held old.trees new.trees b _ _ _ a.entries c.entries (of_each entries_listed (λ m p. under_map m (number_in_book p) entry_cells p.entries)),
        (
          held old.trees new.trees b _ _ _ a.secrets c.secrets (of_each secrets_listed (λ m p. under_placed m (number_in_book p) secret_cells 1 p.secrets)),
          (
            held old.trees new.trees b _ _ _ a.bookings c.bookings (of_each booking_listed (λ m p. under_booked m (number_in_book p) p.standing.booking)),
            (
              held old.trees new.trees b _ _ _ a.totals c.totals (of_each totals_listed (λ m p. ((refl, refl), tt))),
              (
                held old.trees new.trees b _ _ _ a.extensions c.extensions
                    (of_each extensions_listed (λ m p. under_placed m (number_in_book p) extension_cells 1 p.extensions)),
                tt,
              ),
            ),
          ),
        ),
      ),
    ),
  ),
) where
  of_each : (f : ℕ → PledgeValue → List Row) → ((m : ℕ) (p : PledgeValue) → AreUnder m (number_in_book p) (f m p))
      → filter (at_book b) (of_pledges h f) ≡ filter (at_book b) (of_pledges g f)
  of_each f are = one_book h g b (λ m k. flat_map (f m) k.pledges) (λ m k. of_all m (f m) (are m) k.pledges) same

  heads : filter (at_book b) (map (λ (e : ℕ × BookValue). book_row e.0 e.1) (entries h.books)) ≡ filter (at_book b)
      (map (λ (e : ℕ × BookValue). book_row e.0 e.1) (entries g.books))
  heads = ap (filter (at_book b)) (sym (singles (λ (e : ℕ × BookValue). book_row e.0 e.1) (entries h.books))) ∙ one_book h g b (λ m k. book_row m k ∷ [])
      (λ m k. (refl, tt)) same ∙ ap (filter (at_book b)) (singles (λ (e : ℕ × BookValue). book_row e.0 e.1) (entries g.books))

pub other_rows_stay : OtherRowsStay
other_rows_stay old new h operator b stamp request a c other = same_rows old new h _ b a c (sym (other_books_stay h operator b stamp request other))

-- ---- runs

after_event : {F : Type 0} (h : Host) (operator b : ℕ) (stamp : Stamp) (mark : Mark F) → IsElsewhere b (request_in mark)
    → get (host_after_event h operator (record { stamp = stamp; mark = mark })).books b ≡ get h.books b
after_event h operator b stamp (read_as (Ok request)) other = other_books_stay h operator b stamp request other
after_event h operator b stamp (read_as (Err fault)) other = refl
after_event h operator b stamp no_memory other = refl
after_event h operator b stamp no_store other = refl

after_run : {F : Type 0} (h : Host) (operator b : ℕ) (events : List (Event F)) → AreElsewhere b events
    → get (run_host h operator events).books b ≡ get h.books b
after_run h operator b [] others = refl
after_run h operator b (event ∷ events) others =
    after_run (host_after_event h operator event) operator b events others.1 ∙ after_event h operator b event.stamp event.mark others.0

pub other_rows_stay_in_runs : {F : Type 0} → OtherRowsStayInRuns F
other_rows_stay_in_runs old new h operator b events a c others = same_rows old new h _ b a c (sym (after_run h operator b events others))
