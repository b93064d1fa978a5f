use Rattle.pawn_book.specs.HostStep.{book_row_count}
use Rattle.pawn_debt.specs.Due.{due_after}
use Rattle.pawn_tables.proofs.Basics.{nil_from_length}
use Rattle.pawn_tables.specs.Common.{empty, entries, nat_cmp, Row, PledgeValue, BookValue}
use Rattle.pawn_tables.specs.Meta.{meta_rows}
use Rattle.pawn_tables.specs.Rows.{book_row, terms_listed, pledge_listed, entries_listed, secrets_listed}
use Rattle.pawn_tables.specs.Rows.{booking_listed, totals_listed, extensions_listed}
use Rattle.pawn_tables.specs.StandsFor.{of_books, of_pledges}
use Rattle.pawn_tables.specs.WorkedTables.{stored_book, host_of_stored_book}
use Rattle.pawn_terms.specs.Calendar.{days_of_years, days_of_months, civil_after}
use Rattle.std.proofs.Common.{◌≡◌, ℕ, List, [], ◌∷◌, map, flat_map, sum_by, refl, sym, ap, ◌∙◌, arith}
use Rattle.std.proofs.lemmas.Cmp.{nat_cmp_total}
use Rattle.std.specs.FinMap.{entries-insert, put, len-empty, len-entries}
use Rattle.pawn_tables.proofs.worked.worked_tables.Goals as goal

no_entries : entries (empty {X = BookValue} {R = nat_cmp}) ≡ []
no_entries = nil_from_length _ (sym (len-entries (empty {X = BookValue} {R = nat_cmp})) ∙ len-empty nat_cmp BookValue)

-- the only book of the host
only : entries host_of_stored_book.books ≡ (7, stored_book) ∷ []
only = entries-insert nat_cmp_total empty 7 stored_book ∙ ap (put nat_cmp 7 stored_book) no_entries

-- what is listed of it
of_book : (f : ℕ → BookValue → List Row) → of_books host_of_stored_book f ≡ flat_map (λ (e : ℕ × BookValue). f e.0 e.1) ((7, stored_book) ∷ [])
of_book f = ap (λ es. flat_map (λ (e : ℕ × BookValue). f e.0 e.1) es) only

of_ring : (f : ℕ → PledgeValue → List Row)
    → of_pledges host_of_stored_book f ≡ flat_map (λ (e : ℕ × BookValue). flat_map (f e.0) e.1.pledges) ((7, stored_book) ∷ [])
of_ring f = of_book (λ b k. flat_map (f b) k.pledges)

pub returns : goal.returns
unfolding days_of_years days_of_months civil_after due_after
returns c = record {
  tables = record {
    books = ap (λ es. map (λ (e : ℕ × BookValue). book_row e.0 e.1) es) only;
    terms = of_book terms_listed;
    pledges = of_ring pledge_listed;
    entries_are = of_ring entries_listed;
    secrets = of_ring secrets_listed;
    bookings = of_ring booking_listed;
    extensions = of_ring extensions_listed;
    totals = of_ring totals_listed;
    notes = ap (λ es. meta_rows (sum_by book_row_count (map (λ (e : ℕ × BookValue). e.1) es)) 1000) only;
    key = refl;
    no_entry = refl;
    no_booking = refl;
    no_extension = refl;
    gap = ((omega arith, (omega arith, tt)), λ numbered. let two = numbered.1.0 in absurd (omega (arith, two)));
    over_gap = record { few = omega arith; goes_on = refl; is_last = λ short. refl };
    full_page = refl;
    last_page = refl;
    redeemed = (refl, refl, refl);
  };
}
