-- What is written where a pledge is put: the rows of the changed host.
use Rattle.pawn_book.proofs.Places.{pledge_within}
use Rattle.pawn_saving.proofs.Basics.{IsPermutation-refl, map-append, part, number_in, of_one_pledge, under_booked}
use Rattle.pawn_saving.proofs.Basics.{rows_at}
use Rattle.pawn_saving.proofs.BookChanges.{books_after, other_books, rows_stay}
use Rattle.pawn_saving.proofs.Hosting.{AreSame, relisted}
use Rattle.pawn_saving.proofs.PledgeChanges.{after_put, before_put, books_stay, changed, is_changed, next, none_rest}
use Rattle.pawn_saving.proofs.PledgeChanges.{put_length, put_named, rest, rows_grown, rows_joined, rows_put, stood}
use Rattle.pawn_saving.proofs.RowsInOrder.{placed_parts}
use Rattle.pawn_saving.specs.Common.{Database, Grows, Agreement, Continues, with_change, pledge_row_count, AreSound}
use Rattle.pawn_saving.specs.Common.{PutPledge, with_rows, ListsOurs}
use Rattle.pawn_saving.specs.Counted.{IsWrittenPart, ListsHost}
use Rattle.pawn_saving.specs.Putting.{AreRelatedPut, beside, booking_under, entries_past, extensions_past, lists_past}
use Rattle.pawn_saving.specs.Putting.{row_under, secrets_past, totals_under, whole_pledge, with_related}
use Rattle.pawn_saving.specs.declared.lengths.Lengths.{Lengths}
use Rattle.pawn_tables.specs.At.{at_pledge}
use Rattle.pawn_tables.specs.Common.{get, Row, Entry, PledgeValue, Extension, Issued, BookValue, pledge_from, pledge_in}
use Rattle.pawn_tables.specs.Common.{Host, rows, Listed}
use Rattle.pawn_tables.specs.Rows.{book_row, booking_listed, entries_listed, entry_cells, extension_cells}
use Rattle.pawn_tables.specs.Rows.{extensions_listed, placed_from, pledge_listed, secret_cells, secrets_listed}
use Rattle.pawn_tables.specs.Rows.{terms_listed, totals_listed, under}
use Rattle.pawn_tables.specs.Schema.{bookings_tree, pledges_tree}
use Rattle.pawn_tables.specs.StandsFor.{AreBooksOrdered, listed_as, of_pledges}
use Rattle.std.proofs.Common.{◌≡◌, ◌⊎◌, inl, inr, ◌++◌, ◌==◌, ℕ, ◌+◌, ◌≤◌, List, [], ◌∷◌, map, drop, length, filter}
use Rattle.std.proofs.Common.{IsPermutation, Some, None, refl, sym, ap, subst, ◌∙◌, arith, if◌then◌else◌}
use Rattle.std.proofs.Math.Seq.{drop-append_seam}

module _ (h : Host) (b n : ℕ) (k : BookValue) (p : PledgeValue) (is : get h.books b ≡ Some k) where
  -- no booking of a pledge stands that doesn't
  pub none_booked : AreBooksOrdered h → stood h b n k p is ≡ None → filter (at_pledge b n) (of_pledges h booking_listed) ≡ []
  none_booked ordered none = of_one_pledge h b n booking_listed ordered (λ m q. under_booked m q.agreement.number q.standing.booking)
      ∙ ap (λ o. rows_at (pledge_in o n) (booking_listed b)) is ∙ ap (λ o. rows_at o (booking_listed b)) none

  -- a new pledge
  module _ (counted : ℕ) (none : stood h b n k p is ≡ None) where
    joined_same : p.agreement.number ≡ n → AreSame (listed_as (changed h b n k p is) counted)
        (with_rows (beside (whole_pledge b p.agreement.number p) (listed_as h counted)) 0 (book_row b (next h b n k p is) ∷ other_books h b k is))
    joined_same named = record {
      books = books_after h b k is (next h b n k p is);
      terms = rows_stay h b k is (next h b n k p is) terms_listed refl;
      pledges = rows_joined h b n k p is pledge_listed none;
      entries = rows_joined h b n k p is entries_listed none;
      secrets = rows_joined h b n k p is secrets_listed none;
      bookings = rows_joined h b n k p is booking_listed none;
      meta = IsPermutation-refl _;
      totals = rows_joined h b n k p is totals_listed none;
      extensions = rows_joined h b n k p is extensions_listed none;
    }

    pub next_written : (db : Database) → counted ≡ rows h → AreSound (with_change h (PutPledge b n p)) → n ≤ 1 + length k.pledges → 1 ≤ n
        → ListsOurs db (with_rows (beside (whole_pledge b n p) (listed_as h counted)) 0 (book_row b (next h b n k p is) ∷ other_books h b k is))
        → IsWrittenPart h (with_change h (PutPledge b n p)) db (pledge_row_count p)
    next_written db same sound high low l = let g = changed h b n k p is in
        let sounds : AreSound g = subst AreSound (is_changed h b n k p is) sound in let named = put_named h b n k p is sounds high low in
        let lists = subst (λ m. ListsOurs db
        (with_rows (beside (whole_pledge b m p) (listed_as h counted)) 0 (book_row b (next h b n k p is) ∷ other_books h b k is))) (sym named) l in
        subst (λ x. IsWrittenPart h x db (pledge_row_count p)) (sym (is_changed h b n k p is)) (record {
          lists = subst (ListsHost db g) same (relisted db _ _ (joined_same named) lists);
          grown = let sums = rows_put h b n k p is in let before : part pledge_row_count (stood h b n k p is) ≡ 0 = ap (part pledge_row_count) none in
              omega (arith, sums, before);
        })

-- a pledge that follows where none stands is the next
pub next_number : (k : BookValue) (n : ℕ) (p : PledgeValue) → pledge_from 1 k.pledges n ≡ None
    → (n ≡ length k.pledges + 1) ⊎ ((old : PledgeValue) × (pledge_from 1 k.pledges n ≡ Some old) × Continues old p) → n ≡ length k.pledges + 1
next_number k n p none (inl next) = next
next_number k n p none (inr stands) = absurd (let e = stands.1 in let f = sym none ∙ e in cc)

-- one that follows where a pledge stands continues it
pub continues_it : (k : BookValue) (n : ℕ) (old p : PledgeValue) → pledge_from 1 k.pledges n ≡ Some old
    → (n ≡ length k.pledges + 1) ⊎ ((was : PledgeValue) × (pledge_from 1 k.pledges n ≡ Some was) × Continues was p) → Continues old p
continues_it k n old p some (inl next) = let within = pledge_within 1 k.pledges n old some in let high = within.1 in absurd (omega (arith, next, high))
continues_it k n old p some (inr stands) = let same : stands.0 ≡ old = (let e = sym stands.1 ∙ some in cc) in subst (λ o. Continues o p) same stands.2

-- ---- lists that grew

whole_of : {A : Type 0} (xs old more : List A) → xs ≡ old ++ more → xs ≡ old ++ drop (length old) xs
whole_of xs old more is = is ∙ ap (λ l. old ++ l) (sym (ap (drop (length old)) is ∙ drop-append_seam old more))

module _ (b : ℕ) (old p : PledgeValue) (l : Lengths) (same : p.agreement.number ≡ old.agreement.number) (lists : Grows old p) where
  entries_are : l.entries ≡ length old.entries → entries_listed b p ≡ entries_listed b old ++ entries_past l.entries b p.agreement.number p
  entries_are is = ap (map (λ e. under b p.agreement.number (entry_cells e))) (whole_of p.entries old.entries lists.entries.0 lists.entries.1)
      ∙ map-append (λ (e : Entry). under b p.agreement.number (entry_cells e)) old.entries (drop (length old.entries) p.entries)
      ∙ (λ i. map (λ (e : Entry). under b (same i) (entry_cells e)) old.entries ++ entries_past (sym is i) b p.agreement.number p)

  secrets_are : l.secrets ≡ length old.secrets → secrets_listed b p ≡ secrets_listed b old ++ secrets_past l.secrets b p.agreement.number p
  secrets_are is =
      ap (placed_from (λ place i. under b p.agreement.number (secret_cells place i)) 1) (whole_of p.secrets old.secrets lists.secrets.0 lists.secrets.1)
      ∙ placed_parts (λ (place : ℕ) (i : Issued). under b p.agreement.number (secret_cells place i)) 1 (length old.secrets + 1) old.secrets
      (drop (length old.secrets) p.secrets) (omega arith)
      ∙ (λ i. placed_from (λ (place : ℕ) (x : Issued). under b (same i) (secret_cells place x)) 1 old.secrets ++ secrets_past (sym is i) b p.agreement.number p)

  extensions_are : l.extensions ≡ length old.extensions → extensions_listed b p ≡ extensions_listed b old ++ extensions_past l.extensions b p.agreement.number p
  extensions_are is = ap (placed_from (λ place e. under b p.agreement.number (extension_cells place e)) 1)
      (whole_of p.extensions old.extensions lists.extensions.0 lists.extensions.1) ∙ placed_parts (λ (place : ℕ) (e : Extension). under b p.agreement.number
      (extension_cells place e)) 1 (length old.extensions + 1) old.extensions (drop (length old.extensions) p.extensions) (omega arith) ∙ (λ i. placed_from
      (λ (place : ℕ) (x : Extension). under b (same i) (extension_cells place x)) 1 old.extensions ++ extensions_past (sym is i) b p.agreement.number p)

-- ---- a pledge that stands

module _ (h : Host) (b n : ℕ) (k : BookValue) (old p : PledgeValue) (is : get h.books b ≡ Some k) (some : stood h b n k p is ≡ Some old) where
  -- the rows of the others, of which each pledge has one at most
  abbrev pub others : Listed
  others t = if t == pledges_tree then rest h b n k p is pledge_listed else if t == bookings_tree then rest h b n k p is booking_listed
      else rest h b n k p is totals_listed

  beside_old : (f : ℕ → PledgeValue → List Row) → IsPermutation (of_pledges h f) (f b old ++ rest h b n k p is f)
  beside_old f = subst (λ o. IsPermutation (of_pledges h f) (rows_at o (f b) ++ rest h b n k p is f)) some (before_put h b n k p is f)

  module _ (counted : ℕ) (ordered : AreBooksOrdered h) where
    old_named : old.agreement.number ≡ n
    old_named = number_in h b n old ordered (ap (λ o. pledge_in o n) is ∙ some)

    pub old_related : AreRelatedPut b n old (listed_as h counted) others
    old_related = record {
      row = record {
        split =
            subst (λ m. IsPermutation (of_pledges h pledge_listed) (row_under b m old ∷ rest h b n k p is pledge_listed)) old_named (beside_old pledge_listed);
        none = none_rest h b n k p is pledge_listed ordered (λ m q. ((refl, refl), tt));
      };
      totals = record {
        split = subst (λ m. IsPermutation (of_pledges h totals_listed) (totals_under b m old ∷ rest h b n k p is totals_listed)) old_named
            (beside_old totals_listed);
        none = none_rest h b n k p is totals_listed ordered (λ m q. ((refl, refl), tt));
      };
      bookings = subst (λ m. IsPermutation (of_pledges h booking_listed) (booking_under b m old ++ rest h b n k p is booking_listed)) old_named
          (beside_old booking_listed);
      no_booking = none_rest h b n k p is booking_listed ordered (λ m q. under_booked m q.agreement.number q.standing.booking);
    }

    module _ (l : Lengths) (it : Continues old p) (entries_so : l.entries ≡ length old.entries) (secrets_so : l.secrets ≡ length old.secrets)
        (extensions_so : l.extensions ≡ length old.extensions) where
      as_before : p.agreement.number ≡ old.agreement.number
      as_before = ap (λ (a : Agreement). a.number) it.agreement

      as_many : length (next h b n k p is).pledges ≡ length k.pledges
      as_many = let sum = put_length n p 1 k.pledges in let one : part (λ (q : PledgeValue). 1) (pledge_from 1 k.pledges n) ≡ 1 =
          ap (part (λ (q : PledgeValue). 1)) some in omega (arith, sum, one)

      renewed_same : AreSame (listed_as (changed h b n k p is) counted)
          (beside (lists_past l b p.agreement.number p) (with_related b p.agreement.number p others (listed_as h counted)))
      renewed_same = record {
        books = books_stay h b n k p is as_many;
        terms = rows_stay h b k is (next h b n k p is) terms_listed refl;
        pledges = after_put h b n k p is pledge_listed;
        entries = rows_grown h b n k p is entries_listed old _ some (entries_are b old p l as_before it.lists entries_so);
        secrets = rows_grown h b n k p is secrets_listed old _ some (secrets_are b old p l as_before it.lists secrets_so);
        bookings = after_put h b n k p is booking_listed;
        meta = IsPermutation-refl _;
        totals = after_put h b n k p is totals_listed;
        extensions = rows_grown h b n k p is extensions_listed old _ some (extensions_are b old p l as_before it.lists extensions_so);
      }

      pub renewed_written : (db : Database) (added : ℕ) → counted ≡ rows h → pledge_row_count p ≡ pledge_row_count old + added → ListsOurs db
          (beside (lists_past l b n p) (with_related b n p others (listed_as h counted))) → IsWrittenPart h (with_change h (PutPledge b n p)) db added
      renewed_written db added same more lists = let g = changed h b n k p is in
          let named : p.agreement.number ≡ n = as_before ∙ old_named in
          let own = subst (λ m. ListsOurs db (beside (lists_past l b m p) (with_related b m p others (listed_as h counted)))) (sym named) lists in
          subst (λ x. IsWrittenPart h x db added) (sym (is_changed h b n k p is)) (record {
            lists = subst (ListsHost db g) same (relisted db _ _ renewed_same own);
            grown = let sums = rows_put h b n k p is in
                let before : part pledge_row_count (stood h b n k p is) ≡ pledge_row_count old = ap (part pledge_row_count) some in
                omega (arith, sums, before, more);
          })
