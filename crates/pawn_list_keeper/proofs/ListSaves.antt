-- A list of books after a change.
use Rattle.pawn_base.proofs.ListLemmas.{no_elements}
use Rattle.pawn_book.proofs.Places.{pledge_within}
use Rattle.pawn_book.proofs.RowSums.{part, rows-with_book}
use Rattle.pawn_book.proofs.Sounds.{absurd_none, get-with_book, some_is}
use Rattle.pawn_book.specs.Sound.{AreSound, IsSoundBook}
use Rattle.pawn_book.specs.declared.book_rows.BookRows.{BookRows}
use Rattle.pawn_list_keeper.proofs.ListReads.{book_at-set, get-book_at, kept_is, kept_number, pushed}
use Rattle.pawn_list_keeper.specs.Books.{Books}
use Rattle.pawn_list_keeper.specs.Common.{AddTerms, BookValue, CanSave, Change, Continues, Follows, Full, Host}
use Rattle.pawn_list_keeper.specs.Common.{ImportBook, MakeBook, NewBook, PledgeValue, PutPledge, Rates, book_number}
use Rattle.pawn_list_keeper.specs.Common.{book_row_count, changed_book, filled_book, made_book, most_rows, nat_cmp}
use Rattle.pawn_list_keeper.specs.Common.{pledge_from, pledge_in, pledge_row_count, put_from, rows, with_book, with_change}
use Rattle.pawn_list_keeper.specs.Listed.{Fits, HasChange, IsListed, IsPlace, SavesListed, added_rows, book_at}
use Rattle.pawn_list_keeper.specs.Listed.{listed_book, host_of, replaced_rows, rows_now}
use Rattle.pawn_list_keeper.specs.declared.kept.Kept.{Kept}
use Rattle.std.proofs.Common.{◌≡◌, ℕ, ◌+◌, ◌<◌, ◌≤◌, List, [], ◌∷◌, ◌++◌, length, map, set, get_or, Some, None, Ok, Err}
use Rattle.std.proofs.Common.{refl, ◌∙◌, ap, sym, subst, arith, inl, inr, length-append, if◌then◌else◌, true, false}
use Rattle.std.proofs.Common.{◌==◌, ◌⊎◌, sum_by}
use Rattle.std.proofs.lemmas.Bool.Decides.{nat_tests}
use Rattle.std.proofs.lemmas.Cmp.{nat_cmp_total}
use Rattle.std.proofs.lemmas.List.{map-set}
use Rattle.std.proofs.lemmas.List.Sums.{sum_by-cons}
use Rattle.std.specs.FinMap.{empty, entries, from_entries, get, get-empty, len-empty, len-entries}
use Rattle.std.specs.FinMap.{nat_cmp-IsAntisymmetric, same_map}

-- no books have no rows
no_rows : (limit : ℕ) → rows (record { books = empty {X = BookValue} {R = nat_cmp}; limit = limit }) ≡ 0
no_rows limit =
    let none : entries (empty {X = BookValue} {R = nat_cmp}) ≡ [] =
    no_elements _ (sym (len-entries (empty {X = BookValue} {R = nat_cmp})) ∙ len-empty nat_cmp BookValue) in
    ap (λ es. sum_by book_row_count (map (λ e. e.1) es)) none

-- an empty list is kept
pub kept_empty : (limit : ℕ) → limit ≤ most_rows → IsListed (record { books = []; limit = limit }) 0
kept_empty limit few =
    let none = no_rows limit in
    record {
      sound = record { books = λ b book is. absurd_none (sym (get-empty nat_cmp b) ∙ is); fits = omega (arith, none) };
      counted = sym none;
      limit = few;
    }

-- a list that stands for the changed host is kept
pub kept_changed : (k next : Books) (count : ℕ) (change : Change) → k.limit ≤ most_rows → next.limit ≡ k.limit → host_of next ≡ with_change (host_of k) change
    → AreSound (with_change (host_of k) change) → count ≡ rows (with_change (host_of k) change) → count ≤ k.limit → IsListed next count
kept_changed k next count change few same is sound counted fits =
    let all : rows (host_of next) ≡ count = ap rows is ∙ sym counted in
    record {
      sound = record { books = subst AreSound (sym is) sound; fits = omega (arith, all, fits, same) };
      counted = sym all;
      limit = omega (arith, few, same);
    }

sum_by-put : (k : ℕ) (ps : List PledgeValue) (n : ℕ) (p : PledgeValue) → k ≤ n → n ≤ k + length ps
    → sum_by pledge_row_count (put_from k ps n p) + rows_now (pledge_from k ps n) ≡ sum_by pledge_row_count ps + pledge_row_count p
sum_by-put k [] n p low high = omega (arith, sum_by-cons pledge_row_count p [])
sum_by-put k (r ∷ ps) n p low high =
    elim (n == k) as (λ v. n == k ≡ v → sum_by pledge_row_count (if v then p ∷ ps else r ∷ put_from (k + 1) ps n p)
    + rows_now (if v then Some r else pledge_from (k + 1) ps n) ≡ sum_by pledge_row_count (r ∷ ps) + pledge_row_count p) [
      | true ↦ λ e. omega (arith, sum_by-cons pledge_row_count p ps, sum_by-cons pledge_row_count r ps)
      | false ↦ λ e.
          let more : k + 1 ≤ n = grind (arith, nat_tests, e, low) in
          let less : n ≤ (k + 1) + length ps = omega (arith, high) in
          omega (arith, sum_by-put (k + 1) ps n p more less, sum_by-cons pledge_row_count r (put_from (k + 1) ps n p), sum_by-cons pledge_row_count r ps)
    ] refl

-- where a pledge that follows is put
follows_at : (at : BookValue) (n : ℕ) (p : PledgeValue)
    → (n ≡ length at.pledges + 1) ⊎ ((old : PledgeValue) × (pledge_from 1 at.pledges n ≡ Some old) × Continues old p) → (1 ≤ n) × (n ≤ 1 + length at.pledges)
follows_at at n p (inl next) = (omega (arith, next), omega (arith, next))
follows_at at n p (inr present) = let within = pledge_within 1 at.pledges n present.0 present.1 in (within.0, omega (arith, within.1))

-- the book of a change that follows
changes_to : (h : Host) (change : Change) → Follows h change → (book : BookValue) × (changed_book (get h.books (book_number change)) change ≡ Some book)
changes_to h (MakeBook b new) follows = (made_book new, refl)
changes_to h (AddTerms b version terms) follows =
    (record follows.0 { terms = follows.0.terms ++ terms ∷ [] }, ap (λ o. changed_book o (AddTerms b version terms)) follows.1)
changes_to h (PutPledge b n p) follows =
    (record follows.0 { pledges = put_from 1 follows.0.pledges n p }, ap (λ o. changed_book o (PutPledge b n p)) follows.1)
changes_to h (ImportBook b key rows) follows = (filled_book follows.0 key rows, ap (λ o. changed_book o (ImportBook b key rows)) follows.1)

-- a change's rows, in place of those that it replaces
change_rows : (k : Books) (change : Change) → Follows (host_of k) change
    → rows (with_change (host_of k) change) + replaced_rows k.books change ≡ rows (host_of k) + added_rows change
change_rows k (MakeBook b new) none =
    let sums = rows-with_book (host_of k) b (made_book new) in
    let before : part book_row_count (get (host_of k).books b) ≡ 0 = ap (part book_row_count) none in
    omega (arith, sums, before)
change_rows k (AddTerms b version terms) follows =
    let at : BookValue = follows.0 in
    let book : BookValue = record at { terms = at.terms ++ terms ∷ [] } in
    let all : rows (with_change (host_of k) (AddTerms b version terms)) ≡ rows (with_book (host_of k) b (Some book)) =
    ap (λ o. rows (with_book (host_of k) b (changed_book o (AddTerms b version terms)))) follows.1 in
    let sums = rows-with_book (host_of k) b book in
    let before : part book_row_count (get (host_of k).books b) ≡ book_row_count at = ap (part book_row_count) follows.1 in
    let longer = length-append at.terms (terms ∷ []) in
    omega (arith, all, sums, before, longer)
change_rows k (PutPledge b n p) follows =
    let at : BookValue = follows.0 in
    let book : BookValue = record at { pledges = put_from 1 at.pledges n p } in
    let all : rows (with_change (host_of k) (PutPledge b n p)) ≡ rows (with_book (host_of k) b (Some book)) =
    ap (λ o. rows (with_book (host_of k) b (changed_book o (PutPledge b n p)))) follows.1 in
    let sums = rows-with_book (host_of k) b book in
    let before : part book_row_count (get (host_of k).books b) ≡ book_row_count at = ap (part book_row_count) follows.1 in
    let place = follows_at at n p follows.2 in
    let pledges = sum_by-put 1 at.pledges n p place.0 place.1 in
    let stood : rows_now (pledge_in (book_at k.books b) n) ≡ rows_now (pledge_from 1 at.pledges n) =
    ap (λ o. rows_now (pledge_in o n)) (sym (get-book_at k.books b) ∙ follows.1) in
    omega (arith, all, sums, before, pledges, stood)
change_rows k (ImportBook b key imported) follows =
    let at : BookValue = follows.0 in
    let book : BookValue = filled_book at key imported in
    let all : rows (with_change (host_of k) (ImportBook b key imported)) ≡ rows (with_book (host_of k) b (Some book)) =
    ap (λ o. rows (with_book (host_of k) b (changed_book o (ImportBook b key imported)))) follows.1 in
    let sums = rows-with_book (host_of k) b book in
    let before : part book_row_count (get (host_of k).books b) ≡ book_row_count at = ap (part book_row_count) follows.1 in
    let no_terms : length at.terms ≡ 0 = ap length follows.2.terms in
    let no_pledges : sum_by pledge_row_count at.pledges ≡ 0 = ap (sum_by pledge_row_count) follows.2.pledges in
    omega (arith, all, sums, before, no_terms, no_pledges)

-- books with a change are those of the host with it
change_host : (k next : Books) (change : Change) (book : BookValue) → changed_book (get (host_of k).books (book_number change)) change ≡ Some book
    → HasChange k.books change next.books → next.limit ≡ k.limit → host_of next ≡ with_change (host_of k) change
change_host k next change book made has limit =
    let b = book_number change in
    let here : changed_book (book_at k.books b) change ≡ Some book = ap (λ o. changed_book o change) (sym (get-book_at k.books b)) ∙ made in
    ap (λ n. record { books = from_entries next.books; limit = n }) limit
    ∙ ap (λ m. record { books = m; limit = k.limit }) (same_map {R = nat_cmp} nat_cmp_total nat_cmp-IsAntisymmetric _ _ (λ q.
    get-book_at next.books q ∙ has q ∙ ap (λ o. if q == b then o else book_at k.books q) here ∙ ap (λ o. if q == b then Some book else o)
    (sym (get-book_at k.books q)) ∙ sym (get-with_book (host_of k) b book q))) ∙ sym (ap (with_book (host_of k) b) made)

-- a change that was made
pub change_saved : (k old next : Books) (count after : ℕ) (change : Change) → IsListed k count → k ≡ old → CanSave (host_of old) change
    → HasChange k.books change next.books → next.limit ≡ k.limit
    → after + replaced_rows k.books change ≡ count + added_rows change → after ≤ k.limit → IsListed next after × SavesListed old change (Ok tt) next
change_saved k old next count after change kept is can has limit sums room =
    let P : Books → Type 0 = λ old. CanSave (host_of old) change → IsListed next after × SavesListed old change (Ok tt) next in
    subst P is (λ can.
    let made = changes_to (host_of k) change can.follows in
    let same = change_host k next change made.0 made.1 has limit in
    let more = change_rows k change can.follows in
    let counted = kept.counted in
    let after_is : after ≡ rows (with_change (host_of k) change) = omega (arith, more, counted, sums) in
    (kept_changed k next after change kept.limit limit same can.sound after_is room, (same, omega (arith, after_is, room)))) can

-- .. and one for which there is no room
pub change_full : (k old : Books) (count after : ℕ) (change : Change) → IsListed k count → k ≡ old → CanSave (host_of old) change
    → after + replaced_rows k.books change ≡ count + added_rows change → k.limit < after → SavesListed old change (Err Full) old
change_full k old count after change kept is can sums over =
    let P : Books → Type 0 = λ old. CanSave (host_of old) change → SavesListed old change (Err Full) old in
    subst P is (λ can.
    let more = change_rows k change can.follows in
    let counted = kept.counted in
    (refl, omega (arith, more, counted, sums, over))) can

-- the rows that a change replaces are counted
pub change_counted : (k old : Books) (count : ℕ) (change : Change) → IsListed k count → k ≡ old → CanSave (host_of old) change
    → replaced_rows k.books change ≤ count + added_rows change
change_counted k old count change kept is can =
    let P : Books → Type 0 = λ old. CanSave (host_of old) change → replaced_rows k.books change ≤ count + added_rows change in
    subst P is (λ can. let more = change_rows k change can.follows in let counted = kept.counted in omega (arith, more, counted)) can

-- the book of a change is sound where the changed host is
sound_after : (h : Host) (change : Change) (book : BookValue) → changed_book (get h.books (book_number change)) change ≡ Some book
    → AreSound (with_change h change) → IsSoundBook book
sound_after h change book made sound =
    let b = book_number change in
    let here : (b == b) ≡ true = grind (arith, nat_tests) in
    (sound b book (ap (λ o. get (with_book h b o).books b) made ∙ get-with_book h b book b ∙ ap (λ v. if v then Some book else get h.books b) here)).1

-- the books have the place of a change that may be saved
pub change_fits : (k old : Books) (change : Change) → k ≡ old → CanSave (host_of old) change → Fits k.books change
change_fits k old change is can =
    from change (subst (λ (o : Books). Follows (host_of o) change) (sym is) can.follows)
    (subst (λ (o : Books). AreSound (with_change (host_of o) change)) (sym is) can.sound)
  where
    from : (change : Change) → Follows (host_of k) change → AreSound (with_change (host_of k) change) → Fits k.books change
    from (MakeBook b new) none sound = sym (get-book_at k.books b) ∙ none
    from (AddTerms b version terms) follows sound = (follows.0, sym (get-book_at k.books b) ∙ follows.1)
    from (PutPledge b n p) follows sound = (follows.0, sym (get-book_at k.books b) ∙ follows.1, (follows_at follows.0 n p follows.2).1)
    from (ImportBook b key imported) follows sound = (
      follows.0,
      sym (get-book_at k.books b) ∙ follows.1,
      (sound_after (host_of k) (ImportBook b key imported) (filled_book follows.0 key imported)
          (ap (λ o. changed_book o (ImportBook b key imported)) follows.1) sound).rows,
    )

-- a new book, pushed
pub push_changes : (es next : List (ℕ × BookValue)) (b : ℕ) (new : NewBook) → book_at es b ≡ None → next ≡ es ++ (b, made_book new) ∷ []
    → HasChange es (MakeBook b new) next
push_changes es next b new none list q =
    let limitless : List (ℕ × BookValue) → Books = λ es. record { books = es; limit = 0 } in
    ap (λ es. book_at es q) list ∙ sym (get-book_at (es ++ (b, made_book new) ∷ []) q) ∙ ap (λ m. get m q) (pushed es b (made_book new) none)
    ∙ get-with_book (host_of (limitless es)) b (made_book new) q ∙ ap (λ o. if q == b then Some (made_book new) else o) (get-book_at es q)

-- a book, set at its place
pub set_changes : (qs ks : List Kept) (i : ℕ) (kept next : Kept) (change : Change) → qs ≡ ks → i < length qs
    → IsPlace (map listed_book qs) (book_number change) i → kept ≡ get_or ks i kept → next.number ≡ kept.number
    → Some (listed_book next).1 ≡ changed_book (Some (listed_book kept).1) change → HasChange (map listed_book ks) change (map listed_book (set ks i next))
set_changes qs ks i kept next change same less place is named to q =
    let b = book_number change in
    let within : i < length ks = subst (λ (xs : List Kept). i < length xs) same less in
    let here : IsPlace (map listed_book ks) b i = subst (λ (xs : List Kept). IsPlace (map listed_book xs) b i) same place in
    ap (λ es. book_at es q) (map-set listed_book ks i next ∙ ap (λ (n : ℕ). set (map listed_book ks) i (n, (listed_book next).1))
    (named ∙ kept_number ks b i kept within is here)) ∙ book_at-set (map listed_book ks) b i (listed_book next).1 q here
    ∙ ap (λ o. if q == b then o else book_at (map listed_book ks) q) (to ∙ ap (λ o. changed_book o change) (sym (kept_is ks b i kept within is here)))

-- the book of a number, at its place
pub kept_at_place : (qs ks : List Kept) (b i : ℕ) (kept : Kept) (at : BookValue) → qs ≡ ks → i < length qs → IsPlace (map listed_book qs) b i
    → kept ≡ get_or ks i kept → book_at (map listed_book ks) b ≡ Some at → at ≡ (listed_book kept).1
kept_at_place qs ks b i kept at same less place is stands =
    let within : i < length ks = subst (λ (xs : List Kept). i < length xs) same less in
    let here : IsPlace (map listed_book ks) b i = subst (λ (xs : List Kept). IsPlace (map listed_book xs) b i) same place in
    some_is at (listed_book kept).1 (sym stands ∙ kept_is ks b i kept within is here)

-- a book with the rows of an import is the filled one
pub filled_is : (at : BookValue) (key : ℕ) (rows : BookRows) (ts : List Rates) (ps : List PledgeValue) (count : ℕ) → ts ≡ rows.terms → ps ≡ rows.pledges
    → count ≡ length ps
    → (let book : BookValue = record at { terms = ts; pledges = ps; imported = Some (record { key = key; pledges = count }) } in book ≡ filled_book at key rows)
filled_is at key rows ts ps count terms pledges counted =
    ap (λ (n : ℕ). let book : BookValue = record at { terms = ts; pledges = ps; imported = Some (record { key = key; pledges = n }) } in book) counted
    ∙ ap (λ (ts : List Rates). filled_book at key (record { terms = ts; pledges = ps })) terms
    ∙ ap (λ (ps : List PledgeValue). filled_book at key (record { terms = rows.terms; pledges = ps })) pledges
