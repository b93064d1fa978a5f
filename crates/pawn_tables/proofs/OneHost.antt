-- Tables stand for one host at most.
use Rattle.pawn_book.proofs.SoundLists.{some_is}
use Rattle.pawn_tables.proofs.Basics.{nat_tests, IsPermutation-map, IsPermutation-filter}
use Rattle.pawn_tables.proofs.BookReads.{one_book}
use Rattle.pawn_tables.proofs.Lent.{debts_of}
use Rattle.pawn_tables.proofs.ListsOfRows.{mapped, each_any}
use Rattle.pawn_tables.proofs.PledgeReads.{ListsRows, booking_told, bookings_list, entries_list, entries_told}
use Rattle.pawn_tables.proofs.PledgeReads.{entries_up, extensions_list, extensions_told, extensions_up, few_of, four}
use Rattle.pawn_tables.proofs.PledgeReads.{fourteen, number_in, one_listed, one_told, one_version, pledges_list}
use Rattle.pawn_tables.proofs.PledgeReads.{secrets_list, secrets_told, secrets_up, three, under_in}
use Rattle.pawn_tables.proofs.RowsUnderKey.{of_one_pledge, rows_at}
use Rattle.pawn_tables.proofs.SoundReads.{words_in}
use Rattle.pawn_tables.specs.At.{at_book, at_pledge, is_at}
use Rattle.pawn_tables.specs.Common.{nat_cmp_total, get, nat_cmp-IsAntisymmetric, same_map, list_all, binary, Row}
use Rattle.pawn_tables.specs.Common.{column, value_cmp, State, Table, Trees, Text, Rates, PledgeValue, BookValue}
use Rattle.pawn_tables.specs.Common.{pledge_from, pledge_in, Host, rows, WholeIsSound, entries_of, extensions_of}
use Rattle.pawn_tables.specs.Common.{secrets_of, terms_of, terms_at, IsSound, IsWord}
use Rattle.pawn_tables.specs.Keeps.{keeping_by}
use Rattle.pawn_tables.specs.Meta.{meta_row, meta_rows}
use Rattle.pawn_tables.specs.PledgeRows.{booking_of}
use Rattle.pawn_tables.specs.Rows.{at_most_one, booking_cells, booking_listed, entry_cells, extension_cells, head_cells}
use Rattle.pawn_tables.specs.Rows.{pledge_cells, pledge_listed, secret_cells, terms_cells, under}
use Rattle.pawn_tables.specs.Schema.{books_tree, meta_tree, terms_tree}
use Rattle.pawn_tables.specs.StandsFor.{HoldHost, StandsFor, of_pledges}
use Rattle.sqlite.proofs.Callers.{one_permutation}
use Rattle.sqlite.specs.Effect.{Database}
use Rattle.sqlite_catalog.proofs.ReadLemmas.{lists_once}
use Rattle.sqlite_trees.specs.Objects.{catalog_tree}
use Rattle.std.proofs.Common.{◌≡◌, ◌==◌, ℕ, suc, ◌+◌, ◌≤◌, List, [], ◌∷◌, map, filter, codes, Bool, true, false, Option}
use Rattle.std.proofs.Common.{Some, None, refl, sym, ap, subst, ◌∙◌, arith, IsPermutation, slice_get, IfSome}
use Rattle.std.proofs.Common.{if◌then◌else◌}
use Rattle.pawn_tables.proofs.SameRows as SameRows

-- ---- what stands of a pledge, by the rows of two hosts

module _ (db : Database) (h g : Host) (a : StandsFor db h) (c : StandsFor db g) (b n : ℕ) where
  abbrev mine : Option PledgeValue
  mine = pledge_in (get h.books b) n

  abbrev other : Option PledgeValue
  other = pledge_in (get g.books b) n

  -- the rows of one pledge
  one_pledge : (t : Table) (f : ℕ → PledgeValue → List Row) → ListsRows db h t f → ListsRows db g t f → IsPermutation (rows_at mine (f b)) (rows_at other (f b))
  one_pledge t f x y =
      subst (λ xs. IsPermutation xs (rows_at other (f b))) (of_one_pledge h b n f x.ordered x.under') (subst (IsPermutation (filter (at_pledge b n) (of_pledges
      h f))) (of_one_pledge g b n f y.ordered y.under') (IsPermutation-filter (at_pledge b n) _ _ (SameRows.held_twice db.trees t.tree t _ _ x.holds y.holds)))

  -- a row of each at most
  single : {A : Type 0} (f : ℕ → PledgeValue → List Row) (cells : Row → Row) (told : A → Row) (part : Option PledgeValue → Option A)
      → ((o : Option PledgeValue) → map cells (rows_at o (f b)) ≡ at_most_one told (part o))
      → IsPermutation (rows_at mine (f b)) (rows_at other (f b)) → at_most_one told (part mine) ≡ at_most_one told (part other)
  single f cells told part shows same =
      sym (one_listed _ _ (few_of told (part mine)) (subst (λ xs. IsPermutation xs (at_most_one told (part other))) (shows mine)
      (subst (IsPermutation (map cells (rows_at mine (f b)))) (shows other) (IsPermutation-map cells _ _ same))))

  entries_same : entries_of mine ≡ entries_of other
  entries_same =
      let rows = SameRows.same_rising (λ v. column v 2) _ _ (entries_up h b n a.ordered) (entries_up g b n c.ordered)
      (one_pledge _ _ (entries_list _ h (debts_of _ h a)) (entries_list _ g (debts_of _ g c))) in
      let told = sym (entries_told b mine) ∙ ap (map four) rows ∙ entries_told b other in
      SameRows.same_placed (λ place e. entry_cells e) (λ e. Unit {0}) (λ m x y s t e. SameRows.same_entry x y e) 1 _ _ (each_any _) (each_any _)
      (sym (mapped entry_cells 1 _) ∙ told ∙ mapped entry_cells 1 _)

  secrets_same : secrets_of mine ≡ secrets_of other
  secrets_same =
      let rows =
      SameRows.same_rising (λ v. column v 2) _ _ (secrets_up b mine) (secrets_up b other) (one_pledge _ _ (secrets_list _ h a) (secrets_list _ g c)) in
      SameRows.same_placed secret_cells (λ i. IsWord i.secret) (λ m x y. SameRows.same_issued m m x y) 1 _ _ (words_in h a.storable b n)
      (words_in g c.storable b n) (sym (secrets_told b mine) ∙ ap (map four) rows ∙ secrets_told b other)

  extensions_same : extensions_of mine ≡ extensions_of other
  extensions_same =
      let rows = SameRows.same_rising (λ v. column v 2) _ _ (extensions_up b mine) (extensions_up b other)
      (one_pledge _ _ (extensions_list _ h a) (extensions_list _ g c)) in
      SameRows.same_placed extension_cells (λ e. Unit {0}) (λ m x y s t e. SameRows.same_extension m m x y e) 1 _ _ (each_any _) (each_any _)
      (sym (extensions_told b mine) ∙ ap (map three) rows ∙ extensions_told b other)

  booking_same : booking_of mine ≡ booking_of other
  booking_same = SameRows.same_at_most booking_cells SameRows.same_booking _ _
      (single booking_listed three booking_cells booking_of (booking_told b) (one_pledge _ _ (bookings_list _ h a) (bookings_list _ g c)))

  row_same : at_most_one pledge_cells mine ≡ at_most_one pledge_cells other
  row_same = single pledge_listed fourteen pledge_cells (λ o. o) (one_told (λ m p. under m p.agreement.number (pledge_cells p)) fourteen pledge_cells b
      (λ p. refl)) (one_pledge _ _ (pledges_list _ h (debts_of _ h a)) (pledges_list _ g (debts_of _ g c)))

-- a pledge of what its rows tell, and of its number and its terms
whole : (p q : PledgeValue) → SameRows.AreAlike p q → p.agreement.number ≡ q.agreement.number → p.agreement.terms ≡ q.agreement.terms → p.entries ≡ q.entries
    → p.secrets ≡ q.secrets → p.extensions ≡ q.extensions → p.standing.booking ≡ q.standing.booking → p ≡ q
whole p q alike number' terms' entries' secrets' extensions' booking = λ i. record {
  agreement = record { number = number' i; opening = alike.opening i; taken = alike.taken i; version = alike.version i; terms = terms' i };
  entries = entries' i;
  secrets = secrets' i;
  extensions = extensions' i;
  standing = record { held = alike.held i; booking = booking i; last = alike.last i; closing = alike.closing i };
}

pledge_same : (ts us : List Rates) (n : ℕ) (o o' : Option PledgeValue) → ts ≡ us
    → ((p : PledgeValue) → o ≡ Some p → (p.agreement.number ≡ n) × (terms_at ts p.agreement.version ≡ Some p.agreement.terms)) → ((p : PledgeValue) → o'
    ≡ Some p → (p.agreement.number ≡ n) × (terms_at us p.agreement.version ≡ Some p.agreement.terms)) → at_most_one pledge_cells o ≡ at_most_one pledge_cells o'
    → entries_of o ≡ entries_of o' → secrets_of o ≡ secrets_of o' → extensions_of o ≡ extensions_of o' → booking_of o ≡ booking_of o' → o ≡ o'
pledge_same ts us n None None terms' a b row es ss xs booking = refl
pledge_same ts us n None (Some q) terms' a b row es ss xs booking = absurd (let e = row in cc)
pledge_same ts us n (Some p) None terms' a b row es ss xs booking = absurd (let e = row in cc)
pledge_same ts us n (Some p) (Some q) terms' a b row es ss xs booking = let alike = SameRows.same_row p q (let e = row in cc) in
    let mine = a p refl in let theirs = b q refl in
    let terms'' = some_is _ _ (sym mine.1 ∙ ap (λ v. terms_at ts v) alike.version ∙ ap (λ l. terms_at l q.agreement.version) terms' ∙ theirs.1) in
    ap Some (whole p q alike (mine.0 ∙ sym theirs.0) terms'' es ss xs booking)

-- ---- lists, by the element at each number

same_slices : {A : Type 0} (xs ys : List A) → ((n : ℕ) → slice_get xs n ≡ slice_get ys n) → xs ≡ ys
same_slices [] [] at = refl
same_slices [] (y ∷ ys) at = absurd (let e = at 0 in cc)
same_slices (x ∷ xs) [] at = absurd (let e = at 0 in cc)
same_slices (x ∷ xs) (y ∷ ys) at = let first = some_is x y (at 0) in let rest = same_slices xs ys (λ n. at (suc n)) in λ i. first i ∷ rest i

same_terms : (ts us : List Rates) → ((v : ℕ) → terms_at ts v ≡ terms_at us v) → ts ≡ us
same_terms ts us at = same_slices ts us (λ n. at (suc n))

same_from : (k : ℕ) (ps qs : List PledgeValue) → ((n : ℕ) → k ≤ n → pledge_from k ps n ≡ pledge_from k qs n) → ps ≡ qs
same_from k [] [] at = refl
same_from k [] (q ∷ qs) at = absurd (let here : (k == k) ≡ true = grind (arith, nat_tests) in let e : None ≡ Some q = at k (omega arith)
    ∙ ap (λ c. if c then Some q else pledge_from (k + 1) qs k) here in cc)
same_from k (p ∷ ps) [] at = absurd (let here : (k == k) ≡ true = grind (arith, nat_tests) in let e : Some p ≡ None =
    sym (ap (λ c. if c then Some p else pledge_from (k + 1) ps k) here) ∙ at k (omega arith) in cc)
same_from k (p ∷ ps) (q ∷ qs) at = let here : (k == k) ≡ true = grind (arith, nat_tests) in
    let first = some_is p q (sym (ap (λ c. if c then Some p else pledge_from (k + 1) ps k) here) ∙ at k (omega arith)
    ∙ ap (λ c. if c then Some q else pledge_from (k + 1) qs k) here) in
    let rest = same_from (k + 1) ps qs (λ n le. let no' : (n == k) ≡ false = grind (arith, nat_tests, le) in
    sym (ap (λ c. if c then Some p else pledge_from (k + 1) ps n) no') ∙ at n (omega (arith, le))
    ∙ ap (λ c. if c then Some q else pledge_from (k + 1) qs n) no') in
    λ i. first i ∷ rest i

-- ---- a book

book_of : (k l : BookValue) → head_cells k ≡ head_cells l → IsWord k.key → IsWord l.key → IfSome k.imported (λ i. IsWord i.key)
    → IfSome l.imported (λ i. IsWord i.key) → k.terms ≡ l.terms → k.pledges ≡ l.pledges → k ≡ l
book_of k l row a b c d terms' pledges' = let key = SameRows.same_word k.key l.key a b (ap (λ r. column r 0) row) in
    let name = SameRows.same_text k.name l.name (ap (λ r. column r 1) row) in
    let capacity = SameRows.same_number k.capacity l.capacity (ap (λ r. column r 2) row) in
    let imported = SameRows.same_imported k.imported l.imported c d (ap (λ r. column r 5) row) (ap (λ r. column r 6) row) in
    λ i. record { key = key i; name = name i; capacity = capacity i; terms = terms' i; pledges = pledges' i; imported = imported i }

abbrev pub is_limit : Row → Bool
is_limit v = list_all (λ (x : Bool). x) (is_at (column v 0) (Text (codes "limit")) ∷ [])

pub limit_alone : (counted limit : ℕ) → filter is_limit (meta_rows counted limit) ≡ meta_row (codes "limit") limit ∷ []
unfolding binary value_cmp lib.Ieee.is_nan lib.Ieee.lt
limit_alone counted limit = refl

module _ (db : Database) (h g : Host) (a : StandsFor db h) (c : StandsFor db g) where
  head_same : (b : ℕ) → at_most_one head_cells (get h.books b) ≡ at_most_one head_cells (get g.books b)
  head_same b = let cells : Row → Row = λ v. column v 1 ∷ column v 2 ∷ column v 3 ∷ column v 4 ∷ column v 5 ∷ column v 6 ∷ column v 7 ∷ [] in
      let same = IsPermutation-map cells _ _ (IsPermutation-filter (at_book b) _ _ (SameRows.held_twice db.trees books_tree _ _ _ a.books c.books)) in
      sym (one_listed _ _ (few_of head_cells (get h.books b)) (subst (λ xs. IsPermutation xs (at_most_one head_cells (get g.books b))) (one_book h b)
      (subst (IsPermutation (map cells (filter (at_book b) _))) (one_book g b) same)))

  version_same : (b v : ℕ) → terms_at (terms_of (get h.books b)) v ≡ terms_at (terms_of (get g.books b)) v
  version_same b v =
      let same = IsPermutation-map three _ _ (IsPermutation-filter (at_pledge b v) _ _ (SameRows.held_twice db.trees terms_tree _ _ _ a.terms c.terms)) in
      SameRows.same_at_most terms_cells SameRows.same_terms _ _
      (sym (one_listed _ _ (few_of terms_cells (terms_at (terms_of (get h.books b)) v)) (subst (λ xs. IsPermutation xs (at_most_one terms_cells
      (terms_at (terms_of (get g.books b)) v))) (one_version h b v) (subst (IsPermutation (map three (filter (at_pledge b v) _))) (one_version g b v) same))))

  pledge_at_same : (b n : ℕ) → pledge_in (get h.books b) n ≡ pledge_in (get g.books b) n
  pledge_at_same b n = pledge_same _ _ n _ _ (same_terms _ _ (version_same b)) (λ p is. (number_in h b n p a.ordered is, under_in h b n p a.ordered is))
      (λ p is. (number_in g b n p c.ordered is, under_in g b n p c.ordered is))
      (row_same db h g a c b n) (entries_same db h g a c b n) (secrets_same db h g a c b n) (extensions_same db h g a c b n) (booking_same db h g a c b n)

  book_same : (b : ℕ) → get h.books b ≡ get g.books b
  book_same b = go (get h.books b) (get g.books b) refl refl (head_same b) (same_terms _ _ (version_same b)) (λ n. pledge_at_same b n) where
    go : (o o' : Option BookValue) → get h.books b ≡ o → get g.books b ≡ o' → at_most_one head_cells o ≡ at_most_one head_cells o' → terms_of o ≡ terms_of o'
        → ((n : ℕ) → pledge_in o n ≡ pledge_in o' n) → o ≡ o'
    go None None x y row terms' at = refl
    go None (Some l) x y row terms' at = absurd (let e = row in cc)
    go (Some k) None x y row terms' at = absurd (let e = row in cc)
    go (Some k) (Some l) x y row terms' at = let s = a.storable b k x in
        let t = c.storable b l y in
        ap Some (book_of k l (let e = row in cc) s.key t.key s.imported t.imported terms' (same_from 1 k.pledges l.pledges (λ n le. at n)))

  limit_same : h.limit ≡ g.limit
  limit_same = let same = IsPermutation-filter is_limit _ _ (SameRows.held_twice db.trees meta_tree _ _ _ a.meta c.meta) in
      let one : IsPermutation (meta_row (codes "limit") h.limit ∷ []) (meta_row (codes "limit") g.limit ∷ []) =
      subst (λ xs. IsPermutation xs (meta_row (codes "limit") g.limit ∷ [])) (limit_alone (rows h) h.limit)
      (subst (IsPermutation (filter is_limit (meta_rows (rows h) h.limit))) (limit_alone (rows g) g.limit) same) in
      let row : meta_row (codes "limit") g.limit ∷ [] ≡ meta_row (codes "limit") h.limit ∷ [] = one_permutation _ _ one in
      SameRows.same_number h.limit g.limit (sym (SameRows.second_of_first g.limit h.limit (codes "limit") row))

one_of_database : (db : Database) (h g : Host) → StandsFor db h → StandsFor db g → h ≡ g
one_of_database db h g a c = let books = same_map nat_cmp_total nat_cmp-IsAntisymmetric h.books g.books (book_same db h g a c) in
    let limit = limit_same db h g a c in
    λ i. record { books = books i; limit = limit i }

-- trees list the schema of which they are
pub tables_stand_for_one_host : (trees : Trees) (h g : Host) → HoldHost trees h → HoldHost trees g → h ≡ g
tables_stand_for_one_host trees h g a c = let same : c.0 ≡ a.0 = lists_once (trees catalog_tree) c.0 a.0 c.1.sound.lists a.1.sound.lists in
    one_of_database (record { schema = a.0; trees = trees }) h g a.1 (subst (λ s. StandsFor (record { schema = s; trees = trees }) g) same c.1)

-- ---- a keeper over a connection that is whole

-- stands for a sound host, and so does whatever a crash now may leave
pub tables_whole_is_sound : {K : Type 0} (state : K → State) → WholeIsSound (keeping_by state)
tables_whole_is_sound state = record {
  stands = λ k whole. (whole.host, whole.sound, whole.keeps);
  left = λ k whole h leaves.
      let held = whole.crash leaves.trees leaves.left in
      subst IsSound (tables_stand_for_one_host _ held.0 h held.2 leaves.stands) held.1;
}
