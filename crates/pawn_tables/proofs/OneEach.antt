-- What a query shows of a table that has one row of a pledge at most.
use Rattle.one_table.proofs.Found.{shown_few}
use Rattle.pawn_tables.proofs.Basics.{and_left, overlay, Asks, cond-false, nat_tests, map-append, ascending-filter}
use Rattle.pawn_tables.proofs.Basics.{by_column, few_of_table, filter-append, flat_map_none, length-map, passes}
use Rattle.pawn_tables.proofs.Basics.{shows_of}
use Rattle.pawn_tables.proofs.Counts.{count_of, how_many, shown_count}
use Rattle.pawn_tables.proofs.RowsUnderKey.{filter-flat_map, less, of_one_book, rows_at}
use Rattle.pawn_tables.specs.Common.{Holds, Shown, State, Table, Term, Trees, columns_of, get, AllByRecursion}
use Rattle.pawn_tables.specs.Common.{cons_option, Less, Row, column, value_cmp, IsAscending, PledgeValue, BookValue}
use Rattle.pawn_tables.specs.Common.{Host, pledges_of, AreNumberedFrom}
use Rattle.pawn_tables.specs.Ours.{HasOurTables, with_indexes}
use Rattle.pawn_tables.specs.Rows.{at_most_one, number, number_in_book, under}
use Rattle.pawn_tables.specs.StandsFor.{AreBooksOrdered, of_pledges}
use Rattle.std.proofs.Common.{◌≡◌, ◌≢◌, ◌++◌, ◌==◌, ℕ, ◌+◌, ◌<◌, List, [], ◌∷◌, map, filter, filter_map, flat_map}
use Rattle.std.proofs.Common.{length, take, Bool, true, false, cond, ◌&&◌, Option, Some, None, refl, sym, ap, subst}
use Rattle.std.proofs.Common.{◌∙◌, arith}

-- what holds of a part of a pledge, if the pledge has it
abbrev pub tell_of : {X A : Type 0} → (X → Bool) → (ℕ → X → A) → ℕ → Option X → Option A
tell_of says make n None = None
tell_of says make n (Some x) = cond (says x) (Some (make n x)) None

-- the row of what a pledge has
abbrev pub row_each : {X : Type 0} → (PledgeValue → Option X) → (X → Row) → ℕ → PledgeValue → List Row
row_each has content m p = at_most_one (λ x. under m (number_in_book p) (content x)) (has p)

module _ {X A : Type 0} (b : ℕ) (has : PledgeValue → Option X) (content : X → Row) (test : Row → Bool) (keeps : ℕ → Bool) (says : X → Bool) (make : ℕ → X → A)
    (cells : Row → Row) (told : A → Row) (test_is : (m n : ℕ) (x : X) → test (under m n (content x)) ≡ ((m == b) && (keeps n && says x)))
    (shows : (m n : ℕ) (x : X) → cells (under m n (content x)) ≡ told (make n x)) where
  abbrev pub tell : PledgeValue → Option A
  tell p = tell_of says make (number_in_book p) (has p)

  abbrev pub kept : List PledgeValue → List PledgeValue
  kept ps = filter (λ (p : PledgeValue). keeps (number_in_book p)) ps

  abbrev rows_of : ℕ → PledgeValue → List Row
  rows_of = row_each has content

  none_of : (m : ℕ) (k : BookValue) → m ≢ b → filter test (flat_map (rows_of m) k.pledges) ≡ []
  none_of m k apart = filter-flat_map test (rows_of m) k.pledges ∙ flat_map_none (λ p. filter test (rows_of m p)) (λ p. go (number_in_book p) (has p)) k.pledges
    where
      go : (n : ℕ) (o : Option X) → filter test (at_most_one (λ x. under m n (content x)) o) ≡ []
      go n None = refl
      go n (Some x) = let other : (m == b) ≡ false = grind (arith, nat_tests, apart) in
          cond-false _ _ _ (test_is m n x ∙ and_left _ _ other)

  one : (n : ℕ) (o : Option X)
      → map cells (filter test (at_most_one (λ x. under b n (content x)) o)) ≡ at_most_one told (cond (keeps n) (tell_of says make n o) None)
  one n None = go (keeps n) where
    go : (c : Bool) → ◌≡◌ {A = List Row} [] (at_most_one told (cond c None None))
    go true = refl
    go false = refl
  one n (Some x) = let this : (b == b) ≡ true = grind (arith, nat_tests) in
      ap (λ c. map cells (cond c (under b n (content x) ∷ []) [])) (test_is b n x ∙ ap (λ c. c && (keeps n && says x)) this) ∙ go (keeps n) (says x) where
        go : (c d : Bool) → map cells (cond (c && d) (under b n (content x) ∷ []) []) ≡ at_most_one told (cond c (cond d (Some (make n x)) None) None)
        go true true = ap (λ r. r ∷ []) (shows b n x)
        go true false = refl
        go false d = refl

  each : (ps : List PledgeValue) → map cells (filter test (flat_map (rows_of b) ps)) ≡ map told (filter_map tell (kept ps))
  each [] = refl
  each (p ∷ ps) = ap (map cells) (filter-append test (rows_of b p) (flat_map (rows_of b) ps))
      ∙ map-append cells (filter test (rows_of b p)) (filter test (flat_map (rows_of b) ps))
      ∙ (λ i. one (number_in_book p) (has p) i ++ each ps i) ∙ joined (keeps (number_in_book p)) where
        put : (o : Option A) → at_most_one told o ++ map told (filter_map tell (kept ps)) ≡ map told (cons_option o (filter_map tell (kept ps)))
        put None = refl
        put (Some a) = refl

        joined : (c : Bool)
            → at_most_one told (cond c (tell p) None) ++ map told (filter_map tell (kept ps)) ≡ map told (filter_map tell (cond c (p ∷ kept ps) (kept ps)))
        joined true = put (tell p)
        joined false = refl

  of_book : (h : Host) → filter test (of_pledges h rows_of) ≡ rows_at (get h.books b) (λ k. filter test (flat_map (rows_of b) k.pledges))
  of_book h = of_one_book h b test (λ m k. flat_map (rows_of m) k.pledges) none_of

  -- the rows that pass give the lines of the pledges of the book
  pub shown_each : (h : Host) → map cells (filter test (of_pledges h rows_of)) ≡ map told (filter_map tell (kept (pledges_of (get h.books b))))
  shown_each h = ap (map cells) (of_book h) ∙ inside (get h.books b) where
    inside : (o : Option BookValue)
        → map cells (rows_at o (λ k. filter test (flat_map (rows_of b) k.pledges))) ≡ map told (filter_map tell (kept (pledges_of o)))
    inside None = refl
    inside (Some k) = each k.pledges

  -- the rows stand in the order of the pledges' numbers
  over : (n m : ℕ) (ps : List PledgeValue) → n < m → AreNumberedFrom m ps
      → AllByRecursion (λ r. value_cmp (number n) (column r 1) ≡ Less) (flat_map (rows_of b) ps)
  over n m [] lt numbered = tt
  over n m (p ∷ ps) lt numbered = go (over n (m + 1) ps (omega (arith, lt)) numbered.1) (has p) where
    go : AllByRecursion (λ r. value_cmp (number n) (column r 1) ≡ Less) (flat_map (rows_of b) ps) → (o : Option X) → AllByRecursion
        (λ r. value_cmp (number n) (column r 1) ≡ Less) (at_most_one (λ x. under b (number_in_book p) (content x)) o ++ flat_map (rows_of b) ps)
    go rest None = rest
    go rest (Some x) = let at = numbered.0 in (less n (number_in_book p) (omega (arith, lt, at)), rest)

  rise : (k : ℕ) (ps : List PledgeValue) → AreNumberedFrom k ps → IsAscending (λ v w. value_cmp (column v 1) (column w 1) ≡ Less) (flat_map (rows_of b) ps)
  rise k [] numbered = tt
  rise k (p ∷ ps) numbered = go (rise (k + 1) ps numbered.1) (has p) where
    go : IsAscending (λ v w. value_cmp (column v 1) (column w 1) ≡ Less) (flat_map (rows_of b) ps) → (o : Option X) → IsAscending
        (λ v w. value_cmp (column v 1) (column w 1) ≡ Less) (at_most_one (λ x. under b (number_in_book p) (content x)) o ++ flat_map (rows_of b) ps)
    go rest None = rest
    go rest (Some x) = let at = numbered.0 in (over (number_in_book p) (k + 1) ps (omega (arith, at)) numbered.1, rest)

  pub rise_each : (h : Host) → AreBooksOrdered h → IsAscending (λ v w. value_cmp (column v 1) (column w 1) ≡ Less) (filter test (of_pledges h rows_of))
  rise_each h ordered = subst (IsAscending (λ v w. value_cmp (column v 1) (column w 1) ≡ Less)) (sym (of_book h)) (inside (get h.books b) refl) where
    inside : (o : Option BookValue) → get h.books b ≡ o
        → IsAscending (λ v w. value_cmp (column v 1) (column w 1) ≡ Less) (rows_at o (λ k. filter test (flat_map (rows_of b) k.pledges)))
    inside None is = tt
    inside (Some k) is = ascending-filter (λ v w. value_cmp (column v 1) (column w 1) ≡ Less) test _ (rise 1 k.pledges (ordered b k is).pledges)

  -- what a query of them shows
  module _ (old new : State) (ours : HasOurTables old.now.schema) (h : Host) (t : Table) (holds : Holds old.now.trees t.tree t (of_pledges h rows_of))
      (is_tree : (trees : Trees) → overlay trees [] t.tree ≡ trees t.tree) (tests : List Term) (params : Row)
      (passes_is : (r : Row) → passes tests params r ≡ test (columns_of t r)) (sql : List ℕ) (names : List (List ℕ)) (rows : List Row) where
    pub counted_each : Asks (with_indexes ours.more) sql (how_many t.tree tests) names → Shown sql params old new rows
        → rows ≡ count_of (length (filter_map tell (kept (pledges_of (get h.books b))))) ∷ []
    counted_each asks shown =
        shown_count (with_indexes ours.more) t.tree is_tree t tests params test passes_is sql names asks old new (of_pledges h rows_of) rows ours.is holds shown
        ∙ ap (λ n. count_of n ∷ []) (sym (length-map _ cells) ∙ ap length (shown_each h) ∙ length-map _ _)

    -- so many of the first
    pub first_each : (most : ℕ) (shows : List Term) → ((r : Row) → shows_of shows params r ≡ cells (columns_of t r)) → ((r : Row) → column r 2 ≡ column
        (columns_of t r) 1) → AreBooksOrdered h → Asks (with_indexes ours.more) sql (few_of_table most t.tree tests shows (by_column 2)) names
        → Shown sql params old new rows → rows ≡ take most (map told (filter_map tell (kept (pledges_of (get h.books b)))))
    first_each most shows shows_is second ordered asks shown =
        shown_few (with_indexes ours.more) t.tree is_tree t tests shows params test cells passes_is shows_is 2 (λ v. column v 1) second most sql names asks old
        new (of_pledges h rows_of) rows ours.is holds (rise_each h ordered) shown ∙ ap (take most) (shown_each h)
