-- UPDATE of one row, where a value of it is to differ: a row that has the values stays unwritten.
use Rattle.pawn_saving.proofs.Basics.{nil_from_length, truth_of, set_one, updated_part, IsPlace, same_value, went}
use Rattle.pawn_saving.proofs.Basics.{shows_of, at_place, carried, plainly}
use Rattle.pawn_saving.specs.Common.{Enforced, Is, Or, Not, cast_row, Update, Does, Tally, Applies, edit_of, Database}
use Rattle.pawn_saving.specs.Common.{overlay, Given, rowid, IsNumbered, with_rows}
use Rattle.pawn_tables.proofs.Basics.{nat_tests, IsPermutation-sym, IsPermutation-trans, length_permutation}
use Rattle.pawn_tables.proofs.Basics.{IsPermutation-filter, filter-map, over_table, passes}
use Rattle.pawn_tables.specs.Common.{AllByRecursion, is_eq, Binary, understood, binary, from_truth, is_true, Row}
use Rattle.pawn_tables.specs.Common.{value_cmp, Executes, State, Table, Term, Trees, Value, Int, Holds, Listed, Lists}
use Rattle.pawn_tables.specs.Common.{columns_of}
use Rattle.pawn_tables.specs.Rows.{number, or_null}
use Rattle.sqlite.proofs.Callers.{IsPlain, command_of, runs_as, statement_of}
use Rattle.sqlite.specs.Ops.{unary}
use Rattle.sqlite.specs.Schema.{Schema}
use Rattle.sqlite.specs.State.{mode_of}
use Rattle.sqlite_rules.specs.Calls.{ids_of}
use Rattle.sqlite_value.proofs.OrderLemmas.{value_cmp-Int}
use Rattle.std.proofs.Common.{◌≡◌, ℕ, ℤ, pos, List, [], ◌∷◌, map, filter, Bool, true, false, cond, not, ◌&&◌, ◌||◌}
use Rattle.std.proofs.Common.{Option, Some, None, Ok, refl, sym, ap, subst, ◌∙◌, arith, IsPermutation, int_cmp}
use Rattle.std.proofs.lemmas.Bool.{and_right, cond-false}
use Rattle.std.proofs.lemmas.List.Elements.{filter_agree}

-- ---- SQL's IS NOT, and OR of some

abbrev pub is_not : Value → Value → Value
is_not v w = unary Not (binary (Is Binary) v w)

abbrev pub or_others : Value → List (Value × Value) → Value
or_others v [] = v
or_others v (p ∷ more) = or_others (binary Or v (is_not p.0 p.1)) more

-- a value of the first pair, or of one after it, differs from the other
abbrev pub differ : Value × Value → List (Value × Value) → Bool
differ p more = is_true (or_others (is_not p.0 p.1) more)

abbrev pub AreEqual : Value × Value → Type 0
AreEqual p = is_eq (value_cmp p.0 p.1) ≡ true

negated : (b : Bool) → unary Not (from_truth (Some b)) ≡ from_truth (Some (not b))
unfolding unary
negated true = refl
negated false = refl

is_not_said : (v w : Value) → is_not v w ≡ from_truth (Some (not (is_eq (value_cmp v w))))
unfolding binary
is_not_said v w = negated (is_eq (value_cmp v w))

or_said : (a b : Bool) → binary Or (from_truth (Some a)) (from_truth (Some b)) ≡ from_truth (Some (a || b))
unfolding binary
or_said true true = refl
or_said true false = refl
or_said false true = refl
or_said false false = refl

or_next : (a : Bool) (v w : Value) → binary Or (from_truth (Some a)) (is_not v w) ≡ from_truth (Some (a || not (is_eq (value_cmp v w))))
or_next a v w = ap (binary Or (from_truth (Some a))) (is_not_said v w) ∙ or_said a (not (is_eq (value_cmp v w)))

neither : (a b : Bool) → (a || not b) ≡ false → (a ≡ false) × (b ≡ true)
neither true b h = absurd (let e = h in cc)
neither false true h = (refl, refl)
neither false false h = absurd (let e = h in cc)

none_other : (a : Bool) (more : List (Value × Value)) → is_true (or_others (from_truth (Some a)) more) ≡ false → (a ≡ false) × AllByRecursion AreEqual more
none_other a [] h = (sym (truth_of a) ∙ h, tt)
none_other a (p ∷ more) h =
    let rest = none_other (a || not (is_eq (value_cmp p.0 p.1))) more (sym (ap (λ v. is_true (or_others v more)) (or_next a p.0 p.1)) ∙ h) in
    let both = neither a (is_eq (value_cmp p.0 p.1)) rest.0 in
    (both.0, (both.1, rest.1))

-- where none differs, each is the other
pub all_equal : (p : Value × Value) (more : List (Value × Value)) → differ p more ≡ false → AllByRecursion AreEqual (p ∷ more)
all_equal p more h = let rest = none_other (not (is_eq (value_cmp p.0 p.1))) more (sym (ap (λ v. is_true (or_others v more)) (is_not_said p.0 p.1)) ∙ h) in
    ((neither false (is_eq (value_cmp p.0 p.1)) rest.0).1, rest.1)

pub same_number : (m n : ℕ) → AreEqual (number m, number n) → m ≡ n
same_number m n h = let e : is_eq (int_cmp (pos m) (pos n)) ≡ true = ap is_eq (sym (value_cmp-Int (pos m) (pos n))) ∙ h in grind (arith, nat_tests, e)

pub same_optional : (o p : Option ℕ) → AreEqual (or_null number o, or_null number p) → o ≡ p
unfolding value_cmp
same_optional None None h = refl
same_optional None (Some n) h = absurd (let e = h in cc)
same_optional (Some m) None h = absurd (let e = h in cc)
same_optional (Some m) (Some n) h = ap Some (same_number m n h)

-- ---- the statement

no_rows : (rows : List Row) → IsPermutation [] rows → rows ≡ []
no_rows rows same = nil_from_length rows (length_permutation [] rows same)

nothing_shown : {A B : Type 0} (f : A → B) (xs : List A) → map f xs ≡ [] → xs ≡ []
nothing_shown f [] h = refl
nothing_shown f (x ∷ xs) h = absurd (let e = h in cc)

-- of rows of which none passes one test, none passes that and another
none_of_both : (a b : Row → Bool) (rows : List Row) → filter a rows ≡ [] → filter (λ r. a r && b r) rows ≡ []
none_of_both a b [] h = refl
none_of_both a b (r ∷ rows) h = go (a r) h (none_of_both a b rows) where
  go : (c : Bool) → cond c (r ∷ filter a rows) (filter a rows) ≡ [] → (filter a rows ≡ [] → filter (λ x. a x && b x) rows ≡ [])
      → cond (c && b r) (r ∷ filter (λ x. a x && b x) rows) (filter (λ x. a x && b x) rows) ≡ []
  go true h more = absurd (let e = h in cc)
  go false h more = more h

module _ (schema : Schema) (at : ℕ) (t : Table) (there : IsPlace schema at t) (is_tree : (db : Trees) → overlay db [] t.tree ≡ db t.tree)
    (tests shows : List Term) (text : List ℕ) (command : command_of (understood schema text) ≡ Update at
    (record { lets = []; body = over_table t.tree tests shows [] })) (plain : IsPlain (understood schema text))
    (old new : State) (params : Row) (count : ℕ) (listed : Listed) (st : Lists schema old.now listed) where
  abbrev table : Table
  table = plainly t

  -- where no row passes, each table keeps its rows
  none_set : (rows : List Row) → IsPermutation rows (listed t.tree) → filter (passes tests params) (old.now.trees t.tree) ≡ []
      → Executes text params old new (Ok count) → Lists schema new.now (with_rows listed t.tree rows)
  none_set rows same none h = let db = old.now.trees in
      let w = runs_as text params old new schema st.schema_is _ command plain count h in let whole = statement_of text (understood schema text) in
      let does = subst (λ s. Does old.step_limit (mode_of old) params (record old.now { schema = s }) whole None
      (Update at (record { lets = []; body = over_table t.tree tests shows [] })) (Ok (w.tally, new.now))) st.schema_is w.changed in
      let done = went (rw there.listed at does) in let now = ap (λ (p : Tally × Database). p.1) (same_value (went (went done.2).2).2) in
      let wrote = updated_part schema at t there is_tree tests shows old.step_limit params params db done.0 done.1 in
      let empty : wrote.rows ≡ [] = no_rows wrote.rows (subst (λ xs. IsPermutation (map (shows_of shows params) xs) wrote.rows) none wrote.same) in
      let applies = subst (λ rs. Applies schema Enforced db (edit_of db table (ids_of rs) Given 1 rs) done.0.trees) empty wrote.applies in
      let kept : done.0.trees t.tree ≡ db t.tree = applies.rows in
      let holds : Holds db t.tree table (listed t.tree) =
      at_place (λ (u : Table). Holds db u.tree u (listed u.tree)) schema.tables at table there.listed st.tables in
      let stays : Holds done.0.trees t.tree table rows = record {
        same = subst (λ rs. IsPermutation rows (map (columns_of table) rs)) (sym kept) (IsPermutation-trans _ _ _ same holds.same);
        numbered = subst IsNumbered (sym kept) holds.numbered;
      } in
      record {
        schema_is = ap (λ (d : Database). d.schema) now;
        sound = w.sound;
        tables = subst (λ (d : Database). AllByRecursion (λ (u : Table). Holds d.trees u.tree u (with_rows listed t.tree rows u.tree)) schema.tables) (sym now)
            (carried schema.tables table db done.0.trees listed rows there.alone st.tables applies.tables stays);
      }

  -- the one row that passes a test takes these columns, where it passes another too, or has them before
  module _ (test differs : Row → Bool) (passes_is : (r : Row) → passes tests params r ≡ (test (columns_of table r) && differs (columns_of table r)))
      (before after : Row) (rest : List Row)
      (split : IsPermutation (listed t.tree) (before ∷ rest)) (here : test before ≡ true) (none : filter test rest ≡ []) where
    abbrev both : Row → Bool
    both r = test r && differs r

    unfound : differs before ≡ false → filter (passes tests params) (old.now.trees t.tree) ≡ []
    unfound same = let rows = old.now.trees t.tree in
        let holds : Holds old.now.trees t.tree table (listed t.tree) =
        at_place (λ (u : Table). Holds old.now.trees u.tree u (listed u.tree)) schema.tables at table there.listed st.tables in
        let listed_so : IsPermutation (before ∷ rest) (map (columns_of table) rows) = IsPermutation-trans _ _ _ (IsPermutation-sym _ _ split) holds.same in
        let only : filter both (before ∷ rest) ≡ [] = cond-false _ _ _ (and_right (test before) (differs before) same) ∙ none_of_both test differs rest none in
        let empty = no_rows _ (subst (λ xs. IsPermutation xs (filter both (map (columns_of table) rows))) only (IsPermutation-filter both _ _ listed_so)) in
        filter_agree _ _ passes_is rows ∙ nothing_shown (columns_of table) _ (sym (filter-map both (columns_of table) rows) ∙ empty)

    pub set_where : (differs before ≡ false → before ≡ after) → ((id : ℤ) (r : Row) → rowid r ≡ Int id → columns_of table r ≡ before → (source : Row)
        × (tail : Row) × (shows_of shows params r ≡ Int id ∷ source) × (cast_row table source ≡ Int id ∷ tail) × (columns_of table (Int id ∷ tail) ≡ after))
        → Executes text params old new (Ok count) → Lists schema new.now (with_rows listed t.tree (after ∷ rest))
    set_where has makes h = go (differs before) refl where
      go : (b : Bool) → differs before ≡ b → Lists schema new.now (with_rows listed t.tree (after ∷ rest))
      go true is = set_one schema at t there is_tree tests shows both text command plain old new params count listed before after rest st passes_is split
          ((λ i. here i && is i)) (none_of_both test differs rest none) makes h
      go false is = none_set (after ∷ rest) (subst (λ r. IsPermutation (r ∷ rest) (listed t.tree)) (has is) (IsPermutation-sym _ _ split)) (unfound is) h
