-- What the queries of a pledge's lists show at a place, where the tables stand for a host.
use Rattle.pawn_tables.proofs.Basics.{filter_agree, filter-map, map-map, take-map}
use Rattle.pawn_tables.proofs.BookReads.{at_least}
use Rattle.pawn_tables.proofs.Lent.{debts_of}
use Rattle.pawn_tables.proofs.NextEntries.{one_with, found_each}
use Rattle.pawn_tables.proofs.PageLemmas.{filter_each, take_each}
use Rattle.pawn_tables.proofs.PlacedRows.{has_place, placed_shown}
use Rattle.pawn_tables.proofs.PledgeReads.{holds_in, entries_up, entries_list, extensions_list, secrets_list, four}
use Rattle.pawn_tables.proofs.PledgeReads.{three, one_shown, page_shown}
use Rattle.pawn_tables.proofs.RowsUnderKey.{equals, rows_at}
use Rattle.pawn_tables.proofs.SoundReads.{entries_unsound, secrets_unsound, extensions_unsound}
use Rattle.pawn_tables.specs.At.{is_at, is_from}
use Rattle.pawn_tables.specs.Common.{get, Row, column, Shown, State, IsDayNumber, Entry, PledgeValue, Each, pledge_in}
use Rattle.pawn_tables.specs.Common.{Host, entries_of, extensions_of, secrets_of, IsUnsoundAt}
use Rattle.pawn_tables.specs.Entries.{IsEntryDecodable, RiseFrom, entries_from, with_seq}
use Rattle.pawn_tables.specs.Pages.{most_page_rows}
use Rattle.pawn_tables.specs.Places.{at_place}
use Rattle.pawn_tables.specs.Rows.{at_most_one, entries_listed, entry_cells, extension_cells, extensions_listed, number}
use Rattle.pawn_tables.specs.Rows.{secret_cells, secrets_listed, under}
use Rattle.pawn_tables.specs.StandsFor.{AreStorable, StandsFor}
use Rattle.std.proofs.Common.{◌≡◌, ◌==◌, ℕ, zero, suc, List, [], ◌∷◌, map, filter, take, Bool, Option, Some, None, refl}
use Rattle.std.proofs.Common.{sym, ap, ◌∙◌, IfSome, nat_le}
use Rattle.pawn_tables.proofs.ReadTexts as text

-- what holds of each element holds at a place
pub at_each : {A : Type 0} (P : A → Type 0) (xs : List A) (s : ℕ) → Each P xs → IfSome (at_place xs s) P
at_each P xs zero all = tt
at_each P [] (suc n) all = tt
at_each P (x ∷ xs) (suc zero) all = all.0
at_each P (x ∷ xs) (suc (suc n)) all = at_each P xs (suc n) all.1

module _ (old new : State) (h : Host) (b n s : ℕ) (rows : List Row) (st : StandsFor old.now h) where
  abbrev params : Row
  params = number b ∷ number n ∷ number s ∷ []

  abbrev found : Option PledgeValue
  found = pledge_in (get h.books b) n

  -- the entries of a pledge rise
  pub entries_rising : RiseFrom 0 (entries_of found)
  entries_rising = go found refl where
    go : (o : Option PledgeValue) → pledge_in (get h.books b) n ≡ o → RiseFrom 0 (entries_of o)
    go None is = tt
    go (Some p) is = holds_in h (λ (q : PledgeValue). RiseFrom 0 q.entries) (λ c k at. (st.ordered c k at).entries) b n p is

  -- what is shown of those that pass a test of their numbers
  entries_passing : (test : Row → Bool) (keeps : ℕ → Bool) → ((m : ℕ) (e : Entry) → test (under b m (entry_cells e)) ≡ keeps e.seq) → (o : Option PledgeValue)
      → map four (filter test (rows_at o (entries_listed b))) ≡ map entry_cells (filter (λ (e : Entry). keeps e.seq) (entries_of o))
  entries_passing test keeps any None = refl
  entries_passing test keeps any (Some p) = let g : Entry → Row = λ e. under b p.agreement.number (entry_cells e) in
      ap (map four) (filter-map test g p.entries ∙ ap (map g) (filter_agree (λ e. test (g e)) (λ (e : Entry). keeps e.seq) (any p.agreement.number) p.entries))
      ∙ map-map four g _

  pub entry_shown : Shown text.READ_ENTRY.now params old new rows → rows ≡ at_most_one entry_cells (with_seq (entries_of found) s)
  entry_shown =
      one_shown old new st.schema h _ _ (entries_list _ h (debts_of _ h st)) b n (λ v. is_at v (number s)) text.of_place text.four_shown params four (λ _. refl)
      (λ _. refl) text.READ_ENTRY.now _ rows entry_cells (with_seq (entries_of found) s) (entries_passing (has_place 2 s) (λ q. q == s)
      (λ m e. equals e.seq s) found ∙ one_with entry_cells s 0 (entries_of found) entries_rising) ((text.texts st.schema.more).entry_is)

  pub entries_page_shown : Shown text.READ_ENTRIES_PAGE.now params old new rows
      → rows ≡ map entry_cells (take most_page_rows (entries_from s (entries_of found)))
  entries_page_shown shown =
      page_shown old new st.schema h _ _ (entries_list _ h (debts_of _ h st)) b n (λ v. is_from v (number s)) text.from_tests text.four_shown params four
      (λ _. refl) (λ _. refl) text.READ_ENTRIES_PAGE.now _ rows (entries_up h b n st.ordered) ((text.texts st.schema.more).from_is) shown
      ∙ ap (take most_page_rows) (entries_passing (λ v. is_from (column v 2) (number s)) (λ q. nat_le s q) (λ m e. at_least e.seq s) found)
      ∙ take-map entry_cells most_page_rows (entries_from s (entries_of found))

  -- of a list whose places the rows count
  placed_at : {A : Type 0} (cells : Row → Row) (told : ℕ → A → Row) (listed : PledgeValue → List Row) (all : Option PledgeValue → List A) → all None ≡ []
      → ((p : PledgeValue) → map cells (filter (has_place 2 s) (listed p)) ≡ at_most_one (told s) (at_place (all (Some p)) s))
      → (o : Option PledgeValue) → map cells (filter (has_place 2 s) (rows_at o listed)) ≡ at_most_one (told s) (at_place (all o) s)
  placed_at {A} cells told listed all none some None = go s ∙ ap (λ xs. at_most_one (told s) (at_place xs s)) (sym none) where
    go : (m : ℕ) → [] ≡ at_most_one (told s) (at_place {A = A} [] m)
    go zero = refl
    go (suc m) = refl
  placed_at cells told listed all none some (Some p) = some p

  pub secret_shown : Shown text.READ_SECRET.now params old new rows → rows ≡ at_most_one (secret_cells s) (at_place (secrets_of found) s)
  secret_shown = one_shown old new st.schema h _ _ (secrets_list _ h st) b n (λ v. is_at v (number s)) text.of_place text.four_shown params four (λ _. refl)
      (λ _. refl) text.READ_SECRET.now _ rows (secret_cells s) (at_place (secrets_of found) s) (placed_at four secret_cells (secrets_listed b) secrets_of refl
      (λ p. placed_shown 2 (λ place i. under b p.agreement.number (secret_cells place i)) (λ at i. refl) secret_cells four (λ at i. refl) s p.secrets) found)
      ((text.texts st.schema.more).secret_is)

  pub extension_shown : Shown text.READ_EXTENSION.now params old new rows → rows ≡ at_most_one (extension_cells s) (at_place (extensions_of found) s)
  extension_shown =
      one_shown old new st.schema h _ _ (extensions_list _ h st) b n (λ v. is_at v (number s)) text.of_place text.three_shown params three (λ _. refl)
      (λ _. refl) text.READ_EXTENSION.now _ rows (extension_cells s) (at_place (extensions_of found) s)
      (placed_at three extension_cells (extensions_listed b) extensions_of refl (λ p. placed_shown 2 (λ place e. under b p.agreement.number
      (extension_cells place e)) (λ at e. refl) extension_cells three (λ at e. refl) s p.extensions) found) ((text.texts st.schema.more).extension_is)

module _ (h : Host) (storable : AreStorable h) (b n s : ℕ) where
  pub entry_unsound : (IfSome (with_seq (entries_of (pledge_in (get h.books b) n)) s) IsEntryDecodable → ⊥) → IsUnsoundAt b h
  entry_unsound bad = entries_unsound h storable b n (λ all. bad (found_each IsEntryDecodable (λ (e : Entry). e.seq == s) _ all))

  pub entries_page_unsound : (Each IsEntryDecodable (take most_page_rows (entries_from s (entries_of (pledge_in (get h.books b) n)))) → ⊥) → IsUnsoundAt b h
  entries_page_unsound bad =
      entries_unsound h storable b n (λ all. bad (take_each IsEntryDecodable most_page_rows _
      (filter_each IsEntryDecodable (λ (e : Entry). nat_le s e.seq) _ all)))

  pub secret_unsound : (IfSome (at_place (secrets_of (pledge_in (get h.books b) n)) s) (λ i. IsDayNumber i.day) → ⊥) → IsUnsoundAt b h
  secret_unsound bad = secrets_unsound h storable b n (λ all. bad (at_each (λ i. IsDayNumber i.day) _ s all))

  pub extension_unsound : (IfSome (at_place (extensions_of (pledge_in (get h.books b) n)) s) (λ e. IsDayNumber e.day × IsDayNumber e.until) → ⊥)
      → IsUnsoundAt b h
  extension_unsound bad = extensions_unsound h storable b n (λ all. bad (at_each (λ e. IsDayNumber e.day × IsDayNumber e.until) _ s all))
