-- The pages of one list of a pledge, as rows of an export.
use Rattle.pawn_book.specs.Items.{entry_items, extension_items, secret_items}
use Rattle.pawn_book.specs.declared.items.RowItem.{RowItem}
use Rattle.pawn_tables.proofs.Basics.{map-map, take-map}
use Rattle.pawn_tables.proofs.ItemOrder.{IsOwn, each_entry, each_extension, each_secret}
use Rattle.pawn_tables.proofs.ListElementReads.{entries_page_shown, entries_rising}
use Rattle.pawn_tables.proofs.ListPageReads.{drop_each, extensions_page_shown, secrets_page_shown}
use Rattle.pawn_tables.proofs.NextEntries.{from_zero, rest_from}
use Rattle.pawn_tables.proofs.PageLemmas.{filter_each, is_page, take_each}
use Rattle.pawn_tables.proofs.PledgeReads.{number_in}
use Rattle.pawn_tables.proofs.RangeFinds.{each_both, entry_told, entry_words, extension_told, extension_words, number_told}
use Rattle.pawn_tables.proofs.RangeFinds.{secret_told, secret_words}
use Rattle.pawn_tables.proofs.SoundReads.{IsIn, entries_told, extensions_told, secrets_told, unsound_pledge, words_in}
use Rattle.pawn_tables.specs.Common.{AreWords, BookValue, Each, Entry, Extension, Host, IsDayNumber, IsUnsoundAt, IsWord}
use Rattle.pawn_tables.specs.Common.{Issued, PledgeValue, Row, Shown, State, entries_of, extensions_of, get, pledge_in}
use Rattle.pawn_tables.specs.Common.{secrets_of}
use Rattle.pawn_tables.specs.Common.{Database, KeepError, NoRecord}
use Rattle.pawn_tables.specs.Finding.{Finds}
use Rattle.pawn_tables.specs.Entries.{IsEntryDecodable, RiseFrom, entries_from}
use Rattle.pawn_tables.specs.Kinds.{CanBeRead, IsItemDecodable, IsListPage, IsRowOf, cells_of, item_end, left_of_kind}
use Rattle.pawn_tables.specs.Kinds.{list_left, kind_rows_if_any}
use Rattle.pawn_tables.specs.Pages.{most_page_rows}
use Rattle.pawn_tables.specs.Places.{page_behind}
use Rattle.pawn_tables.specs.Rows.{entry_cells, extension_cells, number, placed_from, secret_cells}
use Rattle.pawn_tables.specs.StandsFor.{StandsFor}
use Rattle.pawn_tables.specs.declared.kinds.RowKind.{RowKind}
use Rattle.std.proofs.Common.{◌≡◌, ◌∙◌, ◌+◌, ℕ, zero, suc, List, [], ◌∷◌, drop, drop-drop, map, take, Option, Some, None, ap}
use Rattle.std.proofs.Common.{Result, Ok, Err}
use Rattle.std.proofs.Common.{nat_le, refl, subst, sym}
use Rattle.std.proofs.Math.Seq.{drop-nil}
use Rattle.pawn_book.specs.declared.fault.KeepError.TheVariants as Keeper
use Rattle.pawn_tables.proofs.ReadTexts as text

-- ---- lists with places

secrets_taken : (n at k : ℕ) (is : List Issued) → take k (secret_items n at is) ≡ secret_items n at (take k is)
secrets_taken n at zero is = refl
secrets_taken n at (suc k) [] = refl
secrets_taken n at (suc k) (i ∷ is) = ap (λ l. RowItem.Secret n at i ∷ l) (secrets_taken n (at + 1) k is)

secret_rows : (n m at : ℕ) (is : List Issued) → placed_from secret_cells at is ≡ map (cells_of (Some n)) (secret_items m at is)
secret_rows n m at [] = refl
secret_rows n m at (i ∷ is) = ap (λ l. secret_cells at i ∷ l) (secret_rows n m (at + 1) is)

extensions_taken : (n at k : ℕ) (es : List Extension) → take k (extension_items n at es) ≡ extension_items n at (take k es)
extensions_taken n at zero es = refl
extensions_taken n at (suc k) [] = refl
extensions_taken n at (suc k) (e ∷ es) = ap (λ l. RowItem.Extension n at e ∷ l) (extensions_taken n (at + 1) k es)

extension_rows : (n m at : ℕ) (es : List Extension) → placed_from extension_cells at es ≡ map (cells_of (Some n)) (extension_items m at es)
extension_rows n m at [] = refl
extension_rows n m at (e ∷ es) = ap (λ l. extension_cells at e ∷ l) (extension_rows n m (at + 1) es)

drop_next : {A : Type 0} (s : ℕ) (xs : List A) (j : A) (js : List A) → drop s xs ≡ j ∷ js → drop (s + 1) xs ≡ js
drop_next s xs j js left = sym (drop-drop 1 s xs) ∙ ap (drop 1) left

-- ---- what is left after the first row of a rest

secret_step : (n s : ℕ) (is : List Issued) (x : RowItem) (more : List RowItem) → secret_items n (s + 1) (drop s is) ≡ x ∷ more
    → secret_items n (item_end x + 1) (drop (item_end x) is) ≡ more
secret_step n s is x more are = go (drop s is) refl are where
  go : (js : List Issued) → drop s is ≡ js → secret_items n (s + 1) js ≡ x ∷ more → secret_items n (item_end x + 1) (drop (item_end x) is) ≡ more
  go [] left are = absurd (let e = are in cc)
  go (j ∷ js) left are = let same : RowItem.Secret n (s + 1) j ≡ x = (let e = are in cc) in
      let rest : secret_items n (s + 1 + 1) js ≡ more = (let e = are in cc) in
      subst (λ (y : RowItem). secret_items n (item_end y + 1) (drop (item_end y) is) ≡ more) same
      (ap (secret_items n (s + 1 + 1)) (drop_next s is j js left) ∙ rest)

extension_step : (n s : ℕ) (es : List Extension) (x : RowItem) (more : List RowItem) → extension_items n (s + 1) (drop s es) ≡ x ∷ more
    → extension_items n (item_end x + 1) (drop (item_end x) es) ≡ more
extension_step n s es x more are = go (drop s es) refl are where
  go : (js : List Extension) → drop s es ≡ js → extension_items n (s + 1) js ≡ x ∷ more → extension_items n (item_end x + 1) (drop (item_end x) es) ≡ more
  go [] left are = absurd (let e = are in cc)
  go (j ∷ js) left are = let same : RowItem.Extension n (s + 1) j ≡ x = (let e = are in cc) in
      let rest : extension_items n (s + 1 + 1) js ≡ more = (let e = are in cc) in
      subst (λ (y : RowItem). extension_items n (item_end y + 1) (drop (item_end y) es) ≡ more) same
      (ap (extension_items n (s + 1 + 1)) (drop_next s es j js left) ∙ rest)

entry_step : (n s : ℕ) (es : List Entry) → RiseFrom 0 es → (x : RowItem) (more : List RowItem) → entry_items n (entries_from s es) ≡ x ∷ more
    → entry_items n (entries_from (item_end x) es) ≡ more
entry_step n s es rise x more are = go (entries_from s es) refl are where
  go : (fs : List Entry) → entries_from s es ≡ fs → entry_items n fs ≡ x ∷ more → entry_items n (entries_from (item_end x) es) ≡ more
  go [] left are = absurd (let e = are in cc)
  go (f ∷ fs) left are = let same : RowItem.Entry n f ≡ x = (let e = are in cc) in let rest : entry_items n fs ≡ more = (let e = are in cc) in
      subst (λ (y : RowItem). entry_items n (entries_from (item_end y) es) ≡ more) same (ap (entry_items n) (rest_from s 0 es rise f fs left) ∙ rest)

-- ---- a page of a list, where the tables stand for a host

-- from the first place on, all rows of the kind are left
pub all_left : (kind : RowKind) (o : Option PledgeValue) → left_of_kind kind 0 o ≡ kind_rows_if_any kind o
all_left kind None = refl
all_left RowKind.Pledge (Some p) = refl
all_left RowKind.Secret (Some p) = refl
all_left RowKind.Entry (Some p) = ap (entry_items p.agreement.number) (from_zero p.entries)
all_left RowKind.Extension (Some p) = refl
all_left RowKind.Booking (Some p) = refl

module _ (old new : State) (h : Host) (b n s : ℕ) (rows : List Row) (st : StandsFor old.now h) where
  abbrev pub params : Row
  params = number b ∷ number n ∷ number s ∷ []

  abbrev pub pledge : Option PledgeValue
  pledge = pledge_in (get h.books b) n

  -- the page
  abbrev pub page_of : RowKind → List RowItem
  page_of kind = take most_page_rows (left_of_kind kind s pledge)

  pub secrets_shown : Shown text.READ_SECRETS_PAGE.now params old new rows → rows ≡ map (cells_of (Some n)) (page_of RowKind.Secret)
  secrets_shown shown = secrets_page_shown old new h b n s rows st shown ∙ go pledge where
    go : (o : Option PledgeValue) → placed_from secret_cells (s + 1) (page_behind s (secrets_of o))
        ≡ map (cells_of (Some n)) (take most_page_rows (left_of_kind RowKind.Secret s o))
    go None = ap (λ xs. placed_from secret_cells (s + 1) (take most_page_rows xs)) (drop-nil s)
    go (Some p) = secret_rows n p.agreement.number (s + 1) (page_behind s p.secrets)
        ∙ ap (map (cells_of (Some n))) (sym (secrets_taken p.agreement.number (s + 1) most_page_rows (drop s p.secrets)))

  pub extensions_shown : Shown text.READ_EXTENSIONS_PAGE.now params old new rows → rows ≡ map (cells_of (Some n)) (page_of RowKind.Extension)
  extensions_shown shown = extensions_page_shown old new h b n s rows st shown ∙ go pledge where
    go : (o : Option PledgeValue) → placed_from extension_cells (s + 1) (page_behind s (extensions_of o))
        ≡ map (cells_of (Some n)) (take most_page_rows (left_of_kind RowKind.Extension s o))
    go None = ap (λ xs. placed_from extension_cells (s + 1) (take most_page_rows xs)) (drop-nil s)
    go (Some p) = extension_rows n p.agreement.number (s + 1) (page_behind s p.extensions)
        ∙ ap (map (cells_of (Some n))) (sym (extensions_taken p.agreement.number (s + 1) most_page_rows (drop s p.extensions)))

  pub entries_shown : Shown text.READ_ENTRIES_PAGE.now params old new rows → rows ≡ map (cells_of (Some n)) (page_of RowKind.Entry)
  entries_shown shown = entries_page_shown old new h b n s rows st shown ∙ go pledge where
    go : (o : Option PledgeValue) → map entry_cells (take most_page_rows (entries_from s (entries_of o)))
        ≡ map (cells_of (Some n)) (take most_page_rows (left_of_kind RowKind.Entry s o))
    go None = refl
    go (Some p) = sym (map-map (cells_of (Some n)) (RowItem.Entry p.agreement.number) (take most_page_rows (entries_from s p.entries)))
        ∙ ap (map (cells_of (Some n))) (sym (take-map (RowItem.Entry p.agreement.number) most_page_rows (entries_from s p.entries)))

  -- the rows of a page belong to the pledge
  rows_of : (kind : RowKind) → ((p : PledgeValue) → AreWords p.secrets → Each (IsOwn kind p.agreement.number) (list_left kind s p))
      → ((p : PledgeValue) → AreWords p.secrets → Each CanBeRead (list_left kind s p)) → Each (IsRowOf kind (Some n)) (page_of kind)
  rows_of kind own words = take_each (IsRowOf kind (Some n)) most_page_rows _ (go pledge refl (words_in h st.storable b n)) where
    go : (o : Option PledgeValue) → pledge ≡ o → AreWords (secrets_of o) → Each (IsRowOf kind (Some n)) (left_of_kind kind s o)
    go None is all = tt
    go (Some p) is all = let at = number_in h b n p st.ordered is in
        each_both (IsOwn kind p.agreement.number) CanBeRead (IsRowOf kind (Some n))
        (λ i mine word. record { kind_is = mine.0; number_is = mine.1 ∙ at; word = word }) (list_left kind s p) (own p all) (words p all)

  pub secrets_own : Each (IsRowOf RowKind.Secret (Some n)) (page_of RowKind.Secret)
  secrets_own = rows_of RowKind.Secret
      (λ p all. each_secret (IsOwn RowKind.Secret p.agreement.number) p.agreement.number (λ place i. (refl, refl)) (s + 1) (drop s p.secrets))
      (λ p all. secret_words p.agreement.number (s + 1) (drop s p.secrets) (drop_each (λ i. IsWord i.secret) s p.secrets all))

  pub extensions_own : Each (IsRowOf RowKind.Extension (Some n)) (page_of RowKind.Extension)
  extensions_own = rows_of RowKind.Extension
      (λ p all. each_extension (IsOwn RowKind.Extension p.agreement.number) p.agreement.number (λ place e. (refl, refl)) (s + 1) (drop s p.extensions))
      (λ p all. extension_words p.agreement.number (s + 1) (drop s p.extensions))

  pub entries_own : Each (IsRowOf RowKind.Entry (Some n)) (page_of RowKind.Entry)
  entries_own = rows_of RowKind.Entry
      (λ p all. each_entry (IsOwn RowKind.Entry p.agreement.number) p.agreement.number (λ e. (refl, refl)) (entries_from s p.entries))
      (λ p all. entry_words p.agreement.number (entries_from s p.entries))

  -- it is a page of the list
  page_by : (kind : RowKind) → ((m : ℕ) (x : RowItem) (more : List RowItem) → left_of_kind kind m pledge ≡ x ∷ more
      → left_of_kind kind (item_end x) pledge ≡ more) → IsListPage kind s pledge (page_of kind)
  page_by kind step = is_page (λ m. left_of_kind kind m pledge) item_end step s

  pub secrets_page : IsListPage RowKind.Secret s pledge (page_of RowKind.Secret)
  secrets_page = page_by RowKind.Secret (λ m x more are. step pledge m x more are) where
    step : (o : Option PledgeValue) (m : ℕ) (x : RowItem) (more : List RowItem) → left_of_kind RowKind.Secret m o ≡ x ∷ more
        → left_of_kind RowKind.Secret (item_end x) o ≡ more
    step None m x more are = absurd (let e = are in cc)
    step (Some p) m x more are = secret_step p.agreement.number m p.secrets x more are

  pub extensions_page : IsListPage RowKind.Extension s pledge (page_of RowKind.Extension)
  extensions_page = page_by RowKind.Extension (λ m x more are. step pledge m x more are) where
    step : (o : Option PledgeValue) (m : ℕ) (x : RowItem) (more : List RowItem) → left_of_kind RowKind.Extension m o ≡ x ∷ more
        → left_of_kind RowKind.Extension (item_end x) o ≡ more
    step None m x more are = absurd (let e = are in cc)
    step (Some p) m x more are = extension_step p.agreement.number m p.extensions x more are

  pub entries_page : IsListPage RowKind.Entry s pledge (page_of RowKind.Entry)
  entries_page = page_by RowKind.Entry (λ m x more are. step pledge (entries_rising old new h b n s rows st) m x more are) where
    step : (o : Option PledgeValue) → RiseFrom 0 (entries_of o) → (m : ℕ) (x : RowItem) (more : List RowItem) → left_of_kind RowKind.Entry m o ≡ x ∷ more
        → left_of_kind RowKind.Entry (item_end x) o ≡ more
    step None rise m x more are = absurd (let e = are in cc)
    step (Some p) rise m x more are = entry_step p.agreement.number m p.entries rise x more are

  -- a row of it that cannot be decoded is of a book that is not sound
  unsound_page : (kind : RowKind) → ((k : BookValue) (p : PledgeValue) → IsIn h st.storable b n k p → Each IsItemDecodable (list_left kind s p))
      → (Each IsItemDecodable (page_of kind) → ⊥) → IsUnsoundAt b h
  unsound_page kind told bad = unsound_pledge h b n (λ o. Each IsItemDecodable (take most_page_rows (left_of_kind kind s o))) tt
      (λ k p is sound at. take_each IsItemDecodable most_page_rows _ (told k p (is, sound, at))) bad

  pub secrets_unsound : (Each IsItemDecodable (page_of RowKind.Secret) → ⊥) → IsUnsoundAt b h
  secrets_unsound = unsound_page RowKind.Secret (λ k p is_in. secret_told p.agreement.number (s + 1) (drop s p.secrets)
      (number_told k n p is_in.1 is_in.2) (drop_each (λ i. IsDayNumber i.day) s p.secrets (secrets_told h st.storable b n k p is_in)))

  pub extensions_unsound : (Each IsItemDecodable (page_of RowKind.Extension) → ⊥) → IsUnsoundAt b h
  extensions_unsound = unsound_page RowKind.Extension (λ k p is_in. extension_told p.agreement.number (s + 1) (drop s p.extensions)
      (number_told k n p is_in.1 is_in.2)
      (drop_each (λ e. IsDayNumber e.day × IsDayNumber e.until) s p.extensions (extensions_told h st.storable b n k p is_in)))

  pub entries_unsound : (Each IsItemDecodable (page_of RowKind.Entry) → ⊥) → IsUnsoundAt b h
  entries_unsound = unsound_page RowKind.Entry (λ k p is_in. entry_told p.agreement.number (entries_from s p.entries)
      (number_told k n p is_in.1 is_in.2) (filter_each IsEntryDecodable (λ (e : Entry). nat_le s e.seq) p.entries (entries_told h st.storable b n k p is_in)))

-- rows that were read are the page, and one that cannot be decoded is of a book that is not sound
pub items_found : {V : Type 0} (items_of : V → List RowItem) (r : Result V KeepError) (P : List RowItem → Type 0) {is : List RowItem} {U : Type 0}
    → Finds r (λ x. items_of x ≡ is) (Each IsItemDecodable is → ⊥) → P is → ((Each IsItemDecodable is → ⊥) → U) → Finds r (λ x. P (items_of x)) U
items_found items_of (Ok x) P read page bad = subst P (sym read) page
items_found items_of (Err Keeper.Memory) P read page bad = tt
items_found items_of (Err (Keeper.Store NoRecord)) P read page bad = bad read
items_found items_of (Err (Keeper.Store Database)) P read page bad = tt
