-- What the queries of a pledge's lists show after a place, where the tables stand for a host.
use Rattle.pawn_tables.proofs.Basics.{cond-false, cond-true, nat_tests}
use Rattle.pawn_tables.proofs.BookReads.{above}
use Rattle.pawn_tables.proofs.PageLemmas.{take_each}
use Rattle.pawn_tables.proofs.PledgeReads.{extensions_list, extensions_up, four, page_shown, placed_cells, secrets_list}
use Rattle.pawn_tables.proofs.PledgeReads.{secrets_up, three}
use Rattle.pawn_tables.proofs.RowsUnderKey.{rows_at}
use Rattle.pawn_tables.proofs.SoundReads.{extensions_unsound, secrets_unsound, words_in}
use Rattle.pawn_tables.specs.At.{is_above}
use Rattle.pawn_tables.specs.Common.{get, Row, column, Shown, State, IsDayNumber, PledgeValue, Each, pledge_in, Host}
use Rattle.pawn_tables.specs.Common.{extensions_of, secrets_of, IsUnsoundAt, AreWords, IsWord}
use Rattle.pawn_tables.specs.Pages.{most_page_rows}
use Rattle.pawn_tables.specs.Places.{page_behind}
use Rattle.pawn_tables.specs.Rows.{extension_cells, extensions_listed, number, placed_from, secret_cells}
use Rattle.pawn_tables.specs.Rows.{secrets_listed, under}
use Rattle.pawn_tables.specs.StandsFor.{AreStorable, StandsFor}
use Rattle.std.proofs.Common.{◌≡◌, ℕ, zero, suc, ◌+◌, ◌<◌, List, [], ◌∷◌, map, filter, drop, take, nat_lt, Bool, true}
use Rattle.std.proofs.Common.{false, Option, Some, None, refl, sym, ap, ◌∙◌, arith}
use Rattle.std.proofs.Math.Seq.{drop-nil}
use Rattle.pawn_tables.proofs.ReadTexts as text

abbrev has_behind : ℕ → Row → Bool
has_behind s v = is_above (column v 2) (number s)

-- ---- elements with their places

module _ {A : Type 0} (g : ℕ → A → Row) (is : (at : ℕ) (x : A) → column (g at x) 2 ≡ number at) (s : ℕ) where
  test_is : (k : ℕ) (x : A) → has_behind s (g k x) ≡ nat_lt s k
  test_is k x = ap (λ v. is_above v (number s)) (is k x) ∙ above k s

  all_behind : (k : ℕ) (xs : List A) → s < k → filter (has_behind s) (placed_from g k xs) ≡ placed_from g k xs
  all_behind k [] lt = refl
  all_behind k (x ∷ xs) lt = let over : nat_lt s k ≡ true = grind (arith, nat_tests, lt) in
      cond-true _ _ _ (test_is k x ∙ over) ∙ ap (λ l. g k x ∷ l) (all_behind (k + 1) xs (omega (arith, lt)))

  placed_behind : (k n : ℕ) (xs : List A) → s + 1 ≡ k + n → filter (has_behind s) (placed_from g k xs) ≡ placed_from g (s + 1) (drop n xs)
  placed_behind k zero xs end = let same : k ≡ s + 1 = omega (arith, end) in all_behind k xs (omega (arith, end)) ∙ ap (λ m. placed_from g m xs) same
  placed_behind k (suc n) [] end = refl
  placed_behind k (suc n) (x ∷ xs) end = let before : nat_lt s k ≡ false = grind (arith, nat_tests, end) in
      cond-false _ _ _ (test_is k x ∙ before) ∙ placed_behind (k + 1) n xs (omega (arith, end))

take_placed : {A : Type 0} (f : ℕ → A → Row) (n at : ℕ) (xs : List A) → take n (placed_from f at xs) ≡ placed_from f at (take n xs)
take_placed f zero at xs = refl
take_placed f (suc n) at [] = refl
take_placed f (suc n) at (x ∷ xs) = ap (λ l. f at x ∷ l) (take_placed f n (at + 1) xs)

pub drop_each : {A : Type 0} (P : A → Type 0) (n : ℕ) (xs : List A) → Each P xs → Each P (drop n xs)
drop_each P zero xs all = all
drop_each P (suc n) [] all = tt
drop_each P (suc n) (x ∷ xs) all = drop_each P n xs all.1

page_each : {A : Type 0} (P : A → Type 0) (n : ℕ) (xs : List A) → Each P xs → Each P (page_behind n xs)
page_each P n xs all = take_each P most_page_rows (drop n xs) (drop_each P n xs all)

-- ---- what is shown

module _ (old new : State) (h : Host) (b n s : ℕ) (rows : List Row) (st : StandsFor old.now h) where
  abbrev params : Row
  params = number b ∷ number n ∷ number s ∷ []

  abbrev found : Option PledgeValue
  found = pledge_in (get h.books b) n

  -- the elements after the place
  behind_of : {A : Type 0} (cells : Row → Row) (told : ℕ → A → Row) (m : ℕ) → ((at : ℕ) (x : A) → cells (under b m (told at x)) ≡ told at x)
      → ((at : ℕ) (x : A) → column (under b m (told at x)) 2 ≡ number at) → (xs : List A) → take most_page_rows
      (map cells (filter (has_behind s) (placed_from (λ place x. under b m (told place x)) 1 xs))) ≡ placed_from told (s + 1) (page_behind s xs)
  behind_of cells told m is count xs =
      ap (λ rs. take most_page_rows (map cells rs)) (placed_behind (λ place x. under b m (told place x)) count s 1 s xs (omega arith))
      ∙ ap (take most_page_rows) (placed_cells b m told cells is (s + 1) (drop s xs)) ∙ take_placed told most_page_rows (s + 1) (drop s xs)

  -- .. of a pledge, if there is one
  page_told : {A : Type 0} (cells : Row → Row) (told : ℕ → A → Row) (listed : PledgeValue → List Row) (of : Option PledgeValue → List A)
      → ((p : PledgeValue) → listed p ≡ placed_from (λ place x. under b p.agreement.number (told place x)) 1 (of (Some p))) → of None ≡ []
      → ((m at : ℕ) (x : A) → cells (under b m (told at x)) ≡ told at x) → ((m at : ℕ) (x : A) → column (under b m (told at x)) 2 ≡ number at)
      → (o : Option PledgeValue) → take most_page_rows (map cells (filter (has_behind s) (rows_at o listed))) ≡ placed_from told (s + 1) (page_behind s (of o))
  page_told cells told listed of are none is count None =
      ap (λ xs. placed_from told (s + 1) (take most_page_rows xs)) (sym (drop-nil s) ∙ ap (drop s) (sym none))
  page_told cells told listed of are none is count (Some p) = ap (λ rs. take most_page_rows (map cells (filter (has_behind s) rs))) (are p)
      ∙ behind_of cells told p.agreement.number (is p.agreement.number) (count p.agreement.number) (of (Some p))

  pub secrets_page_shown : Shown text.READ_SECRETS_PAGE.now params old new rows → rows ≡ placed_from secret_cells (s + 1) (page_behind s (secrets_of found))
  secrets_page_shown shown =
      page_shown old new st.schema h _ _ (secrets_list _ h st) b n (λ v. is_above v (number s)) text.behind_tests text.four_shown params four (λ _. refl)
      (λ _. refl)
      text.READ_SECRETS_PAGE.now _ rows (secrets_up b found) ((text.texts st.schema.more).secrets_page_is) shown
      ∙ page_told four secret_cells (secrets_listed b) secrets_of (λ p. refl) refl (λ m at x. refl) (λ m at x. refl) found

  pub extensions_page_shown : Shown text.READ_EXTENSIONS_PAGE.now params old new rows
      → rows ≡ placed_from extension_cells (s + 1) (page_behind s (extensions_of found))
  extensions_page_shown shown =
      page_shown old new st.schema h _ _ (extensions_list _ h st) b n (λ v. is_above v (number s)) text.behind_tests text.three_shown params three (λ _. refl)
      (λ _. refl)
      text.READ_EXTENSIONS_PAGE.now _ rows (extensions_up b found) ((text.texts st.schema.more).extensions_page_is) shown
      ∙ page_told three extension_cells (extensions_listed b) extensions_of (λ p. refl) refl (λ m at x. refl) (λ m at x. refl) found

-- ---- what can be kept

module _ (h : Host) (storable : AreStorable h) (b n s : ℕ) where
  pub page_words : AreWords (page_behind s (secrets_of (pledge_in (get h.books b) n)))
  page_words = page_each (λ i. IsWord i.secret) s _ (words_in h storable b n)

  pub secrets_page_unsound : (Each (λ i. IsDayNumber i.day) (page_behind s (secrets_of (pledge_in (get h.books b) n))) → ⊥) → IsUnsoundAt b h
  secrets_page_unsound bad = secrets_unsound h storable b n (λ all. bad (page_each (λ i. IsDayNumber i.day) s _ all))

  pub extensions_page_unsound : (Each (λ e. IsDayNumber e.day × IsDayNumber e.until) (page_behind s (extensions_of (pledge_in (get h.books b) n))) → ⊥)
      → IsUnsoundAt b h
  extensions_page_unsound bad = extensions_unsound h storable b n (λ all. bad (page_each (λ e. IsDayNumber e.day × IsDayNumber e.until) s _ all))
