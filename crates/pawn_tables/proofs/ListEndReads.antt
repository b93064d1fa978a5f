-- What the queries for the ends of a pledge's lists show, where the tables stand for a host.
use Rattle.one_table.proofs.Found.{last_of}
use Rattle.pawn_tables.proofs.Lent.{debts_of}
use Rattle.pawn_tables.proofs.ListElementReads.{at_each}
use Rattle.pawn_tables.proofs.PageLemmas.{last_later, last_some}
use Rattle.pawn_tables.proofs.PledgeReads.{entries_list, entries_up, extensions_list, extensions_up, four, last_shown}
use Rattle.pawn_tables.proofs.PledgeReads.{one_mapped, secrets_list, secrets_up}
use Rattle.pawn_tables.proofs.RowsUnderKey.{rows_at}
use Rattle.pawn_tables.proofs.SoundReads.{secrets_unsound}
use Rattle.pawn_tables.specs.Common.{get, Row, column, Shown, State, IsDayNumber, PledgeValue, last_element, Each}
use Rattle.pawn_tables.specs.Common.{Entry, Extension, Issued, pledge_in, Host, entries_of, extensions_of, secrets_of}
use Rattle.pawn_tables.specs.Common.{IsUnsoundAt, AreWords, IsWord}
use Rattle.pawn_tables.specs.Heads.{number_cells}
use Rattle.pawn_tables.specs.ListEnds.{AreListEnds, last_cells, last_issued, last_seq}
use Rattle.pawn_tables.specs.Rows.{at_most_one, entries_listed, entry_cells, extension_cells, extensions_listed, number}
use Rattle.pawn_tables.specs.Rows.{placed_from, secret_cells, secrets_listed, under}
use Rattle.pawn_tables.specs.StandsFor.{AreStorable, StandsFor}
use Rattle.pawn_tables.specs.declared.joining.LastSecret.{LastSecret}
use Rattle.pawn_tables.specs.declared.joining.ListEnds.{ListEnds}
use Rattle.std.proofs.Common.{◌≡◌, ℕ, suc, ◌+◌, ◌-◌, List, [], ◌∷◌, length, map, Option, Some, None, option_map, refl}
use Rattle.std.proofs.Common.{sym, ap, ◌∙◌, arith, IfSome, unwrap_or}
use Rattle.pawn_tables.proofs.ReadTexts as text

-- ---- the last of elements with their places

last_placed : {A : Type 0} (g told : ℕ → A → Row) (cells : Row → Row) → ((at : ℕ) (x : A) → cells (g at x) ≡ told at x) → (k place : ℕ) (xs : List A)
    → place + 1 ≡ k + length xs → map cells (last_of (placed_from g k xs)) ≡ at_most_one (told place) (last_element xs)
last_placed g told cells is k place [] end = refl
last_placed g told cells is k place (x ∷ []) end = let same : k ≡ place = omega (arith, end) in ap (λ r. r ∷ []) (is k x ∙ ap (λ m. told m x) same)
last_placed g told cells is k place (x ∷ (y ∷ xs)) end = last_placed g told cells is (k + 1) place (y ∷ xs) (omega (arith, end))
    ∙ ap (at_most_one (told place)) (sym (last_later x y xs))

-- the last of elements that bring their own numbers
last_mapped : {A : Type 0} (f told : A → Row) (cells : Row → Row) → ((x : A) → cells (f x) ≡ told x) → (xs : List A)
    → map cells (last_of (map f xs)) ≡ at_most_one told (last_element xs)
last_mapped f told cells is [] = refl
last_mapped f told cells is (x ∷ []) = ap (λ r. r ∷ []) (is x)
last_mapped f told cells is (x ∷ (y ∷ xs)) = last_mapped f told cells is (y ∷ xs) ∙ ap (at_most_one told) (sym (last_later x y xs))

-- its place gives how many they are
pub place_count : {A : Type 0} (xs : List A) → unwrap_or (option_map (λ (x : A). length xs) (last_element xs)) 0 ≡ length xs
place_count [] = refl
place_count (x ∷ xs) = let last = last_some x xs in ap (λ o. unwrap_or (option_map (λ y. length (x ∷ xs)) o) 0) last.1

pub last_place : (secrets : List Issued) (l : Option LastSecret) → l ≡ last_issued secrets
    → unwrap_or (option_map (λ (x : LastSecret). x.place) l) 0 ≡ length secrets
last_place secrets l is = ap (λ o. unwrap_or (option_map (λ (x : LastSecret). x.place) o) 0) is ∙ go (last_element secrets) ∙ place_count secrets where
  go : (o : Option Issued) → unwrap_or (option_map (λ (x : LastSecret). x.place)
      (option_map (λ (i : Issued). record { place = length secrets; issued = i }) o)) 0 ≡ unwrap_or (option_map (λ (i : Issued). length secrets) o) 0
  go None = refl
  go (Some i) = refl

-- what holds of each secret holds of the last
last_each : (P : Issued → Type 0) (secrets : List Issued) → Each P secrets → IfSome (last_issued secrets) (λ (l : LastSecret). P l.issued)
last_each P secrets all = go (last_element secrets) (at_each P secrets (suc (length secrets - 1)) all) where
  go : (o : Option Issued) → IfSome o P → IfSome (option_map (λ (i : Issued). record { place = length secrets; issued = i }) o) (λ (l : LastSecret). P l.issued)
  go None is = tt
  go (Some i) is = is

pub last_word : (secrets : List Issued) → AreWords secrets → IfSome (last_issued secrets) (λ (l : LastSecret). IsWord l.issued.secret)
last_word = last_each (λ i. IsWord i.secret)

pub last_unsound : (h : Host) → AreStorable h → (b n : ℕ)
    → (IfSome (last_issued (secrets_of (pledge_in (get h.books b) n))) (λ (l : LastSecret). IsDayNumber l.issued.day) → ⊥) → IsUnsoundAt b h
last_unsound h storable b n bad = secrets_unsound h storable b n (λ days. bad (last_each (λ i. IsDayNumber i.day) _ days))

-- ---- what is shown

module _ (old new : State) (h : Host) (b n : ℕ) (rows : List Row) (st : StandsFor old.now h) where
  abbrev params : Row
  params = number b ∷ number n ∷ []

  abbrev found : Option PledgeValue
  found = pledge_in (get h.books b) n

  pub seq_shown : Shown text.READ_LAST_SEQ.now params old new rows
      → rows ≡ at_most_one number_cells (option_map (λ (e : Entry). e.seq) (last_element (entries_of found)))
  seq_shown shown = last_shown old new st.schema h _ _ (entries_list _ h (debts_of _ h st)) b n text.last_place_shows seq (λ _. refl) text.READ_LAST_SEQ.now _
      rows (entries_up h b n st.ordered) ((text.texts st.schema.more).last_seq_is) shown ∙ cells found
    where
      seq : Row → Row
      seq v = column v 2 ∷ []

      cells : (o : Option PledgeValue) → map seq (last_of (rows_at o (entries_listed b))) ≡ at_most_one number_cells
          (option_map (λ (e : Entry). e.seq) (last_element (entries_of o)))
      cells None = refl
      cells (Some p) = last_mapped (λ e. under b p.agreement.number (entry_cells e)) (λ (e : Entry). number_cells e.seq) seq (λ e. refl) p.entries
          ∙ one_mapped (λ (e : Entry). e.seq) number_cells (last_element p.entries)

  pub secret_shown : Shown text.READ_LAST_SECRET.now params old new rows → rows ≡ at_most_one last_cells (last_issued (secrets_of found))
  secret_shown shown = last_shown old new st.schema h _ _ (secrets_list _ h st) b n text.four_shown four (λ _. refl) text.READ_LAST_SECRET.now _ rows
      (secrets_up b found) ((text.texts st.schema.more).last_secret_is) shown ∙ cells found
    where
      cells : (o : Option PledgeValue) → map four (last_of (rows_at o (secrets_listed b))) ≡ at_most_one last_cells (last_issued (secrets_of o))
      cells None = refl
      cells (Some p) = last_placed (λ place i. under b p.agreement.number (secret_cells place i))
          (λ place (i : Issued). last_cells (record { place = place; issued = i })) four (λ place i. refl) 1 (length p.secrets) p.secrets (omega arith)
          ∙ one_mapped (λ (i : Issued). record { place = length p.secrets; issued = i }) last_cells (last_element p.secrets)

  pub place_shown : Shown text.READ_LAST_PLACE.now params old new rows
      → rows ≡ at_most_one number_cells (option_map (λ (e : Extension). length (extensions_of found)) (last_element (extensions_of found)))
  place_shown shown = last_shown old new st.schema h _ _ (extensions_list _ h st) b n text.last_place_shows place (λ _. refl) text.READ_LAST_PLACE.now _ rows
      (extensions_up b found) ((text.texts st.schema.more).last_place_is) shown ∙ cells found
    where
      place : Row → Row
      place v = column v 2 ∷ []

      cells : (o : Option PledgeValue) → map place (last_of (rows_at o (extensions_listed b))) ≡ at_most_one number_cells
          (option_map (λ (e : Extension). length (extensions_of o)) (last_element (extensions_of o)))
      cells None = refl
      cells (Some p) =
          last_placed (λ place e. under b p.agreement.number (extension_cells place e)) (λ place (e : Extension). number_cells place) place (λ place e. refl) 1
          (length p.extensions) p.extensions (omega arith) ∙ one_mapped (λ (e : Extension). length p.extensions) number_cells (last_element p.extensions)

-- what the ends tell together
pub list_ends_told : (o : Option PledgeValue) (t : ListEnds) → t.last_entry ≡ last_seq (entries_of o) → t.last ≡ last_issued (secrets_of o)
    → t.extensions ≡ length (extensions_of o) → IfSome o (AreListEnds t)
list_ends_told None t many last longer = tt
list_ends_told (Some p) t many last longer = record { last_entry = many; last = last; extensions = longer }
