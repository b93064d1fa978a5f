-- What the queries for the parts of a day's sheet show, where the tables stand for a host.
use Rattle.pawn_book.specs.Sheet.{asked_item}
use Rattle.pawn_pledge.specs.Words.{is_open}
use Rattle.pawn_tables.proofs.Basics.{length-map, map-map, take-map}
use Rattle.pawn_tables.proofs.Counts.{count_of}
use Rattle.pawn_tables.proofs.NextLines.{items_are, told_above}
use Rattle.pawn_tables.proofs.OneEach.{counted_each, first_each, tell_of}
use Rattle.pawn_tables.proofs.RowsUnderKey.{equals}
use Rattle.pawn_tables.specs.At.{is_above, is_at}
use Rattle.pawn_tables.specs.Common.{get, cons_option, list_all, Row, column, Shown, State, PledgeValue, end_of}
use Rattle.pawn_tables.specs.Common.{Booking, BookingState, Closing, confirmed_count, is_asked, is_confirmed}
use Rattle.pawn_tables.specs.Common.{is_confirmed_for, Host, pledges_of, part_item, part_items, SheetPart, SheetItem}
use Rattle.pawn_tables.specs.Common.{Confirmed}
use Rattle.pawn_tables.specs.Heads.{number_cells}
use Rattle.pawn_tables.specs.Lines.{asked_cells, asked_line, confirmed_line, ends_line, item_of, line_cells}
use Rattle.pawn_tables.specs.Pages.{most_page_rows}
use Rattle.pawn_tables.specs.Rows.{booking_cells, closed_number, number, number_in_book, pledge_cells, state_number}
use Rattle.pawn_tables.specs.Rows.{under}
use Rattle.pawn_tables.specs.Schema.{bookings, bookings_tree, pledges, pledges_tree}
use Rattle.pawn_tables.specs.StandsFor.{StandsFor}
use Rattle.pawn_tables.specs.declared.line.Line.{Line}
use Rattle.std.proofs.Common.{◌≡◌, ◌==◌, ℕ, ◌+◌, List, [], ◌∷◌, map, filter, filter_map, take, length, nat_lt, Bool}
use Rattle.std.proofs.Common.{true, false, cond, ◌&&◌, Option, Some, None, refl, sym, ap, ◌∙◌, arith, option_map}
use Rattle.std.proofs.Math.Bool.{and-true, and_assoc}
use Rattle.std.proofs.lemmas.List.Recursion.{is_count_by}
use Rattle.pawn_pledge.specs.declared.record.BookingState.TheVariants as state_is
use Rattle.pawn_book.specs.declared.sheet.SheetPart.TheVariants as part_of
use Rattle.pawn_tables.proofs.ReadTexts as text
use Rattle.pawn_tables.proofs.BookReads as books

-- ---- the line of a pledge

-- the line of a pledge has its number
pub numbers_of : {X A : Type 0} (says : X → Bool) (make : ℕ → X → A) (line : A → Line) → ((n : ℕ) (x : X) → (line (make n x)).number ≡ n)
    → (n : ℕ) (o : Option X) (a : A) → tell_of says make n o ≡ Some a → (line a).number ≡ n
numbers_of says make line made n None a is = absurd (let e = is in cc)
numbers_of {X} {A} says make line made n (Some x) a is = go (says x) is where
  go : (c : Bool) → cond c (Some (make n x)) None ≡ Some a → (line a).number ≡ n
  go true is = let same : make n x ≡ a = (let e = is in cc) in sym (ap (λ (y : A). (line y).number) same) ∙ made n x
  go false is = absurd (let e = is in cc)

pick : {A : Type 0} (item : A → SheetItem) (c : Bool) (a : A) → cond c (Some (item a)) None ≡ option_map item (cond c (Some a) None)
pick item true a = refl
pick item false a = refl

pub all_kept : (ps : List PledgeValue) → filter (λ (p : PledgeValue). true) ps ≡ ps
all_kept [] = refl
all_kept (p ∷ ps) = ap (λ l. p ∷ l) (all_kept ps)

pub confirmed_state : (s : BookingState) → (state_number s == 1) ≡ is_confirmed s
confirmed_state state_is.Asked = refl
confirmed_state state_is.Confirmed = refl
confirmed_state state_is.Refused = refl
confirmed_state state_is.Cancelled = refl

asked_state : (s : BookingState) → (state_number s == 0) ≡ is_asked s
asked_state state_is.Asked = refl
asked_state state_is.Confirmed = refl
asked_state state_is.Refused = refl
asked_state state_is.Cancelled = refl

open_closing : (c : Closing) → (closed_number c == 0) ≡ is_open c
open_closing Closing.Open = refl
open_closing (Closing.Redeemed day paid) = refl
open_closing (Closing.Sold day net) = refl

abbrev pub booking_in : PledgeValue → Option Booking
booking_in p = p.standing.booking

-- ---- the parts, by their lines

abbrev pub is_confirmed_at : ℕ → ℕ → Booking → Bool
is_confirmed_at day window k = is_confirmed_for day window (Some k)

abbrev pub is_asked_at : ℕ → Booking → Bool
is_asked_at day k = (k.day == day) && is_asked k.state

abbrev pub is_ending : ℕ → PledgeValue → Bool
is_ending day p = is_open p.standing.closing && (end_of p == day)

abbrev pub confirmed_told : ℕ → ℕ → PledgeValue → Option ℕ
confirmed_told day window p = tell_of (is_confirmed_at day window) (λ n k. n) (number_in_book p) p.standing.booking

abbrev pub asked_told : ℕ → PledgeValue → Option (ℕ × ℕ)
asked_told day p = tell_of (is_asked_at day) (λ n (k : Booking). (n, k.window)) (number_in_book p) p.standing.booking

abbrev pub ends_told : ℕ → PledgeValue → Option ℕ
ends_told day p = tell_of (is_ending day) (λ n (x : PledgeValue). n) (number_in_book p) (Some p)

pub confirmed_says : (day window : ℕ) (p : PledgeValue)
    → part_item (part_of.Confirmed window) day p ≡ option_map (λ n. item_of (part_of.Confirmed window) (confirmed_line window n)) (confirmed_told day window p)
confirmed_says day window p = go p.standing.booking where
  go : (o : Option Booking) → cond (is_confirmed_for day window o) (Some (Confirmed (number_in_book p))) None ≡ option_map
      (λ n. item_of (part_of.Confirmed window) (confirmed_line window n)) (tell_of (is_confirmed_at day window) (λ n k. n) (number_in_book p) o)
  go None = refl
  go (Some k) = pick (λ n. item_of (part_of.Confirmed window) (confirmed_line window n)) (is_confirmed_at day window k) (number_in_book p)

pub asked_says : (day : ℕ) (p : PledgeValue) → part_item part_of.Asked day p ≡ option_map (λ a. item_of part_of.Asked (asked_line a)) (asked_told day p)
asked_says day p = go p.standing.booking where
  go : (o : Option Booking) → asked_item (number_in_book p) day o ≡ option_map (λ a. item_of part_of.Asked (asked_line a))
      (tell_of (is_asked_at day) (λ n (k : Booking). (n, k.window)) (number_in_book p) o)
  go None = refl
  go (Some k) = pick (λ a. item_of part_of.Asked (asked_line a)) (is_asked_at day k) (number_in_book p, k.window)

pub ends_says : (day : ℕ) (p : PledgeValue) → part_item part_of.Ends day p ≡ option_map (λ n. item_of part_of.Ends (ends_line n)) (ends_told day p)
ends_says day p = pick (λ n. item_of part_of.Ends (ends_line n)) (is_ending day p) (number_in_book p)

pub confirmed_numbers : (day window : ℕ) (p : PledgeValue) (a : ℕ) → confirmed_told day window p ≡ Some a → a ≡ number_in_book p
confirmed_numbers day window p =
    numbers_of (is_confirmed_at day window) (λ n (k : Booking). n) (confirmed_line window) (λ n k. refl) (number_in_book p) p.standing.booking

pub asked_numbers : (day : ℕ) (p : PledgeValue) (a : ℕ × ℕ) → asked_told day p ≡ Some a → a.0 ≡ number_in_book p
asked_numbers day p = numbers_of (is_asked_at day) (λ n (k : Booking). (n, k.window)) asked_line (λ n k. refl) (number_in_book p) p.standing.booking

pub ends_numbers : (day : ℕ) (p : PledgeValue) (a : ℕ) → ends_told day p ≡ Some a → a ≡ number_in_book p
ends_numbers day p = numbers_of (is_ending day) (λ n (x : PledgeValue). n) ends_line (λ n k. refl) (number_in_book p) (Some p)

-- ---- how many

-- the confirmed bookings are those that are counted
pub confirmed_items : (ps : List PledgeValue) (day window : ℕ) → confirmed_count ps day window ≡ length (part_items (part_of.Confirmed window) day ps)
confirmed_items ps day window =
    sym (is_count_by (λ qs. length (part_items (part_of.Confirmed window) day qs)) (λ p. is_confirmed_for day window p.standing.booking) refl
    (λ p qs. go (part_items (part_of.Confirmed window) day qs) (Confirmed (number_in_book p)) (is_confirmed_for day window p.standing.booking)) ps)
  where
    go : (items : List SheetItem) (i : SheetItem) (c : Bool) → length (cons_option (cond c (Some i) None) items) ≡ cond c (1 + length items) (length items)
    go items i true = omega arith
    go items i false = refl

-- the lines of all pledges are counted
lines_counted : {A : Type 0} (part : SheetPart) (day : ℕ) (tell : PledgeValue → Option A) (line : A → Line) → ((p : PledgeValue)
    → part_item part day p ≡ option_map (λ a. item_of part (line a)) (tell p))
    → ((p : PledgeValue) (a : A) → tell p ≡ Some a → (line a).number ≡ number_in_book p) → (ps : List PledgeValue)
    → length (filter_map tell (filter (λ (p : PledgeValue). true) ps)) ≡ length (part_items part day ps)
lines_counted part day tell line says numbers ps = ap (λ qs. length (filter_map tell qs)) (all_kept ps)
    ∙ sym (ap length (items_are part day tell line says numbers ps) ∙ length-map _ _)

abbrev at_asked : ℕ → ℕ → Row → Bool
at_asked b day v = list_all (λ (x : Bool). x) (is_at (column v 0) (number b) ∷ is_at (column v 2) (number day) ∷ is_at (column v 4) (number 0) ∷ [])

is_asked_in : (k : Booking) → (is_at (number (state_number k.state)) (number 0) && true) ≡ is_asked k.state
is_asked_in k = and-true _ ∙ equals (state_number k.state) 0 ∙ asked_state k.state

is_confirmed_in : (k : Booking) → (is_at (number (state_number k.state)) (number 1) && true) ≡ is_confirmed k.state
is_confirmed_in k = and-true _ ∙ equals (state_number k.state) 1 ∙ confirmed_state k.state

asked_passes : (b day m n : ℕ) (k : Booking) → at_asked b day (under m n (booking_cells k)) ≡ ((m == b) && (true && is_asked_at day k))
asked_passes b day m n k = λ i. equals m b i && (equals k.day day i && is_asked_in k i)

pub asked_shown : (b day : ℕ) (old new : State) (h : Host) (rows : List Row) → StandsFor old.now h → Shown text.COUNT_ASKED.now
    (number b ∷ number day ∷ []) old new rows → rows ≡ count_of (length (part_items part_of.Asked day (pledges_of (get h.books b)))) ∷ []
asked_shown b day old new h rows st shown =
    counted_each b booking_in booking_cells (at_asked b day) (λ n. true) (is_asked_at day) (λ n (k : Booking). (n, k.window)) (λ v. column v 1 ∷ [])
    (λ (a : ℕ × ℕ). number_cells a.0) (asked_passes b day) (λ m n k. refl)
    old new st.schema h (record bookings { tree = bookings_tree }) st.bookings (λ _. refl) text.asked_tests (number b ∷ number day ∷ [])
    (λ _. refl) text.COUNT_ASKED.now _ rows ((text.texts st.schema.more).asked_is) shown
    ∙ ap (λ n. count_of n ∷ []) (lines_counted part_of.Asked day (asked_told day) asked_line (asked_says day) (asked_numbers day) (pledges_of (get h.books b)))

abbrev at_slot : ℕ → ℕ → ℕ → Row → Bool
at_slot b day window v = list_all (λ (x : Bool). x)
    (is_at (column v 0) (number b) ∷ is_at (column v 2) (number day) ∷ is_at (column v 3) (number window) ∷ is_at (column v 4) (number 1) ∷ [])

slot_passes : (b day window m n : ℕ) (k : Booking) → at_slot b day window (under m n (booking_cells k)) ≡ ((m == b) && (true && is_confirmed_at day window k))
slot_passes b day window m n k = (λ i. equals m b i && (equals k.day day i && (equals k.window window i && is_confirmed_in k i)))
    ∙ ap (λ c. (m == b) && c) (sym (and_assoc (k.day == day) (k.window == window) (is_confirmed k.state)))

pub confirmed_shown : (b day window : ℕ) (old new : State) (h : Host) (rows : List Row) → StandsFor old.now h → Shown text.COUNT_CONFIRMED.now
    (number b ∷ number day ∷ number window ∷ []) old new rows → rows ≡ count_of (confirmed_count (pledges_of (get h.books b)) day window) ∷ []
confirmed_shown b day window old new h rows st shown =
    counted_each b booking_in booking_cells (at_slot b day window) (λ n. true) (is_confirmed_at day window) (λ n (k : Booking). n)
    (λ v. column v 1 ∷ []) number_cells (slot_passes b day window) (λ m n k. refl)
    old new st.schema h (record bookings { tree = bookings_tree }) st.bookings (λ _. refl) text.confirmed_tests (number b ∷ number day ∷ number window ∷ [])
    (λ _. refl) text.COUNT_CONFIRMED.now _ rows ((text.texts st.schema.more).confirmed_is) shown
    ∙ ap (λ n. count_of n ∷ []) (lines_counted (part_of.Confirmed window) day (confirmed_told day window) (confirmed_line window) (confirmed_says day window)
    (confirmed_numbers day window) (pledges_of (get h.books b)) ∙ sym (confirmed_items (pledges_of (get h.books b)) day window))

abbrev at_end : ℕ → ℕ → Row → Bool
at_end b day v = list_all (λ (x : Bool). x) (is_at (column v 0) (number b) ∷ is_at (column v 13) (number 0) ∷ is_at (column v 10) (number day) ∷ [])

is_ending_in : (day : ℕ) (p : PledgeValue)
    → (is_at (number (closed_number p.standing.closing)) (number 0) && (is_at (number (end_of p)) (number day) && true)) ≡ is_ending day p
is_ending_in day p = λ i. (equals (closed_number p.standing.closing) 0 ∙ open_closing p.standing.closing) i
    && (and-true (is_at (number (end_of p)) (number day)) ∙ equals (end_of p) day) i

ends_passes : (b day m n : ℕ) (p : PledgeValue) → at_end b day (under m n (pledge_cells p)) ≡ ((m == b) && (true && is_ending day p))
ends_passes b day m n p = λ i. equals m b i && is_ending_in day p i

pub ends_shown : (b day : ℕ) (old new : State) (h : Host) (rows : List Row) → StandsFor old.now h → Shown text.COUNT_ENDS.now
    (number b ∷ number day ∷ []) old new rows → rows ≡ count_of (length (part_items part_of.Ends day (pledges_of (get h.books b)))) ∷ []
ends_shown b day old new h rows st shown =
    counted_each b (λ (p : PledgeValue). Some p) pledge_cells (at_end b day) (λ n. true) (is_ending day) (λ n (x : PledgeValue). n)
    (λ v. column v 1 ∷ []) number_cells (ends_passes b day) (λ m n p. refl)
    old new st.schema h (record pledges { tree = pledges_tree }) st.pledges (λ _. refl) text.ends_tests (number b ∷ number day ∷ [])
    (λ _. refl) text.COUNT_ENDS.now _ rows ((text.texts st.schema.more).ends_is) shown
    ∙ ap (λ n. count_of n ∷ []) (lines_counted part_of.Ends day (ends_told day) ends_line (ends_says day) (ends_numbers day) (pledges_of (get h.books b)))

-- ---- a page

-- the rows of the first lines
lines_told : {A : Type 0} (part : SheetPart) (line : A → Line) (as' : List A)
    → take most_page_rows (map (λ a. line_cells part (line a)) as') ≡ map (line_cells part) (take most_page_rows (map line as'))
lines_told part line as' = ap (take most_page_rows) (sym (map-map (line_cells part) line as')) ∙ take-map (line_cells part) most_page_rows (map line as')

abbrev at_confirmed_page : ℕ → ℕ → ℕ → ℕ → Row → Bool
at_confirmed_page b above day window v = list_all (λ (x : Bool). x) (is_at (column v 0) (number b) ∷ is_above (column v 1) (number above)
    ∷ is_at (column v 2) (number day) ∷ is_at (column v 3) (number window) ∷ is_at (column v 4) (number 1) ∷ [])

confirmed_page_passes : (b above day window m n : ℕ) (k : Booking)
    → at_confirmed_page b above day window (under m n (booking_cells k)) ≡ ((m == b) && (nat_lt above n && is_confirmed_at day window k))
confirmed_page_passes b above day window m n k =
    (λ i. equals m b i && (books.above n above i && (equals k.day day i && (equals k.window window i && is_confirmed_in k i))))
    ∙ ap (λ c. (m == b) && (nat_lt above n && c)) (sym (and_assoc (k.day == day) (k.window == window) (is_confirmed k.state)))

pub confirmed_page_shown : (b above day window : ℕ) (old new : State) (h : Host) (rows : List Row) → StandsFor old.now h → Shown text.READ_CONFIRMED_PAGE.now
    (number b ∷ number above ∷ number day ∷ number window ∷ []) old new rows → rows ≡ map (line_cells (part_of.Confirmed window))
    (take most_page_rows (map (confirmed_line window) (told_above (confirmed_told day window) above (pledges_of (get h.books b)))))
confirmed_page_shown b above day window old new h rows st shown =
    first_each b booking_in booking_cells (at_confirmed_page b above day window) (nat_lt above) (is_confirmed_at day window) (λ n (k : Booking). n)
    (λ v. column v 1 ∷ []) number_cells (confirmed_page_passes b above day window) (λ m n k. refl)
    old new st.schema h (record bookings { tree = bookings_tree }) st.bookings (λ _. refl) text.confirmed_page_tests
    (number b ∷ number above ∷ number day ∷ number window ∷ []) (λ _. refl) text.READ_CONFIRMED_PAGE.now _ rows
    most_page_rows text.one_shown (λ _. refl) (λ _. refl) st.ordered ((text.texts st.schema.more).confirmed_page_is) shown
    ∙ lines_told (part_of.Confirmed window) (confirmed_line window) (told_above (confirmed_told day window) above (pledges_of (get h.books b)))

abbrev at_asked_page : ℕ → ℕ → ℕ → Row → Bool
at_asked_page b above day v = list_all (λ (x : Bool). x)
    (is_at (column v 0) (number b) ∷ is_above (column v 1) (number above) ∷ is_at (column v 2) (number day) ∷ is_at (column v 4) (number 0) ∷ [])

asked_page_passes : (b above day m n : ℕ) (k : Booking)
    → at_asked_page b above day (under m n (booking_cells k)) ≡ ((m == b) && (nat_lt above n && is_asked_at day k))
asked_page_passes b above day m n k = λ i. equals m b i && (books.above n above i && (equals k.day day i && is_asked_in k i))

pub asked_page_shown : (b above day : ℕ) (old new : State) (h : Host) (rows : List Row) → StandsFor old.now h
    → Shown text.READ_ASKED_PAGE.now (number b ∷ number above ∷ number day ∷ []) old new rows
    → rows ≡ map (line_cells part_of.Asked) (take most_page_rows (map asked_line (told_above (asked_told day) above (pledges_of (get h.books b)))))
asked_page_shown b above day old new h rows st shown =
    first_each b booking_in booking_cells (at_asked_page b above day) (nat_lt above) (is_asked_at day) (λ n (k : Booking). (n, k.window))
    (λ v. column v 1 ∷ column v 3 ∷ []) asked_cells (asked_page_passes b above day) (λ m n k. refl)
    old new st.schema h (record bookings { tree = bookings_tree }) st.bookings (λ _. refl) text.asked_page_tests (number b ∷ number above ∷ number day ∷ [])
    (λ _. refl) text.READ_ASKED_PAGE.now _ rows
    most_page_rows text.asked_page_shows (λ _. refl) (λ _. refl) st.ordered ((text.texts st.schema.more).asked_page_is) shown
    ∙ lines_told part_of.Asked asked_line (told_above (asked_told day) above (pledges_of (get h.books b)))

abbrev at_ends_page : ℕ → ℕ → ℕ → Row → Bool
at_ends_page b above day v = list_all (λ (x : Bool). x)
    (is_at (column v 0) (number b) ∷ is_above (column v 1) (number above) ∷ is_at (column v 13) (number 0) ∷ is_at (column v 10) (number day) ∷ [])

ends_page_passes : (b above day m n : ℕ) (p : PledgeValue)
    → at_ends_page b above day (under m n (pledge_cells p)) ≡ ((m == b) && (nat_lt above n && is_ending day p))
ends_page_passes b above day m n p = λ i. equals m b i && (books.above n above i && is_ending_in day p i)

pub ends_page_shown : (b above day : ℕ) (old new : State) (h : Host) (rows : List Row) → StandsFor old.now h
    → Shown text.READ_ENDS_PAGE.now (number b ∷ number above ∷ number day ∷ []) old new rows
    → rows ≡ map (line_cells part_of.Ends) (take most_page_rows (map ends_line (told_above (ends_told day) above (pledges_of (get h.books b)))))
ends_page_shown b above day old new h rows st shown =
    first_each b (λ (p : PledgeValue). Some p) pledge_cells (at_ends_page b above day) (nat_lt above) (is_ending day) (λ n (x : PledgeValue). n)
    (λ v. column v 1 ∷ []) number_cells (ends_page_passes b above day) (λ m n p. refl)
    old new st.schema h (record pledges { tree = pledges_tree }) st.pledges (λ _. refl) text.ends_page_tests (number b ∷ number above ∷ number day ∷ [])
    (λ _. refl) text.READ_ENDS_PAGE.now _ rows
    most_page_rows text.one_shown (λ _. refl) (λ _. refl) st.ordered ((text.texts st.schema.more).ends_page_is) shown
    ∙ lines_told part_of.Ends ends_line (told_above (ends_told day) above (pledges_of (get h.books b)))
