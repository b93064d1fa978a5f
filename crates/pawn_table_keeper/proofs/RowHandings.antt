-- The rows of pledges, passed kind by kind, pledge by pledge and range by range.
use Rattle.pawn_book.proofs.Places.{pledge_at}
use Rattle.pawn_book.proofs.Reading.{reads_as, reads_then}
use Rattle.pawn_book.proofs.SheetLemmas.{hands_one, hands_stop, hands_then as all_then}
use Rattle.pawn_book.specs.BookStep.{book_head}
use Rattle.pawn_book.specs.Items.{booking_items, extension_items, item_number, rows_of_pledges, secret_items}
use Rattle.pawn_book.specs.declared.change.BookHead.{BookHead}
use Rattle.pawn_book.specs.declared.items.RowItem.{RowItem}
use Rattle.pawn_debt.specs.Limits.{most_entries}
use Rattle.pawn_pledge.specs.Replayable.{IsReachable}
use Rattle.pawn_table_keeper.proofs.Handings.{hands_as, hands_ended, hands_then}
use Rattle.pawn_table_keeper.proofs.TooMany.{too_many}
use Rattle.pawn_table_keeper.specs.Common.{NoRecord}
use Rattle.pawn_table_keeper.specs.Common.{BookValue, Flow, Go, HandsOver, Host, IsShare, IsUnsoundAt, KeepError}
use Rattle.pawn_table_keeper.specs.Common.{Keeping, PledgeValue, Reads, Stop, call_end, flat_map, get, pledge_in, pledges_of}
use Rattle.pawn_table_keeper.specs.Exports.{AddsKind, AreKindPages, number_rows, numbers_from, pledge_rows_if_any, page_or_book_rows}
use Rattle.pawn_table_keeper.specs.Handing.{HandsRows, flow_of}
use Rattle.pawn_pledge.specs.declared.record.Booking.{Booking}
use Rattle.pawn_tables.proofs.Basics.{filter-append, length-map, map-append, nat_tests}
use Rattle.sqlite_trees.proofs.ListLemmas.{all-append}
use Rattle.pawn_tables.specs.Kinds.{IsKindPage, own_items, kind_rows, row_kinds, kind_rows_if_any}
use Rattle.pawn_tables.specs.declared.kinds.RowKind.{RowKind}
use Rattle.pawn_tables.specs.declared.ranges.KindPage.{KindPage}
use Rattle.pawn_base.specs.Lists.{Each}
use Rattle.std.proofs.Common.{◌≡◌, ◌∙◌, ◌++◌, ◌==◌, ◌+◌, ◌-◌, ◌*◌, ◌<◌, ◌≤◌, ℕ, zero, suc, List, [], ◌∷◌, length, map, take, drop}
use Rattle.std.proofs.Common.{get_or, slice_get, Bool, true, false, cond, Option, Some, None, Result, Ok, Err, refl, sym, ap, subst}
use Rattle.std.proofs.Common.{IfOk, append_assoc, option_map, append-nil, arith, nat_le, take-append-drop}
use Rattle.std.proofs.Math.Seq.{drop-nil}
use Rattle.std.proofs.lemmas.Grind.{flat_map-append}
use Rattle.std.proofs.lemmas.List.{take_more}
use Rattle.pawn_book.specs.declared.fault.KeepError.TheVariants as Keeper

-- ---- handing on

module _ {K V T : Type 0} (k : Keeping K) (step : V → T → Flow → V → Type 0) where
  -- the same rows, by what was read before
  pub hands_by : {IsUnsound : Host → Type 0} {P : Host → Type 0} (a b : K) (v w : V) (r : Result Flow KeepError) (xs ys : Host → List T) → Reads k a b P
      → ((h : Host) → P h → xs h ≡ ys h) → HandsRows k IsUnsound step a b v w r xs → HandsRows k IsUnsound step a b v w r ys
  hands_by a b v w r xs ys read same hands = record {
    given = hands.given;
    handed = hands.handed;
    reads = reads_as (reads_both_here hands.reads read) (λ h both. subst (IsShare hands.given (flow_of r) (call_end r)) (same h both.1) both.0);
    errs = hands.errs;
  } where
    reads_both_here : {Q R : Host → Type 0} → Reads k a b Q → Reads k a b R → Reads k a b (λ h. Q h × R h)
    reads_both_here q r = record {
      on = q.on;
      same = q.same;
      back = q.back;
      states = λ honest h at. (q.states honest h at, r.states honest h at);
      crash = q.crash;
    }

  -- one list and then another, of which it is known since earlier what it is
  pub hands_then_by : {IsUnsound : Host → Type 0} {P : Host → Type 0} (a b c : K) (v u w : V) (r : Result Flow KeepError) (xs ys zs : Host → List T)
      → Reads k a b P → ((h : Host) → P h → ys h ≡ zs h) → HandsRows k IsUnsound step a b v u (Ok Go) xs → HandsRows k IsUnsound step b c u w r ys
      → HandsRows k IsUnsound step a c v w r (λ h. xs h ++ zs h)
  hands_then_by a b c v u w r xs ys zs read same first then =
      hands_by a c v w r (λ h. xs h ++ ys h) (λ h. xs h ++ zs h) (reads_then read then.reads (λ h p share. p)) (λ h p. ap (λ l. xs h ++ l) (same h p))
      (hands_then k step a b c v u w r xs ys first then)

  -- ---- element by element

  module _ {IsUnsound : Host → Type 0} {A : Type 0} (f : Host → A → List T) (xs : List A) (a b c : K) (v u w : V) (i : ℕ) (x : A) (lt : i < length xs)
      (is : x ≡ get_or xs i x) (before : HandsRows k IsUnsound step a b v u (Ok Go) (λ h. flat_map (f h) (take i xs))) where
    one_more : (h : Host) → flat_map (f h) (take i xs) ++ f h x ≡ flat_map (f h) (take (i + 1) xs)
    one_more h = ap (λ y. flat_map (f h) (take i xs) ++ f h y) is ∙ ap (λ l. flat_map (f h) (take i xs) ++ l) (sym (append-nil (f h (get_or xs i x))))
        ∙ sym (flat_map-append (f h) (take i xs) (get_or xs i x ∷ [])) ∙ ap (flat_map (f h)) (sym (take_more xs i x lt))

    -- it goes on
    pub each_go : HandsRows k IsUnsound step b c u w (Ok Go) (λ h. f h x)
        → HandsRows k IsUnsound step a c v w (Ok Go) (λ h. flat_map (f h) (take (i + 1) xs))
    each_go here = hands_as k step a c v w (Ok Go) (λ h. flat_map (f h) (take i xs) ++ f h x) (λ h. flat_map (f h) (take (i + 1) xs)) one_more
        (hands_then k step a b c v u w (Ok Go) (λ h. flat_map (f h) (take i xs)) (λ h. f h x) before here)

    -- it stops here, or the call fails
    pub each_end : (r s : Result Flow KeepError) → (r ≡ Ok Go → ⊥) → s ≡ r → HandsRows k IsUnsound step b c u w r (λ h. f h x)
        → HandsRows k IsUnsound step a c v w s (λ h. flat_map (f h) xs)
    each_end r s ended same here = hands_as k step a c v w s (λ h. (flat_map (f h) (take i xs) ++ f h x) ++ flat_map (f h) (drop (i + 1) xs))
        (λ h. flat_map (f h) xs) (λ h. ap (λ l. l ++ flat_map (f h) (drop (i + 1) xs)) (one_more h)
        ∙ sym (flat_map-append (f h) (take (i + 1) xs) (drop (i + 1) xs)) ∙ ap (flat_map (f h)) (take-append-drop (i + 1) xs))
        (hands_ended k step a c v w r s (λ h. flat_map (f h) (take i xs) ++ f h x) (λ h. flat_map (f h) (drop (i + 1) xs)) ended same
        (hands_then k step a b c v u w r (λ h. flat_map (f h) (take i xs)) (λ h. f h x) before here))

-- ---- the rows that pages tell

module _ (above n : ℕ) (book : Option BookValue) (low : above < n) where
  page_told : (page : KindPage) → IsKindPage above book page → page_or_book_rows n book page ≡ kind_rows_if_any page.kind (pledge_in book n)
  page_told page is = go (nat_le n page.whole) refl where
    go : (c : Bool) → nat_le n page.whole ≡ c → cond c (own_items n page.items.items) (kind_rows_if_any page.kind (pledge_in book n))
        ≡ kind_rows_if_any page.kind (pledge_in book n)
    go true within = is n low (grind (arith, nat_tests, within))
    go false past = refl

  pages_told : (pages : List KindPage) → Each (IsKindPage above book) pages
      → flat_map (page_or_book_rows n book) pages ≡ flat_map (λ kind. kind_rows_if_any kind (pledge_in book n)) (map (λ (p : KindPage). p.kind) pages)
  pages_told [] all = refl
  pages_told (page ∷ pages) all = λ i. page_told page all.0 i ++ pages_told pages all.1 i

  kinds_told : (o : Option PledgeValue) → flat_map (λ kind. kind_rows_if_any kind o) row_kinds ≡ pledge_rows_if_any o
  kinds_told None = refl
  kinds_told (Some p) = ap (λ l. kind_rows RowKind.Pledge p ++ (kind_rows RowKind.Secret p ++ (kind_rows RowKind.Entry p ++ (kind_rows RowKind.Extension p ++
      l))))
      (append-nil (kind_rows RowKind.Booking p))

  pub pledge_told : (pages : List KindPage) → AreKindPages row_kinds above book pages → flat_map (page_or_book_rows n book) pages ≡ number_rows book n
  pledge_told pages are = pages_told pages are.each ∙ ap (flat_map (λ kind. kind_rows_if_any kind (pledge_in book n))) are.kinds_are
      ∙ kinds_told (pledge_in book n)

-- ---- the rows of a range of numbers

pub numbers_more : (a n : ℕ) → numbers_from a (n + 1) ≡ numbers_from a n ++ (a + (n + 1)) ∷ []
numbers_more a zero = refl
numbers_more a (suc n) = let next : suc n + 1 ≡ suc (n + 1) = omega arith in let moved : a + 1 + (n + 1) ≡ a + (suc n + 1) = omega arith in
    ap (numbers_from a) next ∙ ap (λ l. (a + 1) ∷ l) (numbers_more (a + 1) n ∙ ap (λ m. numbers_from (a + 1) n ++ m ∷ []) moved)

pub numbers_append : (a n m : ℕ) → numbers_from a (n + m) ≡ numbers_from a n ++ numbers_from (a + n) m
numbers_append a zero m = let same : zero + m ≡ m = omega arith in let from : a ≡ a + zero = omega arith in
    ap (numbers_from a) same ∙ ap (λ b. numbers_from b m) from
numbers_append a (suc n) m = let next : suc n + m ≡ suc (n + m) = omega arith in let moved : a + 1 + n ≡ a + suc n = omega arith in
    ap (numbers_from a) next ∙ ap (λ l. (a + 1) ∷ l) (numbers_append (a + 1) n m ∙ ap (λ b. numbers_from (a + 1) n ++ numbers_from b m) moved)

-- the rows past so many pledges
abbrev pub rows_past : Option BookValue → ℕ → List RowItem
rows_past book a = rows_of_pledges (drop a (pledges_of book))

past_one : (ps : List PledgeValue) (a : ℕ) → rows_of_pledges (drop a ps) ≡ pledge_rows_if_any (slice_get ps a) ++ rows_of_pledges (drop (a + 1) ps)
past_one [] zero = refl
past_one [] (suc a) = ap rows_of_pledges (sym (drop-nil (suc a + 1)))
past_one (p ∷ ps) zero = refl
past_one (p ∷ ps) (suc a) = let next : suc a + 1 ≡ suc (a + 1) = omega arith in
    past_one ps a ∙ ap (λ k. pledge_rows_if_any (slice_get ps a) ++ rows_of_pledges (drop k (p ∷ ps))) (sym next)

pub past_range : (book : Option BookValue) (a n : ℕ) → rows_past book a ≡ flat_map (number_rows book) (numbers_from a n) ++ rows_past book (a + n)
past_range book a zero = let same : a ≡ a + zero = omega arith in ap (rows_past book) same
past_range book a (suc n) = let moved : a + 1 + n ≡ a + suc n = omega arith in
    past_one (pledges_of book) a ∙ ap (λ o. pledge_rows_if_any o ++ rows_past book (a + 1)) (sym (pledge_at book a (a + 1) refl))
    ∙ ap (λ l. number_rows book (a + 1) ++ l) (past_range book (a + 1) n
    ∙ ap (λ b. flat_map (number_rows book) (numbers_from (a + 1) n) ++ rows_past book b) moved)
    ∙ sym (append_assoc (number_rows book (a + 1)) (flat_map (number_rows book) (numbers_from (a + 1) n)) (rows_past book (a + suc n)))

-- nothing is past all of them
pub past_all : (ps : List PledgeValue) (a : ℕ) → length ps ≤ a → rows_of_pledges (drop a ps) ≡ []
past_all [] zero le = refl
past_all [] (suc a) le = refl
past_all (p ∷ ps) zero le = absurd (omega (arith, le))
past_all (p ∷ ps) (suc a) le = past_all ps a (omega (arith, le))

-- ---- lists that are too long

secrets_many : (n at : ℕ) (is : List _) → length (secret_items n at is) ≡ length is
secrets_many n at [] = refl
secrets_many n at (i ∷ is) = ap suc (secrets_many n (at + 1) is)

extensions_many : (n at : ℕ) (es : List _) → length (extension_items n at es) ≡ length es
extensions_many n at [] = refl
extensions_many n at (e ∷ es) = ap suc (extensions_many n (at + 1) es)

few_rows : (kind : RowKind) (p : PledgeValue) → IsReachable p → length (kind_rows kind p) ≤ most_entries
few_rows RowKind.Pledge p reachable = omega arith
few_rows RowKind.Secret p reachable = let same = secrets_many p.agreement.number 1 p.secrets in let few = reachable.within.secrets in omega (arith, same, few)
few_rows RowKind.Entry p reachable = let same = length-map p.entries (RowItem.Entry p.agreement.number) in let few = reachable.within.entries in
    omega (arith, same, few)
few_rows RowKind.Extension p reachable =
    let same = extensions_many p.agreement.number 1 p.extensions in let few = reachable.within.extensions in omega (arith, same, few)
few_rows RowKind.Booking p reachable = booked p.standing.booking where
  booked : (o : Option Booking) → length (booking_items p.agreement.number o) ≤ most_entries
  booked None = omega arith
  booked (Some k) = omega arith

pub too_many_rows : (kind : RowKind) (h : Host) (b n : ℕ) → most_entries < length (kind_rows_if_any kind (pledge_in (get h.books b) n)) → IsUnsoundAt b h
too_many_rows kind = too_many (kind_rows_if_any kind) most_entries refl (few_rows kind)

-- ---- the rows of one pledge among those of a page

module _ {V : Type 0} (step : V → RowItem → Flow → V → Type 0) (n : ℕ) (xs : List RowItem) (i : ℕ) (x : RowItem) (lt : i < length xs)
    (is : x ≡ get_or xs i x) where
  taken : (c : Bool) → (item_number x == n) ≡ c → own_items n (take (i + 1) xs) ≡ own_items n (take i xs) ++ cond c (x ∷ []) []
  taken c of = ap (own_items n) (take_more xs i x lt) ∙ filter-append (λ j. item_number j == n) (take i xs) (get_or xs i x ∷ [])
      ∙ ap (λ y. own_items n (take i xs) ++ own_items n (y ∷ [])) (sym is) ∙ ap (λ d. own_items n (take i xs) ++ cond d (x ∷ []) []) of

  module _ (v u w : V) (before : HandsOver step v (own_items n (take i xs)) Go u) where
    pub item_goes : item_number x ≡ n → step u x Go w → HandsOver step v (own_items n (take (i + 1) xs)) Go w
    item_goes of here = let own : (item_number x == n) ≡ true = grind (arith, nat_tests, of) in
        subst (λ ys. HandsOver step v ys Go w) (sym (taken true own)) (all_then step v u w (own_items n (take i xs)) (x ∷ []) Go before (hands_one step u w x
        Go here))

    pub item_stops : item_number x ≡ n → step u x Stop w → HandsOver step v (own_items n xs) Stop w
    item_stops of here = let own : (item_number x == n) ≡ true = grind (arith, nat_tests, of) in
        subst (λ ys. HandsOver step v ys Stop w) (ap (λ l. l ++ own_items n (drop (i + 1) xs)) (sym (taken true own))
        ∙ sym (filter-append (λ j. item_number j == n) (take (i + 1) xs) (drop (i + 1) xs)) ∙ ap (own_items n) (take-append-drop (i + 1) xs))
        (hands_stop step v w (own_items n (take i xs) ++ x ∷ []) (own_items n (drop (i + 1) xs))
        (all_then step v u w (own_items n (take i xs)) (x ∷ []) Stop before (hands_one step u w x Stop here)))

    pub item_skips : (item_number x ≡ n → ⊥) → HandsOver step v (own_items n (take (i + 1) xs)) Go u
    item_skips apart = let other : (item_number x == n) ≡ false = grind (arith, nat_tests, apart) in
        subst (λ ys. HandsOver step v ys Go u) (sym (taken false other ∙ append-nil (own_items n (take i xs)))) before

-- ---- the pages of all kinds

-- a read that fails states nothing of a value
pub reads_err : {K A : Type 0} (k : Keeping K) (a b : K) (r : Result A KeepError) (e : KeepError) (P : Host → A → Type 0) → r ≡ Err e → Reads k a b (λ h. Unit
    {0})
    → Reads k a b (λ h. IfOk r (P h))
reads_err k a b r e P is read = subst (λ s. Reads k a b (λ h. IfOk s (P h))) (sym is) read

-- an element within the list is the same by any default
same_at : {A : Type 0} (xs : List A) (i : ℕ) (d e : A) → i < length xs → get_or xs i d ≡ get_or xs i e
same_at [] i d e lt = absurd (omega (arith, lt))
same_at (x ∷ xs) zero d e lt = refl
same_at (x ∷ xs) (suc i) d e lt = same_at xs i d e (omega (arith, lt))

-- a page of one more kind
pub kind_added : (above : ℕ) (book : Option BookValue) (old new : List KindPage) (kinds : List RowKind) (i : ℕ) (d : RowKind) → i < length kinds
    → (map (λ (p : KindPage). p.kind) old ≡ take i kinds) × Each (IsKindPage above book) old → AddsKind (get_or kinds i d) above book old new
    → (map (λ (p : KindPage). p.kind) new ≡ take (i + 1) kinds) × Each (IsKindPage above book) new
kind_added above book old new kinds i d lt before one = (
  ap (map (λ (p : KindPage). p.kind)) one.added ∙ map-append (λ (p : KindPage). p.kind) old (one.page ∷ [])
      ∙ (λ j. before.0 j ++ (one.kind_is ∙ same_at kinds i d RowKind.Pledge lt) j ∷ []) ∙ sym (take_more kinds i RowKind.Pledge lt),
  subst (Each (IsKindPage above book)) (sym one.added) (all-append (IsKindPage above book) old (one.page ∷ []) before.1 (one.is, tt)),
)

-- ---- number by number

module _ {K V : Type 0} (k : Keeping K) (step : V → RowItem → Flow → V → Type 0) {IsUnsound : Host → Type 0} (book : Host → Option BookValue) (above n : ℕ)
    (pages : List KindPage) (a b c : K) (v u w : V) (read : Reads k a b (λ h. AreKindPages row_kinds above (book h) pages))
    (before : HandsRows k IsUnsound step a b v u (Ok Go) (λ h. flat_map (number_rows (book h)) (numbers_from above n))) where
  abbrev upto : ℕ → Host → List RowItem
  upto m h = flat_map (number_rows (book h)) (numbers_from above m)

  more : (h : Host) → upto n h ++ number_rows (book h) (above + (n + 1)) ≡ upto (n + 1) h
  more h = ap (λ l. upto n h ++ l) (sym (append-nil (number_rows (book h) (above + (n + 1)))))
      ∙ sym (flat_map-append (number_rows (book h)) (numbers_from above n) ((above + (n + 1)) ∷ []))
      ∙ ap (flat_map (number_rows (book h))) (sym (numbers_more above n))

  one : (r : Result Flow KeepError) → HandsRows k IsUnsound step b c u w r (λ h. flat_map (page_or_book_rows (above + (n + 1)) (book h)) pages)
      → HandsRows k IsUnsound step a c v w r (λ h. upto n h ++ number_rows (book h) (above + (n + 1)))
  one r here = hands_then_by k step a b c v u w r (upto n) (λ h. flat_map (page_or_book_rows (above + (n + 1)) (book h)) pages)
      (λ h. number_rows (book h) (above + (n + 1))) read (λ h are. pledge_told above (above + (n + 1)) (book h) (omega arith) pages are) before here

  pub range_go : HandsRows k IsUnsound step b c u w (Ok Go) (λ h. flat_map (page_or_book_rows (above + (n + 1)) (book h)) pages)
      → HandsRows k IsUnsound step a c v w (Ok Go) (upto (n + 1))
  range_go here = hands_as k step a c v w (Ok Go) (λ h. upto n h ++ number_rows (book h) (above + (n + 1))) (upto (n + 1)) more (one (Ok Go) here)

  -- it stops, or the call fails
  pub range_end : (m : ℕ) (r s : Result Flow KeepError) → n + 1 ≤ m → (r ≡ Ok Go → ⊥) → s ≡ r
      → HandsRows k IsUnsound step b c u w r (λ h. flat_map (page_or_book_rows (above + (n + 1)) (book h)) pages)
      → HandsRows k IsUnsound step a c v w s (upto m)
  range_end m r s few ended same here = let left : (n + 1) + (m - (n + 1)) ≡ m = omega (arith, few) in
      let rest : Host → List RowItem = λ h. flat_map (number_rows (book h)) (numbers_from (above + (n + 1)) (m - (n + 1))) in
      hands_as k step a c v w s (λ h. (upto n h ++ number_rows (book h) (above + (n + 1))) ++ rest h) (upto m) (λ h. ap (λ l. l ++ rest h) (more h)
      ∙ sym (flat_map-append (number_rows (book h)) (numbers_from above (n + 1)) (numbers_from (above + (n + 1)) (m - (n + 1))))
      ∙ ap (flat_map (number_rows (book h))) (sym (numbers_append above (n + 1) (m - (n + 1)))) ∙ ap (λ j. upto j h) left)
      (hands_ended k step a c v w r s (λ h. upto n h ++ number_rows (book h) (above + (n + 1))) rest ended same (one r here))

-- the call fails before the next number
pub range_cut : {K V : Type 0} (k : Keeping K) (step : V → RowItem → Flow → V → Type 0) {IsUnsound : Host → Type 0} (book : Host → Option BookValue)
    (above n : ℕ) (a b : K) (v u : V) (m : ℕ) → n ≤ m
    → HandsRows k IsUnsound step a b v u (Ok Go) (λ h. flat_map (number_rows (book h)) (numbers_from above n)) → (s : Result Flow KeepError) (e : KeepError)
    → s ≡ Err e → (e ≡ Keeper.Store NoRecord → ⊥) → (k.steady a → ⊥)
    → HandsRows k IsUnsound step a b v u s (λ h. flat_map (number_rows (book h)) (numbers_from above m))
range_cut k step {IsUnsound} book above n a b v u m few before s e is other may =
    let left : n + (m - n) ≡ m = omega (arith, few) in
    let rest : Host → List RowItem = λ h. flat_map (number_rows (book h)) (numbers_from (above + n) (m - n)) in
    subst (λ t. HandsRows k IsUnsound step a b v u t (λ h. flat_map (number_rows (book h)) (numbers_from above m))) (sym is) (record {
      given = before.given;
      handed = before.handed;
      reads = reads_as before.reads (λ h share. (
        share.0 ++ rest h,
        sym (append_assoc before.given share.0 (rest h)) ∙ ap (λ t. t ++ rest h) share.1
            ∙ sym (flat_map-append (number_rows (book h)) (numbers_from above n) (numbers_from (above + n) (m - n)))
            ∙ ap (flat_map (number_rows (book h))) (sym (numbers_append above n (m - n)) ∙ ap (numbers_from above) left),
        λ go whole. cc whole,
      ));
      errs = record {
        never = λ steady. absurd (may steady);
        no_record = λ bad. absurd (other (let x = bad in cc));
      };
    })

-- ---- range by range

-- a book's head has the number of its pledges
pub head_count : (o : Option BookValue) (head : BookHead) → Some head ≡ option_map book_head o → head.pledges ≡ length (pledges_of o)
head_count None head said = absurd (let e = said in cc)
head_count (Some k) head said = let same : head ≡ book_head k = (let e = said in cc) in ap (λ (x : BookHead). x.pledges) same

-- without a book there are no rows
pub no_rows : (o : Option BookValue) → None ≡ option_map book_head o → rows_of_pledges (pledges_of o) ≡ []
no_rows None said = refl
no_rows (Some k) said = absurd (let e = said in cc)

-- past the page's end the rows are those of the book
pub told_past : (n : ℕ) (book : Option BookValue) (page : KindPage) → nat_le n page.whole ≡ false
    → kind_rows_if_any page.kind (pledge_in book n) ≡ page_or_book_rows n book page
told_past n book page past = sym (ap (λ c. cond c (own_items n page.items.items) (kind_rows_if_any page.kind (pledge_in book n))) past)

module _ {K V : Type 0} (k : Keeping K) (step : V → RowItem → Flow → V → Type 0) {IsUnsound : Host → Type 0} (book : Host → Option BookValue) (n : ℕ) (a b : K)
    (v u : V) (before : HandsRows k IsUnsound step a b v u (Ok Go) (λ h. flat_map (number_rows (book h)) (numbers_from 0 (n * 32)))) where
  abbrev all_to : ℕ → Host → List RowItem
  all_to m h = flat_map (number_rows (book h)) (numbers_from 0 m)

  abbrev range_of : Host → List RowItem
  range_of h = flat_map (number_rows (book h)) (numbers_from (n * 32) 32)

  one_range : (h : Host) → all_to (n * 32) h ++ range_of h ≡ all_to ((n + 1) * 32) h
  one_range h = let next : n * 32 + 32 ≡ (n + 1) * 32 = omega arith in let from : n * 32 ≡ 0 + n * 32 = omega arith in
      ap (λ b. all_to (n * 32) h ++ flat_map (number_rows (book h)) (numbers_from b 32)) from ∙
      sym (flat_map-append (number_rows (book h)) (numbers_from 0 (n * 32)) (numbers_from (0 + n * 32) 32))
      ∙ ap (flat_map (number_rows (book h))) (sym (numbers_append 0 (n * 32) 32)) ∙ ap (λ m. all_to m h) next

  all_past : (m : ℕ) (h : Host) → rows_of_pledges (pledges_of (book h)) ≡ all_to m h ++ rows_past (book h) m
  all_past m h = let from : 0 + m ≡ m = omega arith in past_range (book h) 0 m ∙ ap (λ b. all_to m h ++ rows_past (book h) b) from

  -- the next range
  pub ranges_go : (c : K) (w : V) → HandsRows k IsUnsound step b c u w (Ok Go) range_of → HandsRows k IsUnsound step a c v w (Ok Go) (all_to ((n + 1) * 32))
  ranges_go c w here = hands_as k step a c v w (Ok Go) (λ h. all_to (n * 32) h ++ range_of h) (all_to ((n + 1) * 32)) one_range
      (hands_then k step a b c v u w (Ok Go) (all_to (n * 32)) range_of before here)

  -- it stops there, or the call fails
  pub ranges_end : (c : K) (w : V) (r s : Result Flow KeepError) → (r ≡ Ok Go → ⊥) → s ≡ r → HandsRows k IsUnsound step b c u w r range_of
      → HandsRows k IsUnsound step a c v w s (λ h. rows_of_pledges (pledges_of (book h)))
  ranges_end c w r s ended same here = hands_as k step a c v w s (λ h. (all_to (n * 32) h ++ range_of h) ++ rows_past (book h) ((n + 1) * 32))
      (λ h. rows_of_pledges (pledges_of (book h)))
      (λ h. ap (λ l. l ++ rows_past (book h) ((n + 1) * 32)) (one_range h) ∙ sym (all_past ((n + 1) * 32) h))
      (hands_ended k step a c v w r s (λ h. all_to (n * 32) h ++ range_of h) (λ h. rows_past (book h) ((n + 1) * 32)) ended same
      (hands_then k step a b c v u w r (all_to (n * 32)) range_of before here))

  -- there are no more
  pub ranges_all : (count : ℕ) → count ≤ n * 32 → Reads k a b (λ h. count ≡ length (pledges_of (book h)))
      → HandsRows k IsUnsound step a b v u (Ok Go) (λ h. rows_of_pledges (pledges_of (book h)))
  ranges_all count few counted = hands_by k step a b v u (Ok Go) (all_to (n * 32)) (λ h. rows_of_pledges (pledges_of (book h))) counted
      (λ h are. sym (all_past (n * 32) h ∙ ap (λ l. all_to (n * 32) h ++ l) (past_all (pledges_of (book h)) (n * 32) (omega (arith, few, are)))
      ∙ append-nil (all_to (n * 32) h))) before
