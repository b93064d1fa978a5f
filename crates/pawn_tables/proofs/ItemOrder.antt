-- The rows of pledges, kind by kind: whose they are, and their order.
use Rattle.pawn_book.specs.Items.{booking_items, entry_items, extension_items, item_number, secret_items}
use Rattle.pawn_book.specs.declared.items.RowItem.{RowItem}
use Rattle.pawn_tables.proofs.Basics.{all_weaker, filter-append, filter_all}
use Rattle.pawn_tables.proofs.Basics.{filter_none, nat_tests}
use Rattle.pawn_tables.proofs.PageLemmas.{last_later, last_some}
use Rattle.pawn_tables.specs.Common.{AreNumberedFrom, Booking, Each, Entry, Extension, IsAscending, Issued, PledgeValue}
use Rattle.pawn_tables.specs.Common.{last_element, pledge_from}
use Rattle.pawn_tables.specs.Entries.{RiseFrom}
use Rattle.pawn_tables.specs.Kinds.{own_items, row_kind, kind_rows, kind_rows_if_any, whole_upto}
use Rattle.pawn_tables.specs.Pages.{most_page_rows}
use Rattle.pawn_tables.specs.declared.kinds.RowKind.{RowKind}
use Rattle.sqlite_trees.proofs.ListLemmas.{all-append, ascending-append}
use Rattle.std.proofs.Common.{◌≡◌, ◌≢◌, ◌⊎◌, ◌++◌, ◌==◌, ◌&&◌, ◌∙◌, ◌+◌, ◌-◌, ◌<◌, ◌≤◌, ℕ, zero, suc, List, [], ◌∷◌}
use Rattle.std.proofs.Common.{filter, flat_map, take, drop, length, Bool, true, false, cond, Option, Some, None, inl, inr}
use Rattle.std.proofs.Common.{ap, append-nil, arith, if◌then◌else◌, nat_le, nat_lt, option_map, refl, subst, sym}
use Rattle.std.proofs.Common.{take-append-drop, unwrap_or}

-- ---- what holds of each row of a pledge

module _ (P : RowItem → Type 0) (n : ℕ) where
  pub each_secret : ((place : ℕ) (i : Issued) → P (RowItem.Secret n place i)) → (place : ℕ) (is : List Issued) → Each P (secret_items n place is)
  each_secret all place [] = tt
  each_secret all place (i ∷ is) = (all place i, each_secret all (place + 1) is)

  pub each_entry : ((e : Entry) → P (RowItem.Entry n e)) → (es : List Entry) → Each P (entry_items n es)
  each_entry all [] = tt
  each_entry all (e ∷ es) = (all e, each_entry all es)

  pub each_extension : ((place : ℕ) (e : Extension) → P (RowItem.Extension n place e)) → (place : ℕ) (es : List Extension) → Each P (extension_items n place es)
  each_extension all place [] = tt
  each_extension all place (e ∷ es) = (all place e, each_extension all (place + 1) es)

  each_booking : ((k : Booking) → P (RowItem.Booking n k)) → (o : Option Booking) → Each P (booking_items n o)
  each_booking all None = tt
  each_booking all (Some k) = (all k, tt)

-- a row of this kind and this pledge
abbrev pub IsOwn : RowKind → ℕ → RowItem → Type 0
IsOwn kind n i = (row_kind i ≡ kind) × (item_number i ≡ n)

pub each_own : (kind : RowKind) (p : PledgeValue) → Each (IsOwn kind p.agreement.number) (kind_rows kind p)
each_own RowKind.Pledge p = ((refl, refl), tt)
each_own RowKind.Secret p = each_secret (IsOwn RowKind.Secret p.agreement.number) p.agreement.number (λ place i. (refl, refl)) 1 p.secrets
each_own RowKind.Entry p = each_entry (IsOwn RowKind.Entry p.agreement.number) p.agreement.number (λ e. (refl, refl)) p.entries
each_own RowKind.Extension p = each_extension (IsOwn RowKind.Extension p.agreement.number) p.agreement.number (λ place e. (refl, refl)) 1 p.extensions
each_own RowKind.Booking p = each_booking (IsOwn RowKind.Booking p.agreement.number) p.agreement.number (λ k. (refl, refl)) p.standing.booking

-- the rows of this kind of all pledges
abbrev pub all_of_kind : RowKind → List PledgeValue → List RowItem
all_of_kind kind ps = flat_map (kind_rows kind) ps

pub each_kind : (kind : RowKind) (ps : List PledgeValue) → Each (λ i. row_kind i ≡ kind) (all_of_kind kind ps)
each_kind kind [] = tt
each_kind kind (p ∷ ps) = all-append (λ i. row_kind i ≡ kind) (kind_rows kind p) (all_of_kind kind ps)
    (all_weaker (IsOwn kind p.agreement.number) (λ i. row_kind i ≡ kind) (λ i own. own.0) (kind_rows kind p) (each_own kind p)) (each_kind kind ps)

-- ---- their order

-- the place of a row in its list
abbrev pub item_place : RowItem → ℕ
item_place (RowItem.Pledge pledge) = 0
item_place (RowItem.Secret number place issued) = place
item_place (RowItem.Entry number entry) = entry.seq
item_place (RowItem.Extension number place extension) = place
item_place (RowItem.Booking number booking) = 0

-- by the numbers of the pledges, and then by the places
abbrev pub IsBefore : RowItem → RowItem → Type 0
IsBefore i j = (item_number i < item_number j) ⊎ ((item_number i ≡ item_number j) × (item_place i < item_place j))

-- of the own rows and of the bookings, of which a pledge has one at most, by the numbers alone
abbrev pub IsBeforeBy : RowKind → RowItem → RowItem → Type 0
IsBeforeBy RowKind.Pledge i j = item_number i < item_number j
IsBeforeBy RowKind.Secret i j = IsBefore i j
IsBeforeBy RowKind.Entry i j = IsBefore i j
IsBeforeBy RowKind.Extension i j = IsBefore i j
IsBeforeBy RowKind.Booking i j = item_number i < item_number j

secrets_rise : (n place : ℕ) (is : List Issued) → IsAscending IsBefore (secret_items n place is)
secrets_rise n place [] = tt
secrets_rise n place (i ∷ is) = (later (place + 1) is (omega arith), secrets_rise n (place + 1) is) where
  later : (m : ℕ) (js : List Issued) → place < m → Each (IsBefore (RowItem.Secret n place i)) (secret_items n m js)
  later m [] lt = tt
  later m (j ∷ js) lt = (inr (refl, lt), later (m + 1) js (omega (arith, lt)))

extensions_rise : (n place : ℕ) (es : List Extension) → IsAscending IsBefore (extension_items n place es)
extensions_rise n place [] = tt
extensions_rise n place (e ∷ es) = (later (place + 1) es (omega arith), extensions_rise n (place + 1) es) where
  later : (m : ℕ) (fs : List Extension) → place < m → Each (IsBefore (RowItem.Extension n place e)) (extension_items n m fs)
  later m [] lt = tt
  later m (f ∷ fs) lt = (inr (refl, lt), later (m + 1) fs (omega (arith, lt)))

entries_rise : (n m : ℕ) (es : List Entry) → RiseFrom m es → IsAscending IsBefore (entry_items n es)
entries_rise n m [] rise = tt
entries_rise n m (e ∷ es) rise = (later (e.seq + 1) es (omega arith) rise.1, entries_rise n (e.seq + 1) es rise.1) where
  later : (k : ℕ) (fs : List Entry) → e.seq < k → RiseFrom k fs → Each (IsBefore (RowItem.Entry n e)) (entry_items n fs)
  later k [] lt up = tt
  later k (f ∷ fs) lt up = let low = up.0 in (inr (refl, omega (arith, lt, low)), later (f.seq + 1) fs (omega (arith, lt, low)) up.1)

booking_rises : (n : ℕ) (o : Option Booking) → IsAscending (λ i j. item_number i < item_number j) (booking_items n o)
booking_rises n None = tt
booking_rises n (Some k) = (tt, tt)

-- the rows of a pledge
own_rise : (kind : RowKind) (p : PledgeValue) → RiseFrom 0 p.entries → IsAscending (IsBeforeBy kind) (kind_rows kind p)
own_rise RowKind.Pledge p up = (tt, tt)
own_rise RowKind.Secret p up = secrets_rise p.agreement.number 1 p.secrets
own_rise RowKind.Entry p up = entries_rise p.agreement.number 0 p.entries up
own_rise RowKind.Extension p up = extensions_rise p.agreement.number 1 p.extensions
own_rise RowKind.Booking p up = booking_rises p.agreement.number p.standing.booking

before_by : (kind : RowKind) (i j : RowItem) → item_number i < item_number j → IsBeforeBy kind i j
before_by RowKind.Pledge i j lt = lt
before_by RowKind.Secret i j lt = inl lt
before_by RowKind.Entry i j lt = inl lt
before_by RowKind.Extension i j lt = inl lt
before_by RowKind.Booking i j lt = lt

-- the numbers of later pledges are greater
all_later : (kind : RowKind) (n m : ℕ) (ps : List PledgeValue) → n < m → AreNumberedFrom m ps → Each (λ j. n < item_number j) (all_of_kind kind ps)
all_later kind n m [] lt numbered = tt
all_later kind n m (p ∷ ps) lt numbered = let at = numbered.0 in all-append (λ j. n < item_number j) (kind_rows kind p) (all_of_kind kind ps)
    (all_weaker (IsOwn kind p.agreement.number) (λ j. n < item_number j) (λ j own. let is = own.1 in omega (arith, lt, at, is)) (kind_rows kind p)
    (each_own kind p)) (all_later kind n (m + 1) ps (omega (arith, lt)) numbered.1)

pub all_rise : (kind : RowKind) (k : ℕ) (ps : List PledgeValue) → AreNumberedFrom k ps → Each (λ p. RiseFrom 0 p.entries) ps
    → IsAscending (IsBeforeBy kind) (all_of_kind kind ps)
all_rise kind k [] numbered up = tt
all_rise kind k (p ∷ ps) numbered up = let at = numbered.0 in
    ascending-append (IsBeforeBy kind) (kind_rows kind p) (all_of_kind kind ps) (own_rise kind p up.0) (all_rise kind (k + 1) ps numbered.1 up.1)
    (all_weaker (IsOwn kind p.agreement.number) (λ i. Each (IsBeforeBy kind i) (all_of_kind kind ps)) (λ i own. let is = own.1 in
    all_weaker (λ j. item_number i < item_number j) (IsBeforeBy kind i) (λ j lt. before_by kind i j lt) (all_of_kind kind ps)
    (all_later kind (item_number i) (k + 1) ps (omega (arith, at, is)) numbered.1)) (kind_rows kind p) (each_own kind p))

pub not_later : (kind : RowKind) (i j : RowItem) → IsBeforeBy kind i j → item_number i ≤ item_number j
not_later RowKind.Pledge i j before = omega (arith, before)
not_later RowKind.Secret i j before = either before where
  either : IsBefore i j → item_number i ≤ item_number j
  either (inl lt) = omega (arith, lt)
  either (inr same) = let is = same.0 in omega (arith, is)
not_later RowKind.Entry i j before = either before where
  either : IsBefore i j → item_number i ≤ item_number j
  either (inl lt) = omega (arith, lt)
  either (inr same) = let is = same.0 in omega (arith, is)
not_later RowKind.Extension i j before = either before where
  either : IsBefore i j → item_number i ≤ item_number j
  either (inl lt) = omega (arith, lt)
  either (inr same) = let is = same.0 in omega (arith, is)
not_later RowKind.Booking i j before = omega (arith, before)

-- ---- the rows of one pledge among them

module _ (n : ℕ) where
  abbrev is_of : RowItem → Bool
  is_of i = item_number i == n

  none_apart : (kind : RowKind) (p : PledgeValue) → p.agreement.number ≢ n → own_items n (kind_rows kind p) ≡ []
  none_apart kind p apart = filter_none is_of (kind_rows kind p) (all_weaker (IsOwn kind p.agreement.number) (λ i. is_of i ≡ false)
      (λ i own. let is = own.1 in let other : item_number i ≢ n = λ same. apart (sym is ∙ same) in grind (arith, nat_tests, other)) (kind_rows kind p)
      (each_own kind p))

  all_own : (kind : RowKind) (p : PledgeValue) → p.agreement.number ≡ n → own_items n (kind_rows kind p) ≡ kind_rows kind p
  all_own kind p at = filter_all is_of (kind_rows kind p) (all_weaker (IsOwn kind p.agreement.number) (λ i. is_of i ≡ true)
      (λ i own. let is = own.1 ∙ at in grind (arith, nat_tests, is)) (kind_rows kind p) (each_own kind p))

  none_later : (kind : RowKind) (k : ℕ) (ps : List PledgeValue) → n < k → AreNumberedFrom k ps → own_items n (all_of_kind kind ps) ≡ []
  none_later kind k [] lt numbered = refl
  none_later kind k (p ∷ ps) lt numbered = let at = numbered.0 in let apart : p.agreement.number ≢ n = λ same. absurd (omega (arith, lt, at, same)) in
      filter-append is_of (kind_rows kind p) (all_of_kind kind ps) ∙ (λ i. none_apart kind p apart i ++ none_later kind (k + 1) ps (omega (arith, lt))
      numbered.1 i)

  pub items_of_one : (kind : RowKind) (k : ℕ) (ps : List PledgeValue) → AreNumberedFrom k ps
      → own_items n (all_of_kind kind ps) ≡ kind_rows_if_any kind (pledge_from k ps n)
  items_of_one kind k [] numbered = refl
  items_of_one kind k (p ∷ ps) numbered = filter-append is_of (kind_rows kind p) (all_of_kind kind ps) ∙ go (n == k) refl (items_of_one kind (k + 1) ps
      numbered.1)
    where
      go : (b : Bool) → (n == k) ≡ b → own_items n (all_of_kind kind ps) ≡ kind_rows_if_any kind (pledge_from (k + 1) ps n)
          → own_items n (kind_rows kind p) ++ own_items n (all_of_kind kind ps) ≡ kind_rows_if_any kind (if b then Some p else pledge_from (k + 1) ps n)
      go true is rest = let same : n ≡ k = grind (arith, nat_tests, is) in let at : p.agreement.number ≡ n = numbered.0 ∙ sym same in
          (λ i. all_own kind p at i ++ none_later kind (k + 1) ps (omega (arith, same)) numbered.1 i) ∙ append-nil (kind_rows kind p)
      go false is rest = let at = numbered.0 in
          let apart : p.agreement.number ≢ n = λ same. absurd (let e : (n == k) ≡ true = grind (arith, nat_tests, same, at) in let e2 = sym e ∙ is in cc) in
          ap (λ l. l ++ own_items n (all_of_kind kind ps)) (none_apart kind p apart) ∙ rest

-- ---- the rows of a range

-- a row of a pledge in the range
abbrev pub is_within : ℕ → ℕ → RowItem → Bool
is_within a m i = nat_lt a (item_number i) && nat_le (item_number i) m

both_filters : {A : Type 0} (p q : A → Bool) → ((x : A) → q x ≡ true → p x ≡ true) → (xs : List A) → filter q (filter p xs) ≡ filter q xs
both_filters p q part [] = refl
both_filters p q part (x ∷ xs) = go (p x) refl (q x) refl (both_filters p q part xs) where
  go : (b : Bool) → p x ≡ b → (c : Bool) → q x ≡ c → filter q (filter p xs) ≡ filter q xs
      → filter q (cond b (x ∷ filter p xs) (filter p xs)) ≡ cond c (x ∷ filter q xs) (filter q xs)
  go true here c is rest = ap (λ d. cond d (x ∷ filter q (filter p xs)) (filter q (filter p xs))) is ∙ ap (λ l. cond c (x ∷ l) l) rest
  go false here true is rest = absurd (let e = sym here ∙ part x is in cc)
  go false here false is rest = rest

-- the rows of a pledge of the range are all there
pub within_of : (a m n : ℕ) → a < n → n ≤ m → (is : List RowItem) → own_items n (filter (is_within a m) is) ≡ own_items n is
within_of a m n low high is = both_filters (is_within a m) (λ i. item_number i == n)
    (λ i same. let e : item_number i ≡ n = grind (arith, nat_tests, same) in
    let lower : nat_lt a (item_number i) ≡ true = grind (arith, nat_tests, e, low) in
    let upper : nat_le (item_number i) m ≡ true = grind (arith, nat_tests, e, high) in
    (λ x. lower x && upper x)) is

-- what comes after the last of the first elements
pub after_last : {A : Type 0} (R : A → A → Type 0) (k : ℕ) (xs : List A) (l : A) → IsAscending R xs → last_element (take k xs) ≡ Some l → Each (R l) (drop k xs)
after_last R zero xs l up is = absurd (let e = is in cc)
after_last R (suc k) [] l up is = absurd (let e = is in cc)
after_last R (suc zero) (x ∷ xs) l up is = let same : x ≡ l = (let e = is in cc) in subst (λ y. Each (R y) xs) same up.0
after_last R (suc (suc k)) (x ∷ []) l up is = tt
after_last R (suc (suc k)) (x ∷ (y ∷ ys)) l up is = after_last R (suc k) (y ∷ ys) l up.1 (sym (last_later x y (take k ys)) ∙ is)

-- the first rows of a list are whole up to a number
pub cut_of : (kind : RowKind) (m n : ℕ) (is : List RowItem) → IsAscending (IsBeforeBy kind) is → 1 ≤ n
    → n ≤ whole_upto m (take most_page_rows is) → own_items n (take most_page_rows is) ≡ own_items n is
cut_of kind m n is up some le = go (nat_lt (length (take most_page_rows is)) most_page_rows) refl le where
  short_all : {A : Type 0} (k : ℕ) (xs : List A) → length (take k xs) < k → take k xs ≡ xs
  short_all zero xs lt = absurd (omega (arith, lt))
  short_all (suc k) [] lt = refl
  short_all (suc k) (x ∷ xs) lt = ap (λ l. x ∷ l) (short_all k xs (omega (arith, lt)))

  end_of : Option RowItem → ℕ
  end_of o = unwrap_or (option_map (λ i. item_number i - 1) o) m

  full : (o : Option RowItem) → last_element (take most_page_rows is) ≡ o → n ≤ end_of o → own_items n (take most_page_rows is) ≡ own_items n is
  full None none le = ap (own_items n) (empty is none) where
    empty : (xs : List RowItem) → last_element (take most_page_rows xs) ≡ None → take most_page_rows xs ≡ xs
    empty [] none = refl
    empty (x ∷ xs) none = absurd (let last = last_some x (take 63 xs) in let e = sym last.1 ∙ none in cc)
  full (Some l) last le =
      let rest = after_last (IsBeforeBy kind) most_page_rows is l up last in
      let none : own_items n (drop most_page_rows is) ≡ [] = filter_none (λ i. item_number i == n) (drop most_page_rows is)
      (all_weaker (IsBeforeBy kind l) (λ i. (item_number i == n) ≡ false) (λ i before. let later = not_later kind l i before in
      let apart : item_number i ≢ n = λ same. absurd (omega (arith, later, same, le, some)) in grind (arith, nat_tests, apart)) (drop most_page_rows is) rest)
      in
      sym (append-nil (own_items n (take most_page_rows is))) ∙ ap (λ t. own_items n (take most_page_rows is) ++ t) (sym none)
      ∙ sym (filter-append (λ i. item_number i == n) (take most_page_rows is) (drop most_page_rows is))
      ∙ ap (own_items n) (take-append-drop most_page_rows is)

  go : (b : Bool) → nat_lt (length (take most_page_rows is)) most_page_rows ≡ b → n ≤ (if b then m else end_of (last_element (take most_page_rows is)))
      → own_items n (take most_page_rows is) ≡ own_items n is
  go true short le = let lt : length (take most_page_rows is) < most_page_rows = grind (arith, nat_tests, short) in ap (own_items n) (short_all most_page_rows
      is lt)
  go false long le = full (last_element (take most_page_rows is)) refl le

-- it is within the range
pub cut_within : (a m : ℕ) (is : List RowItem) → Each (λ i. is_within a m i ≡ true) is → whole_upto m (take most_page_rows is) ≤ m
cut_within a m is all = go (nat_lt (length (take most_page_rows is)) most_page_rows) (last_element (take most_page_rows is)) refl where
  named : (k : ℕ) (xs : List RowItem) (l : RowItem) → Each (λ i. is_within a m i ≡ true) xs → last_element (take k xs) ≡ Some l → is_within a m l ≡ true
  named zero xs l all is = absurd (let e = is in cc)
  named (suc k) [] l all is = absurd (let e = is in cc)
  named (suc zero) (x ∷ xs) l all is = let same : x ≡ l = (let e = is in cc) in subst (λ y. is_within a m y ≡ true) same all.0
  named (suc (suc k)) (x ∷ []) l all is = let same : x ≡ l = (let e = is in cc) in subst (λ y. is_within a m y ≡ true) same all.0
  named (suc (suc k)) (x ∷ (y ∷ ys)) l all is = named (suc k) (y ∷ ys) l all.1 (sym (last_later x y (take k ys)) ∙ is)

  go : (b : Bool) (o : Option RowItem) → last_element (take most_page_rows is) ≡ o
      → (if b then m else unwrap_or (option_map (λ i. item_number i - 1) o) m) ≤ m
  go true o last = omega arith
  go false None last = omega arith
  go false (Some l) last = let in_range = named most_page_rows is l all last in
      let upper : item_number l ≤ m = high (nat_lt a (item_number l)) (nat_le (item_number l) m) refl in_range in omega (arith, upper) where
        high : (b c : Bool) → nat_le (item_number l) m ≡ c → (b && c) ≡ true → item_number l ≤ m
        high true true is both = grind (arith, nat_tests, is)
        high true false is both = absurd (let e = both in cc)
        high false c is both = absurd (let e = both in cc)
