-- The pages of rows of a range of pledges, by what a query shows, and when they can be decoded.
use Rattle.pawn_book.proofs.Places.{pledge_within}
use Rattle.pawn_book.specs.Items.{booking_items, entry_items, extension_items, secret_items}
use Rattle.pawn_book.specs.declared.items.RowItem.{RowItem}
use Rattle.pawn_tables.proofs.Basics.{nat_tests}
use Rattle.pawn_tables.proofs.ItemOrder.{all_of_kind, cut_of, cut_within, is_within, items_of_one, within_of}
use Rattle.pawn_tables.proofs.PageLemmas.{take_each}
use Rattle.pawn_tables.proofs.RangeReads.{range_items, range_kinds, range_rises}
use Rattle.pawn_tables.proofs.RowsUnderKey.{number_from}
use Rattle.pawn_tables.proofs.SoundReads.{IsIn, booking_told, entries_told, extensions_told, row_told, secrets_told}
use Rattle.pawn_tables.specs.Common.{AreWords, BookValue, Booking, Each, Entry, Extension, Host, IsDayNumber}
use Rattle.pawn_tables.specs.Common.{IsNumber, IsSoundBook, IsUnsoundAt, Issued, PledgeValue, State, get, pledge_from, pledge_in}
use Rattle.pawn_tables.specs.Common.{pledges_of}
use Rattle.pawn_tables.specs.Entries.{IsEntryDecodable}
use Rattle.pawn_tables.specs.Kinds.{CanBeRead, IsItemDecodable, IsRowOf, own_items, row_kind, kind_rows, kind_rows_if_any}
use Rattle.pawn_tables.specs.Kinds.{whole_upto}
use Rattle.pawn_tables.specs.Pages.{most_page_rows}
use Rattle.pawn_tables.specs.PledgeRows.{IsRowDecodable}
use Rattle.pawn_tables.specs.StandsFor.{AreStorable, StandsFor}
use Rattle.pawn_tables.specs.declared.kinds.RowKind.{RowKind}
use Rattle.sqlite_trees.proofs.ListLemmas.{all-append, all-filter}
use Rattle.std.proofs.Common.{◌≡◌, ◌==◌, ◌∙◌, ◌+◌, ◌<◌, ◌≤◌, ℕ, List, [], ◌∷◌, filter, take, Bool, true}
use Rattle.std.proofs.Common.{false, cond, Option, Some, None, IfSome, ap, arith, if◌then◌else◌, refl, subst}

-- ---- the rows of a pledge that a range has

all_within : (a m : ℕ) (is : List RowItem) → Each (λ i. is_within a m i ≡ true) (filter (is_within a m) is)
all_within a m [] = tt
all_within a m (i ∷ is) = go (is_within a m i) refl (all_within a m is) where
  go : (c : Bool) → is_within a m i ≡ c → Each (λ j. is_within a m j ≡ true) (filter (is_within a m) is)
      → Each (λ j. is_within a m j ≡ true) (cond c (i ∷ filter (is_within a m) is) (filter (is_within a m) is))
  go true here rest = (here, rest)
  go false here rest = rest

-- a page has all rows of a pledge up to the number to which it is whole
pub kind_found : (old new : State) (h : Host) (st : StandsFor old.now h) (b a m : ℕ) (kind : RowKind) (n : ℕ) (items : List RowItem) (whole : ℕ)
    → items ≡ take most_page_rows (range_items kind a m (get h.books b)) → whole ≡ whole_upto m items → a < n → n ≤ whole
    → own_items n items ≡ kind_rows_if_any kind (pledge_in (get h.books b) n)
kind_found old new h st b a m kind n items whole are is low high =
    let K = range_items kind a m (get h.books b) in
    let upto : n ≤ whole_upto m (take most_page_rows K) = subst (λ w. n ≤ w) (is ∙ ap (whole_upto m) are) high in
    let within : whole_upto m (take most_page_rows K) ≤ m = cut_within a m K (all_within a m (all_of_kind kind (pledges_of (get h.books b)))) in
    ap (own_items n) are ∙ cut_of kind m n K (range_rises h b a m old new st kind) (omega (arith, low)) upto
    ∙ within_of a m n low (omega (arith, upto, within)) (all_of_kind kind (pledges_of (get h.books b))) ∙ inside (get h.books b) refl where
      inside : (o : Option BookValue) → get h.books b ≡ o → own_items n (all_of_kind kind (pledges_of o)) ≡ kind_rows_if_any kind (pledge_in o n)
      inside None none = refl
      inside (Some k) at = items_of_one n kind 1 k.pledges (st.ordered b k at).pledges

-- ---- what can be decoded

pub each_both : {A : Type 0} (P Q R : A → Type 0) → ((x : A) → P x → Q x → R x) → (xs : List A) → Each P xs → Each Q xs → Each R xs
each_both P Q R f [] p q = tt
each_both P Q R f (x ∷ xs) p q = (f x p.0 q.0, each_both P Q R f xs p.1 q.1)

pub secret_words : (n place : ℕ) (is : List Issued) → AreWords is → Each CanBeRead (secret_items n place is)
secret_words n place [] words = tt
secret_words n place (i ∷ is) words = (words.0, secret_words n (place + 1) is words.1)

pub extension_words : (n place : ℕ) (es : List Extension) → Each CanBeRead (extension_items n place es)
extension_words n place [] = tt
extension_words n place (e ∷ es) = (tt, extension_words n (place + 1) es)

pub entry_words : (n : ℕ) (es : List Entry) → Each CanBeRead (entry_items n es)
entry_words n [] = tt
entry_words n (e ∷ es) = (tt, entry_words n es)

booking_words : (n : ℕ) (o : Option Booking) → Each CanBeRead (booking_items n o)
booking_words n None = tt
booking_words n (Some k) = (tt, tt)

own_words : (kind : RowKind) (p : PledgeValue) → AreWords p.secrets → Each CanBeRead (kind_rows kind p)
own_words RowKind.Pledge p words = (tt, tt)
own_words RowKind.Secret p words = secret_words p.agreement.number 1 p.secrets words
own_words RowKind.Entry p words = entry_words p.agreement.number p.entries
own_words RowKind.Extension p words = extension_words p.agreement.number 1 p.extensions
own_words RowKind.Booking p words = booking_words p.agreement.number p.standing.booking

all_words : (kind : RowKind) (ps : List PledgeValue) → Each (λ p. AreWords p.secrets) ps → Each CanBeRead (all_of_kind kind ps)
all_words kind [] words = tt
all_words kind (p ∷ ps) words = all-append CanBeRead (kind_rows kind p) (all_of_kind kind ps) (own_words kind p words.0) (all_words kind ps words.1)

pub range_rows : (old new : State) (h : Host) (st : StandsFor old.now h) (b a m : ℕ) (kind : RowKind)
    → Each (IsRowOf kind None) (take most_page_rows (range_items kind a m (get h.books b)))
range_rows old new h st b a m kind = take_each (IsRowOf kind None) most_page_rows _ (each_both (λ i. row_kind i ≡ kind) CanBeRead (IsRowOf kind None)
    (λ i is word. record { kind_is = is; number_is = tt; word = word }) (range_items kind a m (get h.books b)) (range_kinds h b a m old new st kind)
    (all-filter CanBeRead (is_within a m) _ (inside (get h.books b) refl))) where
      inside : (o : Option BookValue) → get h.books b ≡ o → Each CanBeRead (all_of_kind kind (pledges_of o))
      inside None none = tt
      inside (Some k) at = all_words kind k.pledges (st.storable b k at).secrets

-- ---- what is decoded of a sound book

pub secret_told : (n place : ℕ) (is : List Issued) → IsNumber n → Each (λ i. IsDayNumber i.day) is → Each IsItemDecodable (secret_items n place is)
secret_told n place [] number days = tt
secret_told n place (i ∷ is) number days = ((days.0, number), secret_told n (place + 1) is number days.1)

pub entry_told : (n : ℕ) (es : List Entry) → IsNumber n → Each IsEntryDecodable es → Each IsItemDecodable (entry_items n es)
entry_told n [] number told = tt
entry_told n (e ∷ es) number told = ((told.0, number), entry_told n es number told.1)

pub extension_told : (n place : ℕ) (es : List Extension) → IsNumber n → Each (λ e. IsDayNumber e.day × IsDayNumber e.until) es
    → Each IsItemDecodable (extension_items n place es)
extension_told n place [] number days = tt
extension_told n place (e ∷ es) number days = ((days.0, number), extension_told n (place + 1) es number days.1)

booking_told_of : (n : ℕ) (o : Option Booking) → IsNumber n → IfSome o (λ k. IsDayNumber k.day) → Each IsItemDecodable (booking_items n o)
booking_told_of n None number day = tt
booking_told_of n (Some k) number day = ((day, number), tt)

-- the number of a pledge of a sound book is one that a pledge may have
pub number_told : (k : BookValue) (n : ℕ) (p : PledgeValue) → IsSoundBook k → pledge_from 1 k.pledges n ≡ Some p → IsNumber p.agreement.number
number_told k n p sound at = let within = pledge_within 1 k.pledges n p at in let few = sound.rows.few_pledges in
    let is = number_from n 1 k.pledges sound.rows.numbered p at in
    (let low = within.0 in omega (arith, low, is), let high = within.1 in omega (arith, high, few, is))

pub own_told : (h : Host) (storable : AreStorable h) (b n : ℕ) (kind : RowKind) (k : BookValue) (p : PledgeValue) → IsIn h storable b n k p
    → Each IsItemDecodable (kind_rows kind p)
own_told h storable b n RowKind.Pledge k p is_in = let told : IsRowDecodable p = row_told h storable b n k p is_in.0 is_in.1 is_in.2 in
    ((record { opening = told.opening; taken = told.taken; last = told.last; closed = told.closed }, number_told k n p is_in.1 is_in.2), tt)
own_told h storable b n RowKind.Secret k p is_in =
    secret_told p.agreement.number 1 p.secrets (number_told k n p is_in.1 is_in.2) (secrets_told h storable b n k p is_in)
own_told h storable b n RowKind.Entry k p is_in =
    entry_told p.agreement.number p.entries (number_told k n p is_in.1 is_in.2) (entries_told h storable b n k p is_in)
own_told h storable b n RowKind.Extension k p is_in =
    extension_told p.agreement.number 1 p.extensions (number_told k n p is_in.1 is_in.2) (extensions_told h storable b n k p is_in)
own_told h storable b n RowKind.Booking k p is_in =
    booking_told_of p.agreement.number p.standing.booking (number_told k n p is_in.1 is_in.2) (booking_told h storable b n k p is_in)

-- what holds of each pledge of a number holds of all rows
all_told : (kind : RowKind) (k : ℕ) (ps : List PledgeValue) → ((n : ℕ) (p : PledgeValue) → k ≤ n → pledge_from k ps n ≡ Some p → Each IsItemDecodable (kind_rows
    kind p))
    → Each IsItemDecodable (all_of_kind kind ps)
all_told kind k [] told = tt
all_told kind k (p ∷ ps) told =
    let here : (k == k) ≡ true = grind (arith, nat_tests) in
    all-append IsItemDecodable (kind_rows kind p) (all_of_kind kind ps)
    (told k p (omega arith) (ap (λ c. if c then Some p else pledge_from (k + 1) ps k) here))
    (all_told kind (k + 1) ps (λ n q le at. let other : (n == k) ≡ false = grind (arith, nat_tests, le) in
    told n q (omega (arith, le)) (ap (λ c. if c then Some p else pledge_from (k + 1) ps n) other ∙ at)))

pub range_unsound : (h : Host) → AreStorable h → (b a m : ℕ) (kind : RowKind)
    → (Each IsItemDecodable (take most_page_rows (range_items kind a m (get h.books b))) → ⊥) → IsUnsoundAt b h
range_unsound h storable b a m kind bad = inside (get h.books b) refl bad where
  inside : (o : Option BookValue) → get h.books b ≡ o → (Each IsItemDecodable (take most_page_rows (range_items kind a m o)) → ⊥) → IsUnsoundAt b h
  inside None none bad = absurd (bad tt)
  inside (Some k) at bad = (
    k,
    at,
    λ sound. bad (take_each IsItemDecodable most_page_rows _ (all-filter IsItemDecodable (is_within a m) _
        (all_told kind 1 k.pledges (λ n p le is. own_told h storable b n kind k p (at, sound.1, is))))),
  )
