-- What the rows of a table tell, they tell once.
use Rattle.pawn_tables.proofs.Basics.{IsPermutation-sym, IsPermutation-trans, ascending-get_or, value_cmp_total}
use Rattle.pawn_tables.proofs.Words.{word_of_bytes}
use Rattle.pawn_tables.specs.Common.{IsTotalOrder, on_total, from_be_bytes, to_be_bytes, w128, is_lt, ordering_reverse}
use Rattle.pawn_tables.specs.Common.{Less, Row, column, value_cmp, Table, IsAscending, Trees, Value, Text, Rates}
use Rattle.pawn_tables.specs.Common.{credit_of, Entry, Kind, Fixed, Running, Sort, Draw, Repay, PledgeValue, Each}
use Rattle.pawn_tables.specs.Common.{Booking, BookingState, Closing, Extension, Issue, Issued, IsWord, Imported, Holds}
use Rattle.pawn_tables.specs.Rows.{number, flag_number, or_null, word, kind_number, sort_number, issue_number}
use Rattle.pawn_tables.specs.Rows.{state_number, closed_number, closed_day, closed_amount, import_key, import_count}
use Rattle.pawn_tables.specs.Rows.{at_most_one, placed_from, pledge_cells, entry_cells, secret_cells, extension_cells}
use Rattle.pawn_tables.specs.Rows.{booking_cells, terms_cells}
use Rattle.sqlite_keyed.proofs.SortLemmas.{sorted_unique}
use Rattle.std.proofs.Common.{◌≡◌, ℕ, zero, suc, ◌+◌, ◌≤◌, ◌<◌, List, [], ◌∷◌, length, Bool, true, false, Option, Some}
use Rattle.std.proofs.Common.{None, refl, sym, ap, ◌∙◌, arith, IsPermutation, get_or, IfSome}
use Rattle.std.specs.declared.cmp.Ordering.{Ordering}
use Rattle.pawn_pledge.specs.declared.record.Issue.TheVariants as issue
use Rattle.pawn_pledge.specs.declared.record.BookingState.TheVariants as state
use Rattle.pawn_pledge.specs.declared.record.Closing.TheVariants as closing

-- two lists that a table holds
pub held_twice : (db : Trees) (tree : ℕ) (t : Table) (xs ys : List Row) → Holds db tree t xs → Holds db tree t ys → IsPermutation xs ys
held_twice db tree t xs ys a b = IsPermutation-trans _ _ _ a.same (IsPermutation-sym _ _ b.same)

-- ---- one order

abbrev pub Rise : (Row → Value) → List Row → Type 0
Rise key = IsAscending (λ a b. value_cmp (key a) (key b) ≡ Less)

-- the same rows, both rising in a column, stand in one order
pub same_rising : (key : Row → Value) (xs ys : List Row) → Rise key xs → Rise key ys → IsPermutation xs ys → xs ≡ ys
same_rising key xs ys up down same = sym (sorted_unique cmp total xs ys up same sorted) where
  cmp : Row → Row → Ordering
  cmp a b = value_cmp (key a) (key b)

  total : IsTotalOrder cmp
  total = on_total key value_cmp_total

  sorted : (k : ℕ) (d : Row) → 0 ≤ k → k + 1 < length ys → is_lt (cmp (get_or ys (k + 1) d) (get_or ys k d)) ≡ false
  sorted k d low short = let rises = ascending-get_or (λ a b. cmp a b ≡ Less) ys k (k + 1) d down (omega arith) short in
      ap is_lt (total.antisymm (get_or ys (k + 1) d) (get_or ys k d)) ∙ ap (λ o. is_lt (ordering_reverse o)) rises

-- ---- values

pub same_number : (m n : ℕ) → number m ≡ number n → m ≡ n
same_number m n e = (let x = e in cc)

pub same_word : (v w : ℕ) → IsWord v → IsWord w → word v ≡ word w → v ≡ w
same_word v w fits fits' e = let bytes : to_be_bytes w128 v ≡ to_be_bytes w128 w = (let x = e in cc) in
    sym (word_of_bytes v fits) ∙ ap (from_be_bytes w128) bytes ∙ word_of_bytes w fits'

pub same_optional : (o o' : Option ℕ) → or_null number o ≡ or_null number o' → o ≡ o'
same_optional None None e = refl
same_optional None (Some n) e = absurd (let x = e in cc)
same_optional (Some m) None e = absurd (let x = e in cc)
same_optional (Some m) (Some n) e = ap Some (same_number m n e)

same_flag : (a b : Bool) → flag_number a ≡ flag_number b → a ≡ b
same_flag true true e = refl
same_flag true false e = absurd (omega (arith, e))
same_flag false true e = absurd (omega (arith, e))
same_flag false false e = refl

same_kind : (a b : Kind) → kind_number a ≡ kind_number b → credit_of a ≡ credit_of b → a ≡ b
same_kind (Fixed m) (Fixed n) e f = ap Fixed f
same_kind (Fixed m) (Running n) e f = absurd (omega (arith, e))
same_kind (Running m) (Fixed n) e f = absurd (omega (arith, e))
same_kind (Running m) (Running n) e f = ap Running f

same_sort : (a b : Sort) → sort_number a ≡ sort_number b → a ≡ b
same_sort Draw Draw e = refl
same_sort Draw Repay e = absurd (omega (arith, e))
same_sort Repay Draw e = absurd (omega (arith, e))
same_sort Repay Repay e = refl

same_issue : (a b : Issue) → issue_number a ≡ issue_number b → a ≡ b
same_issue issue.Opening issue.Opening e = refl
same_issue issue.Opening issue.Sworn e = absurd (omega (arith, e))
same_issue issue.Opening issue.Written e = absurd (omega (arith, e))
same_issue issue.Sworn issue.Opening e = absurd (omega (arith, e))
same_issue issue.Sworn issue.Sworn e = refl
same_issue issue.Sworn issue.Written e = absurd (omega (arith, e))
same_issue issue.Written issue.Opening e = absurd (omega (arith, e))
same_issue issue.Written issue.Sworn e = absurd (omega (arith, e))
same_issue issue.Written issue.Written e = refl

-- the state of a number
abbrev state_of : ℕ → BookingState
state_of zero = state.Asked
state_of (suc zero) = state.Confirmed
state_of (suc (suc zero)) = state.Refused
state_of (suc (suc (suc n))) = state.Cancelled

state_again : (s : BookingState) → state_of (state_number s) ≡ s
state_again state.Asked = refl
state_again state.Confirmed = refl
state_again state.Refused = refl
state_again state.Cancelled = refl

same_state : (a b : BookingState) → state_number a ≡ state_number b → a ≡ b
same_state a b e = sym (state_again a) ∙ ap state_of e ∙ state_again b

same_closing : (a b : Closing) → closed_number a ≡ closed_number b → closed_day a ≡ closed_day b → closed_amount a ≡ closed_amount b → a ≡ b
same_closing closing.Open closing.Open e day amount = refl
same_closing closing.Open (closing.Redeemed d p) e day amount = absurd (omega (arith, e))
same_closing closing.Open (closing.Sold d p) e day amount = absurd (omega (arith, e))
same_closing (closing.Redeemed d p) closing.Open e day amount = absurd (omega (arith, e))
same_closing (closing.Redeemed d p) (closing.Redeemed d' p') e day amount = let x : d ≡ d' = (let y = day in cc) in let z : p ≡ p' = (let y = amount in cc) in
    λ i. closing.Redeemed (x i) (z i)
same_closing (closing.Redeemed d p) (closing.Sold d' p') e day amount = absurd (omega (arith, e))
same_closing (closing.Sold d p) closing.Open e day amount = absurd (omega (arith, e))
same_closing (closing.Sold d p) (closing.Redeemed d' p') e day amount = absurd (omega (arith, e))
same_closing (closing.Sold d p) (closing.Sold d' p') e day amount = let x : d ≡ d' = (let y = day in cc) in let z : p ≡ p' = (let y = amount in cc) in
    λ i. closing.Sold (x i) (z i)

pub same_imported : (i j : Option Imported) → IfSome i (λ x. IsWord x.key) → IfSome j (λ x. IsWord x.key)
    → or_null word (import_key i) ≡ or_null word (import_key j) → or_null number (import_count i) ≡ or_null number (import_count j) → i ≡ j
same_imported None None a b e f = refl
same_imported None (Some j) a b e f = absurd (let x = e in cc)
same_imported (Some i) None a b e f = absurd (let x = e in cc)
same_imported (Some i) (Some j) a b e f = let key = same_word i.key j.key a b e in
    let count = same_number i.pledges j.pledges f in
    λ x. Some (record { key = key x; pledges = count x })

-- ---- rows

at_column : (k : ℕ) (r s : Row) → r ≡ s → column r k ≡ column s k
at_column k r s e = ap (λ x. column x k) e

pub same_terms : (t u : Rates) → terms_cells t ≡ terms_cells u → t ≡ u
same_terms t u e = let a = same_number t.rate u.rate (at_column 0 _ _ e) in
    let b = same_number t.keep_before u.keep_before (at_column 1 _ _ e) in let c = same_number t.keep_after u.keep_after (at_column 2 _ _ e) in
    λ i. record { rate = a i; keep_before = b i; keep_after = c i }

pub same_entry : (x y : Entry) → entry_cells x ≡ entry_cells y → x ≡ y
same_entry x y e = let a = same_number x.seq y.seq (at_column 0 _ _ e) in
    let b = same_number x.day y.day (at_column 1 _ _ e) in let c = same_sort x.sort y.sort (same_number _ _ (at_column 2 _ _ e)) in
    let d = same_number x.pence y.pence (at_column 3 _ _ e) in
    λ i. record { seq = a i; day = b i; sort = c i; pence = d i }

pub same_issued : (m n : ℕ) (x y : Issued) → IsWord x.secret → IsWord y.secret → secret_cells m x ≡ secret_cells n y → x ≡ y
same_issued m n x y fits fits' e = let a = same_number x.day y.day (at_column 1 _ _ e) in
    let b = same_issue x.sort y.sort (same_number _ _ (at_column 2 _ _ e)) in let c = same_word x.secret y.secret fits fits' (at_column 3 _ _ e) in
    λ i. record { day = a i; sort = b i; secret = c i }

pub same_extension : (m n : ℕ) (x y : Extension) → extension_cells m x ≡ extension_cells n y → x ≡ y
same_extension m n x y e = let a = same_number x.day y.day (at_column 1 _ _ e) in
    let b = same_number x.until y.until (at_column 2 _ _ e) in
    λ i. record { day = a i; until = b i }

pub same_booking : (x y : Booking) → booking_cells x ≡ booking_cells y → x ≡ y
same_booking x y e = let a = same_number x.day y.day (at_column 0 _ _ e) in
    let b = same_number x.window y.window (at_column 1 _ _ e) in let c = same_state x.state y.state (same_number _ _ (at_column 2 _ _ e)) in
    λ i. record { day = a i; window = b i; state = c i }

-- what the rows of two pledges tell, where they are the same
pub record AreAlike (p q : PledgeValue) : Type 0 where
  pub opening : p.agreement.opening ≡ q.agreement.opening
  pub taken : p.agreement.taken ≡ q.agreement.taken
  pub version : p.agreement.version ≡ q.agreement.version
  pub held : p.standing.held ≡ q.standing.held
  pub last : p.standing.last ≡ q.standing.last
  pub closing : p.standing.closing ≡ q.standing.closing

pub same_text : (s t : List ℕ) → Text s ≡ Text t → s ≡ t
same_text s t e = (let x = e in cc)

pub same_row : (p q : PledgeValue) → pledge_cells p ≡ pledge_cells q → AreAlike p q
same_row p q e = let o = p.agreement.opening in
    let u = q.agreement.opening in let reference = same_text o.reference u.reference (at_column 0 _ _ e) in
    let article = same_text o.article u.article (at_column 1 _ _ e) in
    let kind = same_kind o.kind u.kind (same_number _ _ (at_column 2 _ _ e)) (same_number _ _ (at_column 3 _ _ e)) in
    let agreed = same_optional o.agreed u.agreed (at_column 5 _ _ e) in let five = same_flag o.five_days u.five_days (same_number _ _ (at_column 6 _ _ e)) in
    record {
      opening = λ i. record { reference = reference i; article = article i; kind = kind i; agreed = agreed i; five_days = five i };
      taken = same_number _ _ (at_column 4 _ _ e);
      version = same_number _ _ (at_column 7 _ _ e);
      held = same_flag _ _ (same_number _ _ (at_column 9 _ _ e));
      last = same_number _ _ (at_column 10 _ _ e);
      closing = same_closing _ _ (same_number _ _ (at_column 11 _ _ e)) (same_optional _ _ (at_column 12 _ _ e)) (same_optional _ _ (at_column 13 _ _ e));
    }

-- ---- lists of rows

same_head : (r s : Row) (rs ss : List Row) → r ∷ rs ≡ s ∷ ss → r ≡ s
same_head r s rs ss e = (let x = e in cc)

pub second_of_first : (n m : ℕ) (s : List ℕ) → (Text s ∷ number n ∷ []) ∷ [] ≡ (Text s ∷ number m ∷ []) ∷ [] → number n ≡ number m
second_of_first n m s e = at_column 1 _ _ (same_head _ _ _ _ e)

same_tail : (r s : Row) (rs ss : List Row) → r ∷ rs ≡ s ∷ ss → rs ≡ ss
same_tail r s rs ss e = (let x = e in cc)

-- of two lists with the same rows, if an element is given by its row
pub same_placed : {A : Type 0} (f : ℕ → A → Row) (W : A → Type 0) → ((m : ℕ) (x y : A) → W x → W y → f m x ≡ f m y → x ≡ y) → (at : ℕ) (xs ys : List A)
    → Each W xs → Each W ys → placed_from f at xs ≡ placed_from f at ys → xs ≡ ys
same_placed f W same at [] [] a b e = refl
same_placed f W same at [] (y ∷ ys) a b e = absurd (let x = e in cc)
same_placed f W same at (x ∷ xs) [] a b e = absurd (let y = e in cc)
same_placed f W same at (x ∷ xs) (y ∷ ys) a b e = let first = same at x y a.0 b.0 (same_head _ _ _ _ e) in
    let rest = same_placed f W same (at + 1) xs ys a.1 b.1 (same_tail _ _ _ _ e) in
    λ i. first i ∷ rest i

pub same_at_most : {A : Type 0} (f : A → Row) → ((x y : A) → f x ≡ f y → x ≡ y) → (o o' : Option A) → at_most_one f o ≡ at_most_one f o' → o ≡ o'
same_at_most f same None None e = refl
same_at_most f same None (Some y) e = absurd (let x = e in cc)
same_at_most f same (Some x) None e = absurd (let y = e in cc)
same_at_most f same (Some x) (Some y) e = ap Some (same x y (same_head _ _ _ _ e))
