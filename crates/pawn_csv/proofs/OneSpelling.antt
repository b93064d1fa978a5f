-- A row has one spelling: columns that two rows have are the columns of one row.
use Rattle.pawn_csv.proofs.Basics.{◌≡◌, ◌∙◌, ◌^◌, ◌<◌, ◌-◌, ℕ, Bool, true, false, List, [], length, Option, None, Some}
use Rattle.pawn_csv.proofs.Basics.{refl, sym, ap, arith, get_or, IfSome, decimal, secret_texts_read_back}
use Rattle.pawn_csv.specs.Columns.{closing_text, form_text, issue_text, kind_text, text_if_any, yes_text}
use Rattle.pawn_csv.specs.Common.{Booking, Draw, Entry, Extension, Fixed, Issue, Issued, Kind, Opening, Rates, Repay}
use Rattle.pawn_csv.specs.Common.{Running, Sort, credit_of, secret_of_text, secret_text, sort_text, state_text}
use Rattle.pawn_csv.specs.Rows.{AreColumns, FitsColumns, IsColumnNumber, pledge_fields, row_fields}
use Rattle.pawn_csv.specs.Types.{ClosingWord, PledgeColumns, Row, Version}
use Rattle.pawn_pledge.specs.declared.record.BookingState.{BookingState}
use Rattle.pawn_terms.proofs.CalendarLemmas.{civil_after_is, count_of}
use Rattle.pawn_terms.proofs.TextLemmas.{civil_of-request, civil_text-injective}
use Rattle.pawn_terms.specs.Calendar.{IsRequestDay, day_text, civil_of, first_day}
use Rattle.std.proofs.lemmas.Fmt.{decimal_injective, decimal_nonempty}

-- columns

column : (place : ℕ) (a b : List (List ℕ)) → a ≡ b → get_or a place [] ≡ get_or b place []
column place a b e = ap (λ (fields : List (List ℕ)). get_or fields place []) e

-- two words that are equal have the same letter at each place
letter : (place : ℕ) (a b : List ℕ) → a ≡ b → get_or a place 0 ≡ get_or b place 0
letter place a b e = ap (λ (text : List ℕ). get_or text place 0) e

number : (n m : ℕ) → IsColumnNumber n → IsColumnNumber m → decimal n ≡ decimal m → n ≡ m
number n m hn hm e = decimal_injective n m (omega (arith, hn)) (omega (arith, hm)) e

day : (n m : ℕ) → IsRequestDay n → IsRequestDay m → day_text n ≡ day_text m → n ≡ m
day n m hn hm e =
    let same = civil_text-injective (civil_of n) (civil_of m) (civil_of-request n hn).1 (civil_of-request m hm).1 e in
    let counts : count_of (civil_of n) ≡ count_of (civil_of m) = ap count_of same in
    omega (arith, hn, hm, counts, (civil_after_is (n - first_day)).1, (civil_after_is (m - first_day)).1)

secret : (n m : ℕ) → n < 2 ^ 128 → m < 2 ^ 128 → secret_text n ≡ secret_text m → n ≡ m
secret n m hn hm e = let same : Some n ≡ Some m = sym (secret_texts_read_back n hn) ∙ ap secret_of_text e ∙ secret_texts_read_back m hm in cc

day_if_any : (a b : Option ℕ) → IfSome a IsRequestDay → IfSome b IsRequestDay → text_if_any day_text a ≡ text_if_any day_text b → a ≡ b
day_if_any None None ha hb e = refl
day_if_any None (Some m) ha hb e = absurd (omega (arith, ap length e))
day_if_any (Some n) None ha hb e = absurd (omega (arith, ap length e))
day_if_any (Some n) (Some m) ha hb e = ap (λ (d : ℕ). Some d) (day n m ha hb e)

number_if_any : (a b : Option ℕ) → IfSome a IsColumnNumber → IfSome b IsColumnNumber → text_if_any decimal a ≡ text_if_any decimal b → a ≡ b
number_if_any None None ha hb e = refl
number_if_any None (Some m) ha hb e = absurd (omega (arith, ap length e, decimal_nonempty m (omega (arith, hb))))
number_if_any (Some n) None ha hb e = absurd (omega (arith, ap length e, decimal_nonempty n (omega (arith, ha))))
number_if_any (Some n) (Some m) ha hb e = ap (λ (d : ℕ). Some d) (number n m ha hb e)

version_word : (a b : Version) → form_text a ≡ form_text b → a ≡ b
version_word Version.One Version.One e = refl
version_word Version.Two Version.Two e = refl
version_word a b e = absurd (omega (arith, letter 0 (form_text a) (form_text b) e))

yes_word : (a b : Bool) → yes_text a ≡ yes_text b → a ≡ b
yes_word true true e = refl
yes_word false false e = refl
yes_word a b e = absurd (omega (arith, letter 0 (yes_text a) (yes_text b) e))

closing_word : (a b : ClosingWord) → closing_text a ≡ closing_text b → a ≡ b
closing_word ClosingWord.Open ClosingWord.Open e = refl
closing_word ClosingWord.Redeemed ClosingWord.Redeemed e = refl
closing_word ClosingWord.Sold ClosingWord.Sold e = refl
closing_word a b e = absurd (omega (arith, letter 0 (closing_text a) (closing_text b) e))

issue_word : (a b : Issue) → issue_text a ≡ issue_text b → a ≡ b
issue_word Issue.Opening Issue.Opening e = refl
issue_word Issue.Sworn Issue.Sworn e = refl
issue_word Issue.Written Issue.Written e = refl
issue_word a b e = absurd (omega (arith, letter 0 (issue_text a) (issue_text b) e))

sort_word : (a b : Sort) → sort_text a ≡ sort_text b → a ≡ b
sort_word Draw Draw e = refl
sort_word Repay Repay e = refl
sort_word a b e = absurd (omega (arith, letter 0 (sort_text a) (sort_text b) e))

state_word : (a b : BookingState) → state_text a ≡ state_text b → a ≡ b
state_word BookingState.Asked BookingState.Asked e = refl
state_word BookingState.Confirmed BookingState.Confirmed e = refl
state_word BookingState.Refused BookingState.Refused e = refl
state_word BookingState.Cancelled BookingState.Cancelled e = refl
state_word a b e = absurd (omega (arith, letter 1 (state_text a) (state_text b) e))

kind : (a b : Kind) → kind_text a ≡ kind_text b → credit_of a ≡ credit_of b → a ≡ b
kind (Fixed n) (Fixed m) e credit = ap Fixed credit
kind (Running n) (Running m) e credit = ap Running credit
kind a b e credit = absurd (omega (arith, letter 0 (kind_text a) (kind_text b) e))

-- rows of each kind

same_rates : (a b : Rates) → a.rate ≡ b.rate → a.keep_before ≡ b.keep_before → a.keep_after ≡ b.keep_after → a ≡ b
same_rates a b e f g = rw (e, f, g) refl

same_issued : (a b : Issued) → a.day ≡ b.day → a.sort ≡ b.sort → a.secret ≡ b.secret → a ≡ b
same_issued a b e f g = rw (e, f, g) refl

same_entry : (a b : Entry) → a.seq ≡ b.seq → a.day ≡ b.day → a.sort ≡ b.sort → a.pence ≡ b.pence → a ≡ b
same_entry a b e f g h = rw (e, f, g, h) refl

same_extension : (a b : Extension) → a.day ≡ b.day → a.until ≡ b.until → a ≡ b
same_extension a b e f = rw (e, f) refl

same_booking : (a b : Booking) → a.day ≡ b.day → a.window ≡ b.window → a.state ≡ b.state → a ≡ b
same_booking a b e f g = rw (e, f, g) refl

same_opening : (a b : Opening) → a.reference ≡ b.reference → a.article ≡ b.article → a.kind ≡ b.kind → a.agreed ≡ b.agreed → a.five_days ≡ b.five_days → a ≡ b
same_opening a b e f g h i = rw (e, f, g, h, i) refl

same_columns : (a b : PledgeColumns) → a.number ≡ b.number → a.opening ≡ b.opening → a.taken ≡ b.taken → a.version ≡ b.version → a.held ≡ b.held
    → a.last ≡ b.last → a.closing ≡ b.closing → a.closing_day ≡ b.closing_day → a.amount ≡ b.amount → a ≡ b
same_columns a b e f g h i j k l m = rw (e, f, g, h, i, j, k, l, m) refl

one_pledge : (a b : PledgeColumns) → AreColumns a → AreColumns b → pledge_fields a ≡ pledge_fields b → a ≡ b
one_pledge a b ha hb e =
    let at = λ (place : ℕ). column place (pledge_fields a) (pledge_fields b) e in
    same_columns a b (number a.number b.number ha.number hb.number (at 1)) (same_opening a.opening b.opening (at 2) (at 3)
    (kind a.opening.kind b.opening.kind (at 4) (number (credit_of a.opening.kind) (credit_of b.opening.kind) ha.credit hb.credit (at 5)))
    (day_if_any a.opening.agreed b.opening.agreed ha.opening.agreed hb.opening.agreed (at 7)) (yes_word a.opening.five_days b.opening.five_days (at 8)))
    (day a.taken b.taken ha.taken hb.taken (at 6)) (number a.version b.version ha.version hb.version (at 9)) (yes_word a.held b.held (at 10))
    (day a.last b.last ha.last hb.last (at 11)) (closing_word a.closing b.closing (at 12))
    (day_if_any a.closing_day b.closing_day ha.closing_day hb.closing_day (at 13)) (number_if_any a.amount b.amount ha.amount hb.amount (at 14))

-- the letter of a row's kind
first_letter : (r s : Row) → row_fields r ≡ row_fields s → get_or (get_or (row_fields r) 0 []) 0 0 ≡ get_or (get_or (row_fields s) 0 []) 0 0
first_letter r s e = letter 0 (get_or (row_fields r) 0 []) (get_or (row_fields s) 0 []) (column 0 (row_fields r) (row_fields s) e)

-- two rows with the same columns are equal
pub one_row : (r s : Row) → FitsColumns r → FitsColumns s → row_fields r ≡ row_fields s → r ≡ s
one_row (Row.Book v t p) (Row.Book v2 t2 p2) hr hs same =
    let col = λ (place : ℕ). column place (row_fields (Row.Book v t p)) (row_fields (Row.Book v2 t2 p2)) same in
    let e = version_word v v2 (col 1) in let f = number t t2 hr.0 hs.0 (col 2) in let g = number p p2 hr.1 hs.1 (col 3) in
    rw (e, f, g) refl
one_row (Row.Terms v rates) (Row.Terms v2 rates2) hr hs same =
    let col = λ (place : ℕ). column place (row_fields (Row.Terms v rates)) (row_fields (Row.Terms v2 rates2)) same in
    let e = number v v2 hr.0 hs.0 (col 1) in
    let f = same_rates rates rates2 (number rates.rate rates2.rate hr.1 hs.1 (col 2)) (number rates.keep_before rates2.keep_before hr.2 hs.2 (col 3))
    (number rates.keep_after rates2.keep_after hr.3 hs.3 (col 4)) in
    rw (e, f) refl
one_row (Row.Pledge c) (Row.Pledge c2) hr hs same = ap Row.Pledge (one_pledge c c2 hr hs same)
one_row (Row.Secret n at i) (Row.Secret n2 at2 i2) hr hs same =
    let col = λ (place : ℕ). column place (row_fields (Row.Secret n at i)) (row_fields (Row.Secret n2 at2 i2)) same in
    let e = number n n2 hr.0 hs.0 (col 1) in let f = number at at2 hr.1 hs.1 (col 2) in
    let g = same_issued i i2 (day i.day i2.day hr.2 hs.2 (col 3)) (issue_word i.sort i2.sort (col 4)) (secret i.secret i2.secret hr.3 hs.3 (col 5)) in
    rw (e, f, g) refl
one_row (Row.Entry n entry) (Row.Entry n2 entry2) hr hs same =
    let col = λ (place : ℕ). column place (row_fields (Row.Entry n entry)) (row_fields (Row.Entry n2 entry2)) same in
    let e = number n n2 hr.0 hs.0 (col 1) in
    let f = same_entry entry entry2 (number entry.seq entry2.seq hr.1 hs.1 (col 2)) (day entry.day entry2.day hr.2 hs.2 (col 3))
    (sort_word entry.sort entry2.sort (col 4)) (number entry.pence entry2.pence hr.3 hs.3 (col 5)) in
    rw (e, f) refl
one_row (Row.Extension n at x) (Row.Extension n2 at2 x2) hr hs same =
    let col = λ (place : ℕ). column place (row_fields (Row.Extension n at x)) (row_fields (Row.Extension n2 at2 x2)) same in
    let e = number n n2 hr.0 hs.0 (col 1) in let f = number at at2 hr.1 hs.1 (col 2) in
    let g = same_extension x x2 (day x.day x2.day hr.2 hs.2 (col 3)) (day x.until x2.until hr.3 hs.3 (col 4)) in
    rw (e, f, g) refl
one_row (Row.Booking n b) (Row.Booking n2 b2) hr hs same =
    let col = λ (place : ℕ). column place (row_fields (Row.Booking n b)) (row_fields (Row.Booking n2 b2)) same in
    let e = number n n2 hr.0 hs.0 (col 1) in
    let f = same_booking b b2 (day b.day b2.day hr.1 hs.1 (col 2)) (number b.window b2.window hr.2 hs.2 (col 3)) (state_word b.state b2.state (col 4)) in
    rw (e, f) refl
one_row r s hr hs same = absurd (omega (arith, first_letter r s same))
