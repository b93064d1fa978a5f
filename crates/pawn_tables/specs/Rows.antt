-- The rows that books and pledges are stored in.
use Rattle.pawn_tables.specs.Common.{to_be_bytes, w128, Row, Value, Blob, Int, Null, Text, Rates, credit_of, totals_of}
use Rattle.pawn_tables.specs.Common.{Entry, Kind, Fixed, Running, Sort, Draw, Repay, Totals, PledgeValue, debt_of}
use Rattle.pawn_tables.specs.Common.{end_of, Booking, BookingState, Closing, Extension, Issue, Issued, BookValue}
use Rattle.pawn_tables.specs.Common.{Imported}
use Rattle.std.specs.Prelude.{ℕ, ◌+◌, Bool, if◌then◌else◌, List, [], ◌∷◌, length, map, pos, Option, Some, None}
use Rattle.std.specs.Prelude.{option_map}

-- ---- values

abbrev pub number : ℕ → Value
number n = Int (pos n)

-- a flag is encoded as 0 or 1
abbrev pub flag_number : Bool → ℕ
flag_number b = if b then 1 else 0

abbrev pub flag : Bool → Value
flag b = number (flag_number b)

-- a key or a secret is encoded as its sixteen bytes, the most significant first
abbrev pub word : ℕ → Value
word w = Blob (to_be_bytes w128 w)

-- a value, or NULL where there is none
abbrev pub or_null : {A : Type 0} → (A → Value) → Option A → Value
or_null f None = Null
or_null f (Some x) = f x

abbrev pub kind_number : Kind → ℕ
kind_number (Fixed sum) = 0
kind_number (Running limit) = 1

abbrev pub sort_number : Sort → ℕ
sort_number Draw = 0
sort_number Repay = 1

abbrev pub issue_number : Issue → ℕ
issue_number Issue.Opening = 0
issue_number Issue.Sworn = 1
issue_number Issue.Written = 2

abbrev pub state_number : BookingState → ℕ
state_number BookingState.Asked = 0
state_number BookingState.Confirmed = 1
state_number BookingState.Refused = 2
state_number BookingState.Cancelled = 3

-- the number that encodes a closing
abbrev pub closed_number : Closing → ℕ
closed_number Closing.Open = 0
closed_number (Closing.Redeemed day paid) = 1
closed_number (Closing.Sold day net) = 2

-- the day of the closing
abbrev pub closed_day : Closing → Option ℕ
closed_day Closing.Open = None
closed_day (Closing.Redeemed day paid) = Some day
closed_day (Closing.Sold day net) = Some day

-- the sum in pence that was paid, or that the sale brought
abbrev pub closed_amount : Closing → Option ℕ
closed_amount Closing.Open = None
closed_amount (Closing.Redeemed day paid) = Some paid
closed_amount (Closing.Sold day net) = Some net

-- the key of the import that filled a book, and how many pledges came with it
abbrev pub import_key : Option Imported → Option ℕ
import_key imported = option_map (λ i. i.key) imported

abbrev pub import_count : Option Imported → Option ℕ
import_count imported = option_map (λ i. i.pledges) imported

-- ---- the cells of the rows after their primary keys

abbrev pub head_cells : BookValue → Row
head_cells k =
    word k.key ∷ Text k.name ∷ number k.capacity ∷ number (length k.terms) ∷ number (length k.pledges)
    ∷ or_null word (import_key k.imported) ∷ or_null number (import_count k.imported) ∷ []

abbrev pub terms_cells : Rates → Row
terms_cells t = number t.rate ∷ number t.keep_before ∷ number t.keep_after ∷ []

abbrev pub pledge_cells : PledgeValue → Row
pledge_cells p =
    let o = p.agreement.opening in
    Text o.reference ∷ Text o.article ∷ number (kind_number o.kind) ∷ number (credit_of o.kind) ∷ number p.agreement.taken ∷ or_null number o.agreed
    ∷ flag o.five_days ∷ number p.agreement.version ∷ number (end_of p) ∷ flag p.standing.held ∷ number p.standing.last
    ∷ number (closed_number p.standing.closing) ∷ or_null number (closed_day p.standing.closing) ∷ or_null number (closed_amount p.standing.closing) ∷ []

-- the cells of a pledge's row that its debt depends on
abbrev pub credit_cells : PledgeValue → Row
credit_cells p =
    let o = p.agreement.opening in
    number (kind_number o.kind) ∷ number (credit_of o.kind) ∷ number p.agreement.taken ∷ or_null number o.agreed ∷ number p.agreement.version ∷ []

abbrev pub entry_cells : Entry → Row
entry_cells e = number e.seq ∷ number e.day ∷ number (sort_number e.sort) ∷ number e.pence ∷ []

abbrev pub secret_cells : ℕ → Issued → Row
secret_cells place i = number place ∷ number i.day ∷ number (issue_number i.sort) ∷ word i.secret ∷ []

abbrev pub extension_cells : ℕ → Extension → Row
extension_cells place e = number place ∷ number e.day ∷ number e.until ∷ []

abbrev pub booking_cells : Booking → Row
booking_cells k = number k.day ∷ number k.window ∷ number (state_number k.state) ∷ []

abbrev pub totals_cells : Totals → Row
totals_cells t = number t.day ∷ number t.principal ∷ number t.millionths ∷ []

-- ---- lists of rows

-- one row, or none
abbrev pub at_most_one : {A : Type 0} → (A → Row) → Option A → List Row
at_most_one f None = []
at_most_one f (Some x) = f x ∷ []

-- the rows of the elements, whose places are numbered from `at` on
abbrev pub placed_from : {A : Type 0} → (ℕ → A → Row) → ℕ → List A → List Row
placed_from f at [] = []
placed_from f at (x ∷ xs) = f at x ∷ placed_from f (at + 1) xs

-- the row of a book
abbrev pub book_row : ℕ → BookValue → Row
book_row b k = number b ∷ head_cells k

-- the rows of a book's terms, one for each version
abbrev pub terms_listed : ℕ → BookValue → List Row
terms_listed b k = placed_from (λ version t. number b ∷ number version ∷ terms_cells t) 1 k.terms

-- a row of pledge n of book b
abbrev pub under : ℕ → ℕ → Row → Row
under b n cells = number b ∷ number n ∷ cells

abbrev pub number_in_book : PledgeValue → ℕ
number_in_book p = p.agreement.number

abbrev pub pledge_listed : ℕ → PledgeValue → List Row
pledge_listed b p = under b (number_in_book p) (pledge_cells p) ∷ []

abbrev pub entries_listed : ℕ → PledgeValue → List Row
entries_listed b p = map (λ e. under b (number_in_book p) (entry_cells e)) p.entries

abbrev pub secrets_listed : ℕ → PledgeValue → List Row
secrets_listed b p = placed_from (λ place i. under b (number_in_book p) (secret_cells place i)) 1 p.secrets

abbrev pub extensions_listed : ℕ → PledgeValue → List Row
extensions_listed b p = placed_from (λ place e. under b (number_in_book p) (extension_cells place e)) 1 p.extensions

-- one row if the pledge has a booking
abbrev pub booking_listed : ℕ → PledgeValue → List Row
booking_listed b p = at_most_one (λ k. under b (number_in_book p) (booking_cells k)) p.standing.booking

abbrev pub totals_listed : ℕ → PledgeValue → List Row
totals_listed b p = under b (number_in_book p) (totals_cells (totals_of (debt_of p))) ∷ []
