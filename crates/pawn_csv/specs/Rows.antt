-- A book as rows, and a row as columns.
use Rattle.pawn_csv.specs.Columns.{form_text, yes_text, kind_text, closing_text, issue_text, text_if_any}
use Rattle.pawn_csv.specs.Common.{BookRows, Booking, Closing, Each, Entry, Extension, IsOpening, IsUtf8, IsWord, Issued}
use Rattle.pawn_csv.specs.Common.{PledgeValue, Rates, Standing, credit_of, default_writer, flat_map, row_text}
use Rattle.pawn_csv.specs.Common.{secret_text, sort_text, state_text}
use Rattle.pawn_csv.specs.Types.{COLUMNS, ClosingWord, NUMBERS_END, PledgeColumns, Row, Version}
use Rattle.pawn_pledge.specs.declared.record.Agreement.{Agreement}
use Rattle.pawn_terms.specs.Calendar.{IsRequestDay, day_text}
use Rattle.std.specs.Prelude.{◌≡◌, ℕ, ◌+◌, ◌-◌, ◌<◌, List, [], ◌∷◌, ◌++◌, length, map, replicate, Option, Some, None}
use Rattle.std.specs.Prelude.{IfSome, codes, decimal}

-- the first row: the names of the columns
abbrev pub header : List (List ℕ)
header =
    codes "row" ∷ codes "c1" ∷ codes "c2" ∷ codes "c3" ∷ codes "c4" ∷ codes "c5" ∷ codes "c6" ∷ codes "c7" ∷ codes "c8"
    ∷ codes "c9" ∷ codes "c10" ∷ codes "c11" ∷ codes "c12" ∷ codes "c13" ∷ codes "c14" ∷ []

-- this many empty columns
abbrev pub empty_columns : ℕ → List (List ℕ)
empty_columns n = replicate n []

-- a row that begins with these columns; the others are empty
abbrev pub padded : List (List ℕ) → List (List ℕ)
padded columns = columns ++ empty_columns (COLUMNS - length columns)

-- the columns of a pledge's own row
abbrev pub pledge_fields : PledgeColumns → List (List ℕ)
pledge_fields c =
    codes "P" ∷ decimal c.number ∷ c.opening.reference ∷ c.opening.article
    ∷ kind_text c.opening.kind ∷ decimal (credit_of c.opening.kind) ∷ day_text c.taken ∷ text_if_any day_text c.opening.agreed
    ∷ yes_text c.opening.five_days ∷ decimal c.version ∷ yes_text c.held ∷ day_text c.last
    ∷ closing_text c.closing ∷ text_if_any day_text c.closing_day ∷ text_if_any decimal c.amount ∷ []

-- the columns of a row
abbrev pub row_fields : Row → List (List ℕ)
row_fields (Row.Book version terms pledges) = padded (codes "B" ∷ form_text version ∷ decimal terms ∷ decimal pledges ∷ [])
row_fields (Row.Terms version rates) =
    padded (codes "T" ∷ decimal version ∷ decimal rates.rate ∷ decimal rates.keep_before ∷ decimal rates.keep_after ∷ [])
row_fields (Row.Pledge columns) = pledge_fields columns
row_fields (Row.Secret number place i) =
    padded (codes "S" ∷ decimal number ∷ decimal place ∷ day_text i.day ∷ issue_text i.sort ∷ secret_text i.secret ∷ [])
row_fields (Row.Entry number e) =
    padded (codes "E" ∷ decimal number ∷ decimal e.seq ∷ day_text e.day ∷ sort_text e.sort ∷ decimal e.pence ∷ [])
row_fields (Row.Extension number place e) =
    padded (codes "X" ∷ decimal number ∷ decimal place ∷ day_text e.day ∷ day_text e.until ∷ [])
row_fields (Row.Booking number b) =
    padded (codes "K" ∷ decimal number ∷ day_text b.day ∷ decimal b.window ∷ state_text b.state ∷ [])

-- a number of at most twelve digits
abbrev pub IsColumnNumber : ℕ → Type 0
IsColumnNumber n = n < NUMBERS_END

-- the limits of each column of a pledge's own row, each column taken by itself
pub record AreColumns (c : PledgeColumns) : Type 0 where
  pub number : IsColumnNumber c.number
  pub opening : IsOpening c.opening
  pub reference : IsUtf8 c.opening.reference
  pub article : IsUtf8 c.opening.article
  pub credit : IsColumnNumber (credit_of c.opening.kind)
  pub taken : IsRequestDay c.taken
  pub version : IsColumnNumber c.version
  pub last : IsRequestDay c.last
  pub closing_day : IfSome c.closing_day IsRequestDay
  pub amount : IfSome c.amount IsColumnNumber

-- the limits of each column of a row, each column taken by itself
abbrev pub FitsColumns : Row → Type 0
FitsColumns (Row.Book version terms pledges) = IsColumnNumber terms × IsColumnNumber pledges
FitsColumns (Row.Terms version rates) = IsColumnNumber version × IsColumnNumber rates.rate × IsColumnNumber rates.keep_before × IsColumnNumber rates.keep_after
FitsColumns (Row.Pledge columns) = AreColumns columns
FitsColumns (Row.Secret number place i) = IsColumnNumber number × IsColumnNumber place × IsRequestDay i.day × IsWord i.secret
FitsColumns (Row.Entry number e) = IsColumnNumber number × IsColumnNumber e.seq × IsRequestDay e.day × IsColumnNumber e.pence
FitsColumns (Row.Extension number place e) = IsColumnNumber number × IsColumnNumber place × IsRequestDay e.day × IsRequestDay e.until
FitsColumns (Row.Booking number b) = IsColumnNumber number × IsRequestDay b.day × IsColumnNumber b.window

-- the word that states a closing
abbrev pub closing_word : Closing → ClosingWord
closing_word Closing.Open = ClosingWord.Open
closing_word (Closing.Redeemed day paid) = ClosingWord.Redeemed
closing_word (Closing.Sold day net) = ClosingWord.Sold

-- the day of a closing, if there was one
abbrev pub closing_day : Closing → Option ℕ
closing_day Closing.Open = None
closing_day (Closing.Redeemed day paid) = Some day
closing_day (Closing.Sold day net) = Some day

-- the sum that was paid, or the net proceeds of the sale
abbrev pub closing_amount : Closing → Option ℕ
closing_amount Closing.Open = None
closing_amount (Closing.Redeemed day paid) = Some paid
closing_amount (Closing.Sold day net) = Some net

-- the columns of a pledge's own row, from what was agreed and its present state
abbrev pub own_columns : Agreement → Standing → PledgeColumns
own_columns a s = record {
  number = a.number;
  opening = a.opening;
  taken = a.taken;
  version = a.version;
  held = s.held;
  last = s.last;
  closing = closing_word s.closing;
  closing_day = closing_day s.closing;
  amount = closing_amount s.closing;
}

-- the columns of a pledge's own row
abbrev pub pledge_columns : PledgeValue → PledgeColumns
pledge_columns p = own_columns p.agreement p.standing

-- the rows of terms, for versions from this one on
abbrev pub terms_rows : ℕ → List Rates → List Row
terms_rows version [] = []
terms_rows version (t ∷ ts) = Row.Terms version t ∷ terms_rows (version + 1) ts

-- the rows of a pledge's secrets, at places from this one on
abbrev pub secret_rows : ℕ → ℕ → List Issued → List Row
secret_rows number place [] = []
secret_rows number place (i ∷ is) = Row.Secret number place i ∷ secret_rows number (place + 1) is

-- the rows of a pledge's entries
abbrev pub entry_rows : ℕ → List Entry → List Row
entry_rows number entries = map (Row.Entry number) entries

-- the rows of a pledge's extensions, at places from this one on
abbrev pub extension_rows : ℕ → ℕ → List Extension → List Row
extension_rows number place [] = []
extension_rows number place (e ∷ es) = Row.Extension number place e ∷ extension_rows number (place + 1) es

-- the row of a pledge's booking, if there is one
abbrev pub booking_csv_rows : ℕ → Option Booking → List Row
booking_csv_rows number None = []
booking_csv_rows number (Some b) = Row.Booking number b ∷ []

-- a pledge's row, then those of its secrets, its entries, its extensions and its booking
abbrev pub pledge_csv_rows : PledgeValue → List Row
pledge_csv_rows p =
    let n = p.agreement.number in
    Row.Pledge (pledge_columns p)
    ∷ (secret_rows n 1 p.secrets ++ (entry_rows n p.entries ++ (extension_rows n 1 p.extensions ++ booking_csv_rows n p.standing.booking)))

-- a book's rows: its counts, its terms by version, and its pledges by number
abbrev pub book_csv_rows : Version → BookRows → List Row
book_csv_rows version k =
    Row.Book version (length k.terms) (length k.pledges) ∷ (terms_rows 1 k.terms ++ flat_map pledge_csv_rows k.pledges)

-- the records of a book in a version of the form
abbrev pub version_rows : Version → BookRows → List (List (List ℕ))
version_rows version k = header ∷ map row_fields (book_csv_rows version k)

-- a book's records
abbrev pub csv_rows : BookRows → List (List (List ℕ))
csv_rows k = version_rows Version.Two k

-- the records of a book without extensions, in the first version of the form
abbrev pub csv1_rows : BookRows → List (List (List ℕ))
csv1_rows k = version_rows Version.One k

-- a book's text
abbrev pub csv_of : BookRows → List ℕ
csv_of k = flat_map (row_text default_writer) (csv_rows k)

-- only version 2 has rows for extensions
abbrev pub Knows : Version → BookRows → Type 0
Knows Version.One k = Each (λ p. p.extensions ≡ []) k.pledges
Knows Version.Two k = Unit {0}
