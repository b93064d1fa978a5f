-- The rows of pledges by kind, as an export reads them.
use Rattle.pawn_book.specs.Items.{booking_items, entry_items, extension_items, item_number, pledge_item, secret_items}
use Rattle.pawn_book.specs.declared.items.RowItem.{RowItem}
use Rattle.pawn_tables.specs.Common.{BookValue, IsDayNumber, IsNumber, IsWord, PledgeItem, PledgeValue, Row, Text}
use Rattle.pawn_tables.specs.Common.{credit_of, last_element, pledge_in}
use Rattle.pawn_tables.specs.Entries.{IsEntryDecodable, entries_from}
use Rattle.pawn_tables.specs.Pages.{IsPage, most_page_rows}
use Rattle.pawn_tables.specs.PledgeRows.{IsOpeningDecodable}
use Rattle.pawn_tables.specs.Rows.{booking_cells, closed_amount, closed_day, closed_number, entry_cells}
use Rattle.pawn_tables.specs.Rows.{extension_cells, flag, kind_number, number, or_null, secret_cells}
use Rattle.pawn_tables.specs.declared.kinds.RowKind.{RowKind}
use Rattle.pawn_tables.specs.declared.ranges.KindPage.{KindPage}
use Rattle.pawn_tables.specs.declared.records.PledgeRow.{PledgeRow}
use Rattle.pawn_tables.specs.declared.texts.TheConstants.{READ_BOOKINGS_RANGE, READ_ENTRIES_RANGE}
use Rattle.pawn_tables.specs.declared.texts.TheConstants.{READ_EXTENSIONS_RANGE, READ_PLEDGES_RANGE}
use Rattle.pawn_tables.specs.declared.texts.TheConstants.{READ_SECRETS_RANGE}
use Rattle.std.specs.Prelude.{ℕ, zero, suc, ◌≡◌, ◌==◌, ◌+◌, ◌-◌, ◌≤◌, ◌<◌, if◌then◌else◌, nat_lt, List, [], ◌∷◌, ◌++◌, drop}
use Rattle.std.specs.Prelude.{filter, length, option_map, unwrap_or, IfSome, Option, Some, None}

-- all kinds, in the order of an export
abbrev pub row_kinds : List RowKind
row_kinds = RowKind.Pledge ∷ RowKind.Secret ∷ RowKind.Entry ∷ RowKind.Extension ∷ RowKind.Booking ∷ []

-- the kind of a row
abbrev pub row_kind : RowItem → RowKind
row_kind (RowItem.Pledge pledge) = RowKind.Pledge
row_kind (RowItem.Secret number place issued) = RowKind.Secret
row_kind (RowItem.Entry number entry) = RowKind.Entry
row_kind (RowItem.Extension number place extension) = RowKind.Extension
row_kind (RowItem.Booking number booking) = RowKind.Booking

-- the rows of one kind of a pledge
abbrev pub kind_rows : RowKind → PledgeValue → List RowItem
kind_rows RowKind.Pledge p = RowItem.Pledge (pledge_item p) ∷ []
kind_rows RowKind.Secret p = secret_items p.agreement.number 1 p.secrets
kind_rows RowKind.Entry p = entry_items p.agreement.number p.entries
kind_rows RowKind.Extension p = extension_items p.agreement.number 1 p.extensions
kind_rows RowKind.Booking p = booking_items p.agreement.number p.standing.booking

-- of a pledge, if there is one
abbrev pub kind_rows_if_any : RowKind → Option PledgeValue → List RowItem
kind_rows_if_any kind None = []
kind_rows_if_any kind (Some p) = kind_rows kind p

-- ---- a row as the cells that a query returns

-- a pledge's own row
abbrev pub own_cells : PledgeItem → Row
own_cells q =
    let o = q.opening in
    Text o.reference ∷ Text o.article ∷ number (kind_number o.kind) ∷ number (credit_of o.kind) ∷ number q.taken ∷ or_null number o.agreed ∷ flag o.five_days
    ∷ number q.version ∷ number q.ends ∷ flag q.held ∷ number q.last
    ∷ number (closed_number q.closing) ∷ or_null number (closed_day q.closing) ∷ or_null number (closed_amount q.closing) ∷ []

-- the same row, decoded
abbrev pub own_row : PledgeItem → PledgeRow
own_row q = record { opening = q.opening; taken = q.taken; version = q.version; ends = q.ends; held = q.held; last = q.last; closing = q.closing }

-- any row, without the number of its pledge
abbrev pub item_cells : RowItem → Row
item_cells (RowItem.Pledge pledge) = own_cells pledge
item_cells (RowItem.Secret number place issued) = secret_cells place issued
item_cells (RowItem.Entry number entry) = entry_cells entry
item_cells (RowItem.Extension number place extension) = extension_cells place extension
item_cells (RowItem.Booking number booking) = booking_cells booking

-- the same, with that number in the last column if it is not given otherwise
abbrev pub cells_of : Option ℕ → RowItem → Row
cells_of None i = item_cells i ++ number (item_number i) ∷ []
cells_of (Some given) i = item_cells i

-- the column with the number
abbrev pub number_place : RowKind → ℕ
number_place RowKind.Pledge = 14
number_place RowKind.Secret = 4
number_place RowKind.Entry = 4
number_place RowKind.Extension = 3
number_place RowKind.Booking = 3

-- ---- when a row can be decoded

-- a secret has 128 bits
abbrev pub CanBeRead : RowItem → Type 0
CanBeRead (RowItem.Pledge pledge) = Unit {0}
CanBeRead (RowItem.Secret number place issued) = IsWord issued.secret
CanBeRead (RowItem.Entry number entry) = Unit {0}
CanBeRead (RowItem.Extension number place extension) = Unit {0}
CanBeRead (RowItem.Booking number booking) = Unit {0}

-- a row of this kind, and of the pledge that is given, if one is
pub record IsRowOf (kind : RowKind) (given : Option ℕ) (i : RowItem) : Type 0 where
  pub kind_is : row_kind i ≡ kind
  pub number_is : IfSome given (λ n. item_number i ≡ n)
  pub word : CanBeRead i

-- the texts of a pledge's own row are within their limits, and its days are days of the calendar
pub record IsOwnDecodable (q : PledgeItem) : Type 0 where
  pub opening : IsOpeningDecodable q.opening
  pub taken : IsDayNumber q.taken
  pub last : IsDayNumber q.last
  pub closed : IfSome (closed_day q.closing) IsDayNumber

-- the cells of a row can be decoded
abbrev pub AreCellsDecodable : RowItem → Type 0
AreCellsDecodable (RowItem.Pledge pledge) = IsOwnDecodable pledge
AreCellsDecodable (RowItem.Secret number place issued) = IsDayNumber issued.day
AreCellsDecodable (RowItem.Entry number entry) = IsEntryDecodable entry
AreCellsDecodable (RowItem.Extension number place extension) = IsDayNumber extension.day × IsDayNumber extension.until
AreCellsDecodable (RowItem.Booking number booking) = IsDayNumber booking.day

-- a row can be decoded: its cells can be, and its pledge's number is one that a pledge may have
abbrev pub IsItemDecodable : RowItem → Type 0
IsItemDecodable i = AreCellsDecodable i × IsNumber (item_number i)

-- ---- the rows of a range of pledges

-- the query for the rows of a kind
abbrev pub range_text : RowKind → List ℕ
range_text RowKind.Pledge = READ_PLEDGES_RANGE.now
range_text RowKind.Secret = READ_SECRETS_RANGE.now
range_text RowKind.Entry = READ_ENTRIES_RANGE.now
range_text RowKind.Extension = READ_EXTENSIONS_RANGE.now
range_text RowKind.Booking = READ_BOOKINGS_RANGE.now

-- up to which number rows are whole: to the end of the range, or to the pledge before that of the last row of a full page
abbrev pub whole_upto : ℕ → List RowItem → ℕ
whole_upto upto items = if nat_lt (length items) most_page_rows then upto else unwrap_or (option_map (λ i. item_number i - 1) (last_element items)) upto

-- the rows of pledge n
abbrev pub own_items : ℕ → List RowItem → List RowItem
own_items n items = filter (λ i. item_number i == n) items

-- the page has all rows of its kind of the pledges above a number, up to the number to which it is whole
abbrev pub IsKindPage : ℕ → Option BookValue → KindPage → Type 0
IsKindPage above book page = (n : ℕ) → above < n → n ≤ page.whole → own_items n page.items.items ≡ kind_rows_if_any page.kind (pledge_in book n)

-- ---- the pages of one list

-- what is left of the rows of a kind from a place on: of a list, the entries that are numbered `from` or more, and the
-- secrets or extensions at greater places
abbrev pub list_left : RowKind → ℕ → PledgeValue → List RowItem
list_left RowKind.Pledge zero p = kind_rows RowKind.Pledge p
list_left RowKind.Pledge (suc from) p = []
list_left RowKind.Secret from p = secret_items p.agreement.number (from + 1) (drop from p.secrets)
list_left RowKind.Entry from p = entry_items p.agreement.number (entries_from from p.entries)
list_left RowKind.Extension from p = extension_items p.agreement.number (from + 1) (drop from p.extensions)
list_left RowKind.Booking zero p = kind_rows RowKind.Booking p
list_left RowKind.Booking (suc from) p = []

-- of a pledge, if there is one
abbrev pub left_of_kind : RowKind → ℕ → Option PledgeValue → List RowItem
left_of_kind kind from None = []
left_of_kind kind from (Some p) = list_left kind from p

-- where the next page begins after a row
abbrev pub item_end : RowItem → ℕ
item_end (RowItem.Pledge pledge) = 0
item_end (RowItem.Secret number place issued) = place
item_end (RowItem.Entry number entry) = entry.seq + 1
item_end (RowItem.Extension number place extension) = place
item_end (RowItem.Booking number booking) = 0

-- a page of the rows of a kind from a place on
abbrev pub IsListPage : RowKind → ℕ → Option PledgeValue → List RowItem → Type 0
IsListPage kind from pledge page = IsPage (λ m. left_of_kind kind m pledge) (λ (i : RowItem). i) item_end from page
