-- The rows of pledges, in the order of an export.
use Rattle.pawn_book.specs.Common.{Booking, Issued, PledgeValue, end_of, flat_map}
use Rattle.pawn_book.specs.declared.items.PledgeItem.{PledgeItem}
use Rattle.pawn_book.specs.declared.items.RowItem.{RowItem}
use Rattle.pawn_debt.specs.declared.entry.Entry.{Entry}
use Rattle.pawn_pledge.specs.declared.record.Extension.{Extension}
use Rattle.std.specs.Prelude.{ℕ, ◌+◌, List, [], ◌∷◌, ◌++◌, map, Option, Some, None}

-- a pledge's own row
abbrev pub pledge_item : PledgeValue → PledgeItem
pledge_item p = record {
  number = p.agreement.number;
  opening = p.agreement.opening;
  taken = p.agreement.taken;
  version = p.agreement.version;
  ends = end_of p;
  held = p.standing.held;
  last = p.standing.last;
  closing = p.standing.closing;
}

-- the rows of a pledge's secrets, at places from this one on
abbrev pub secret_items : ℕ → ℕ → List Issued → List RowItem
secret_items number place [] = []
secret_items number place (i ∷ is) = RowItem.Secret number place i ∷ secret_items number (place + 1) is

-- the rows of a pledge's entries
abbrev pub entry_items : ℕ → List Entry → List RowItem
entry_items number entries = map (RowItem.Entry number) entries

-- the rows of a pledge's extensions, at places from this one on
abbrev pub extension_items : ℕ → ℕ → List Extension → List RowItem
extension_items number place [] = []
extension_items number place (e ∷ es) = RowItem.Extension number place e ∷ extension_items number (place + 1) es

-- the row of a pledge's booking, if there is one
abbrev pub booking_items : ℕ → Option Booking → List RowItem
booking_items number None = []
booking_items number (Some b) = RowItem.Booking number b ∷ []

-- a pledge's rows: its own, then those of its secrets, its entries, its extensions and its booking
abbrev pub items_of_pledge : PledgeValue → List RowItem
items_of_pledge p =
    let n = p.agreement.number in
    RowItem.Pledge (pledge_item p)
    ∷ (secret_items n 1 p.secrets ++ (entry_items n p.entries ++ (extension_items n 1 p.extensions ++ booking_items n p.standing.booking)))

-- the rows of all pledges, in the order of their numbers
abbrev pub rows_of_pledges : List PledgeValue → List RowItem
rows_of_pledges pledges = flat_map items_of_pledge pledges

-- the number of the pledge to which a row belongs
abbrev pub item_number : RowItem → ℕ
item_number (RowItem.Pledge pledge) = pledge.number
item_number (RowItem.Secret number place issued) = number
item_number (RowItem.Entry number entry) = number
item_number (RowItem.Extension number place extension) = number
item_number (RowItem.Booking number booking) = number
