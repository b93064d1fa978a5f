-- The lines of a day's sheet, page by page.
use Rattle.pawn_book.specs.declared.sheet.SheetItem.TheVariants.{Confirmed, Asked, Ends}
use Rattle.pawn_pledge.specs.Limits.{last_window}
use Rattle.pawn_tables.specs.Common.{AllByRecursion, IsDistinct, list_any, Row, PledgeValue, part_items, SheetPart}
use Rattle.pawn_tables.specs.Common.{SheetItem}
use Rattle.pawn_tables.specs.Heads.{number_cells}
use Rattle.pawn_tables.specs.Pages.{IsPage}
use Rattle.pawn_tables.specs.Rows.{number}
use Rattle.pawn_tables.specs.declared.line.Line.{Line}
use Rattle.std.specs.Prelude.{ℕ, ◌≡◌, ◌≢◌, ◌≤◌, ◌==◌, false, List, [], ◌∷◌, drop}
use Rattle.pawn_book.specs.declared.sheet.SheetPart.TheVariants as part

-- the part's items for the pledges after the first n; pledges are numbered from 1, so these are the pledges with a
-- number greater than n
abbrev pub items_past : SheetPart → ℕ → ℕ → List PledgeValue → List SheetItem
items_past part day n pledges = part_items part day (drop n pledges)

-- the sheet's item for a line of a part
abbrev pub item_of : SheetPart → Line → SheetItem
item_of (part.Confirmed window) line = Confirmed line.number
item_of part.Asked line = Asked line.number line.window
item_of part.Ends line = Ends line.number

-- a page of the lines of a part, for the pledges with a number greater than n
abbrev pub IsLinesPage : SheetPart → ℕ → ℕ → List PledgeValue → List Line → Type 0
IsLinesPage part day n pledges page = IsPage (λ m. items_past part day m pledges) (item_of part) (λ (l : Line). l.number) n page

-- the line of pledge n, whose booking is confirmed for the window
abbrev pub confirmed_line : ℕ → ℕ → Line
confirmed_line window n = record { number = n; window = window }

-- the line of a booking that is asked, from its pledge's number and its window
abbrev pub asked_line : ℕ × ℕ → Line
asked_line a = record { number = a.0; window = a.1 }

-- the line of pledge n, whose period ends; it has no window
abbrev pub ends_line : ℕ → Line
ends_line n = record { number = n; window = 0 }

-- the line has the window that lines of the part have
abbrev pub IsLineOf : SheetPart → Line → Type 0
IsLineOf (part.Confirmed window) line = line.window ≡ window
IsLineOf part.Asked line = Unit {0}
IsLineOf part.Ends line = line.window ≡ 0

-- the row of a booking that is asked: its pledge's number and its window
abbrev pub asked_cells : ℕ × ℕ → Row
asked_cells a = number a.0 ∷ number a.1 ∷ []

-- the row that a query returns for a line
abbrev pub line_cells : SheetPart → Line → Row
line_cells (part.Confirmed window) line = number_cells line.number
line_cells part.Asked line = asked_cells (line.number, line.window)
line_cells part.Ends line = number_cells line.number

-- the windows of a day that have a confirmed booking, each once
pub record NamesWindows (day : ℕ) (pledges : List PledgeValue) (windows : List ℕ) : Type 0 where
  -- a window of 0 to 15 that is not listed has no confirmed booking
  pub whole : (w : ℕ) → w ≤ last_window → list_any (λ n. n == w) windows ≡ false → part_items (part.Confirmed w) day pledges ≡ []
  pub comes : AllByRecursion (λ w. (w ≤ last_window) × (part_items (part.Confirmed w) day pledges ≢ [])) windows
  pub once : IsDistinct (λ m n. m == n) windows
