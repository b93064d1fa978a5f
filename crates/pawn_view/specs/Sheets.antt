-- The text of a day's sheet, and the visitor that writes it.
use Rattle.pawn_view.specs.Common.{Asked, AskedHead, BookValue, Confirmed, Ends, EndsHead, Flow, Host, PledgeValue}
use Rattle.pawn_view.specs.Common.{PutsLine, SheetItem, Window, day_sheet, flat_map, get}
use Rattle.pawn_view.specs.Text.{day_line, number_line}
use Rattle.pawn_view.specs.declared.sheets.SheetLines.{SheetLines}
use Rattle.std.specs.Prelude.{ℕ, List, ◌++◌, Option, ◌≡◌, codes, decimal, option_map}

-- a window's line: the number of confirmed visits, and the book's capacity
abbrev pub window_line : ℕ → ℕ → ℕ → List ℕ
window_line capacity window count =
    codes "Window " ++ (decimal window ++ (codes " confirmed " ++ (decimal count ++ (codes " of " ++ (decimal capacity ++ codes "\n")))))

-- a booking that is asked for: its pledge and its window
abbrev pub asked_sheet_line : ℕ → ℕ → List ℕ
asked_sheet_line number window = codes "Pledge " ++ (decimal number ++ (codes " window " ++ (decimal window ++ codes "\n")))

-- the line of an item
abbrev pub sheet_line : ℕ → SheetItem → List ℕ
sheet_line capacity (Window window count) = window_line capacity window count
sheet_line capacity (Confirmed number) = number_line (codes "Pledge ") number
sheet_line capacity (AskedHead count) = number_line (codes "Asked ") count
sheet_line capacity (Asked number window) = asked_sheet_line number window
sheet_line capacity (EndsHead count) = number_line (codes "Ends ") count
sheet_line capacity (Ends number) = number_line (codes "Pledge ") number

-- a day's sheet: its heading, then a line for each item
abbrev pub sheet_text : ℕ → ℕ → List SheetItem → List ℕ
sheet_text day capacity items = day_line (codes "Day sheet ") day ++ flat_map (sheet_line capacity) items

-- the lines of a day after its heading
abbrev pub day_lines : ℕ → ℕ → List PledgeValue → List ℕ
day_lines capacity day pledges = flat_map (sheet_line capacity) (day_sheet pledges day)

-- a book's sheet for a day
abbrev pub book_sheet : ℕ → BookValue → List ℕ
book_sheet day book = sheet_text day book.capacity (day_sheet book.pledges day)

-- the same, if the host has the book
abbrev pub sheet_of : Host → ℕ → ℕ → Option (List ℕ)
sheet_of h book day = option_map (book_sheet day) (get h.books book)

-- a visitor that writes a line for each item to the writer that it borrows; the writer and the capacity stay the same
pub record PutsItem {W : Type 0} (contents : W → Option (List ℕ)) (v : SheetLines W) (item : SheetItem) (flow : Flow) (w : SheetLines W) : Type 0 where
  pub puts : PutsLine contents (sheet_line v.capacity) v.writer.now item flow w.writer.now
  pub same_capacity : w.capacity ≡ v.capacity
  pub same_writer : w.writer.ghost_name ≡ v.writer.ghost_name
