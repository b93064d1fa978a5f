-- The part of a day's sheet that belongs to some of its windows.
use Rattle.pawn_table_keeper.specs.Common.{flat_map, list_any, PledgeValue, window_sheet, windows, SheetItem}
use Rattle.std.specs.Prelude.{ℕ, ◌==◌, if◌then◌else◌, List, []}

-- a window's heading and items, if the window is among `named`
abbrev pub named_sheet : List ℕ → List PledgeValue → ℕ → ℕ → List SheetItem
named_sheet named pledges day window = if list_any (λ n. n == window) named then window_sheet pledges day window else []

-- the headings and items of the day's windows that are among `named`
abbrev pub named_sheets : List ℕ → List PledgeValue → ℕ → List SheetItem
named_sheets named pledges day = flat_map (named_sheet named pledges day) windows
