-- Places of a list. The first place is 1.
use Rattle.pawn_tables.specs.Pages.{most_page_rows}
use Rattle.std.specs.Prelude.{ℕ, zero, suc, List, Option, None, drop, slice_get, take}

abbrev pub at_place : {A : Type 0} → List A → ℕ → Option A
at_place xs zero = None
at_place xs (suc n) = slice_get xs n

-- a page of a list after a place: the next elements, at most as many as a page may have
abbrev pub page_behind : {A : Type 0} → ℕ → List A → List A
page_behind place xs = take most_page_rows (drop place xs)
