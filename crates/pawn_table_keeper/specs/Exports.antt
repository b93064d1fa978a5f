-- The rows of pledges as the keeper gathers them from pages.
use Rattle.pawn_book.specs.Items.{items_of_pledge}
use Rattle.pawn_book.specs.declared.items.RowItem.{RowItem}
use Rattle.pawn_table_keeper.specs.Common.{BookValue, PledgeValue, pledge_in}
use Rattle.pawn_tables.specs.Kinds.{IsKindPage, own_items, kind_rows_if_any}
use Rattle.pawn_tables.specs.declared.kinds.RowKind.{RowKind}
use Rattle.pawn_tables.specs.declared.ranges.KindPage.{KindPage}
use Rattle.pawn_base.specs.Lists.{Each}
use Rattle.std.specs.Prelude.{ℕ, zero, suc, ◌+◌, ◌≡◌, if◌then◌else◌, nat_le, List, [], ◌∷◌, ◌++◌, map, Option, Some, None}

-- the rows of the page's kind of pledge n: those of the page if it is whole so far, or else those of the book
abbrev pub page_or_book_rows : ℕ → Option BookValue → KindPage → List RowItem
page_or_book_rows n book page = if nat_le n page.whole then own_items n page.items.items else kind_rows_if_any page.kind (pledge_in book n)

-- the rows of the pledge of a number, if there is one
abbrev pub pledge_rows_if_any : Option PledgeValue → List RowItem
pledge_rows_if_any None = []
pledge_rows_if_any (Some p) = items_of_pledge p

abbrev pub number_rows : Option BookValue → ℕ → List RowItem
number_rows book n = pledge_rows_if_any (pledge_in book n)

-- so many numbers after one
abbrev pub numbers_from : ℕ → ℕ → List ℕ
numbers_from above zero = []
numbers_from above (suc n) = (above + 1) ∷ numbers_from (above + 1) n

-- a page of each of these kinds, in their order
pub record AreKindPages (kinds : List RowKind) (above : ℕ) (book : Option BookValue) (pages : List KindPage) : Type 0 where
  pub kinds_are : map (λ (p : KindPage). p.kind) pages ≡ kinds
  pub each : Each (IsKindPage above book) pages

-- a page of this kind is added to others
pub record AddsKind (kind : RowKind) (above : ℕ) (book : Option BookValue) (old new : List KindPage) : Type 0 where
  pub page : KindPage
  pub added : new ≡ old ++ page ∷ []
  pub kind_is : page.kind ≡ kind
  pub is : IsKindPage above book page
