-- The first page of a part's lines.
use Rattle.pawn_book.proofs.SheetLemmas.{windows_more}
use Rattle.pawn_table_keeper.specs.Common.{flat_map, list_any, PledgeValue, part_items, window_items, window_sheet}
use Rattle.pawn_table_keeper.specs.Common.{windows_below, windows_sheet, with_head, SheetPart, SheetItem, IsLinesPage}
use Rattle.pawn_table_keeper.specs.Common.{NamesWindows, item_of, items_past, most_page_rows, page_end}
use Rattle.pawn_table_keeper.specs.Windows.{named_sheet, named_sheets}
use Rattle.pawn_tables.specs.declared.line.Line.{Line}
use Rattle.std.proofs.Common.{◌≡◌, ◌≢◌, ◌==◌, ◌∙◌, ◌++◌, ◌<◌, ◌≤◌, ℕ, zero, suc, Bool, true, false, cond, List, [], ◌∷◌}
use Rattle.std.proofs.Common.{length, map, refl, sym, ap, append-nil, arith}
use Rattle.pawn_book.specs.declared.sheet.SheetPart.TheVariants as part_of

abbrev items_of : SheetPart → List Line → List SheetItem
items_of part page = map (item_of part) page

module _ (part : SheetPart) (day : ℕ) (ps : List PledgeValue) (page : List Line) (told : IsLinesPage part day 0 ps page) where
  -- a page that is not full has them all
  pub whole_page : length page < most_page_rows → part_items part day ps ≡ items_of part page
  whole_page short = told.goes_on ∙ ap (λ xs. items_of part page ++ xs) (told.is_last short) ∙ append-nil (items_of part page)

-- a window with a confirmed visit is named
some_head : (part : SheetPart) (page : List Line) (more : List SheetItem) → page ≢ []
    → window_items part (items_of part page ++ more) ≡ with_head part (items_of part page ++ more)
some_head part [] more some = absurd (some refl)
some_head part (l ∷ ls) more some = refl

pub some_page : (part : SheetPart) (page : List Line) → page ≢ [] → window_items part (items_of part page) ≡ with_head part (items_of part page)
some_page part [] some = absurd (some refl)
some_page part (l ∷ ls) some = refl

pub some_items : (part : SheetPart) (day : ℕ) (ps : List PledgeValue) (page : List Line) → page ≢ [] → IsLinesPage part day 0 ps page
    → window_items part (part_items part day ps) ≡ with_head part (part_items part day ps)
some_items part day ps page some told =
    let is : part_items part day ps ≡ items_of part page ++ items_past part day (page_end (λ (l : Line). l.number) 0 page) ps = told.goes_on in
    ap (window_items part) is ∙ some_head part page _ some ∙ sym (ap (with_head part) is)

-- ---- the windows that are read

module _ (named : List ℕ) (ps : List PledgeValue) (day w : ℕ) where
  pub is_named : list_any (λ n. n == w) named ≡ true → window_sheet ps day w ≡ named_sheet named ps day w
  is_named is = sym (ap (λ c. cond c (window_sheet ps day w) []) is)

  pub not_named : list_any (λ n. n == w) named ≡ false → named_sheet named ps day w ≡ []
  not_named is = ap (λ c. cond c (window_sheet ps day w) []) is

-- they are all windows with a confirmed visit
pub named_all : (day : ℕ) (ps : List PledgeValue) (named : List ℕ) → NamesWindows day ps named → named_sheets named ps day ≡ windows_sheet ps day
named_all day ps named names = upto 16 (omega arith) where
  one : (w : ℕ) → w ≤ 15 → (c : Bool) → list_any (λ n. n == w) named ≡ c → cond c (window_sheet ps day w) [] ≡ window_sheet ps day w
  one w few true is = refl
  one w few false is = sym (ap (window_items (part_of.Confirmed w)) (names.whole w few is))

  upto : (n : ℕ) → n ≤ 16 → flat_map (named_sheet named ps day) (windows_below n) ≡ flat_map (window_sheet ps day) (windows_below n)
  upto zero few = refl
  upto (suc n) few = windows_more (named_sheet named ps day) n
      ∙ (λ i. upto n (omega (arith, few)) i ++ one n (omega (arith, few)) (list_any (λ m. m == n) named) refl i) ∙ sym (windows_more (window_sheet ps day) n)
