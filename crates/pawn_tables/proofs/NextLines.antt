-- The lines of numbered pledges, one after another.
use Rattle.pawn_tables.proofs.Basics.{nat_tests, map-map}
use Rattle.pawn_tables.proofs.PageLemmas.{is_page, map_each, page_as, take_each}
use Rattle.pawn_tables.proofs.SoundBooks.{unsound_book}
use Rattle.pawn_tables.proofs.StatementFinds.{found_as}
use Rattle.pawn_tables.specs.Common.{get, cons_option, IsNumber, PledgeValue, Each, BookValue, Host, pledges_of}
use Rattle.pawn_tables.specs.Common.{AreNumberedFrom, part_item, part_items, IsUnsoundAt, KeepError, SheetPart, SheetItem}
use Rattle.pawn_tables.specs.Finding.{Finds, IsRead}
use Rattle.pawn_tables.specs.Lines.{IsLineOf, IsLinesPage, item_of, items_past}
use Rattle.pawn_tables.specs.Pages.{most_page_rows}
use Rattle.pawn_tables.specs.Rows.{number_in_book}
use Rattle.pawn_tables.specs.StandsFor.{AreBooksOrdered}
use Rattle.pawn_tables.specs.declared.line.Line.{Line}
use Rattle.std.proofs.Common.{◌≡◌, ℕ, ◌+◌, ◌≤◌, ◌<◌, zero, suc, drop, List, [], ◌∷◌, map, filter, filter_map, length}
use Rattle.std.proofs.Common.{take, nat_lt, Bool, true, false, cond, Option, Some, None, Result, refl, sym, ap, ◌∙◌}
use Rattle.std.proofs.Common.{arith, option_map}

-- the pledges above a number
abbrev pub above : ℕ → List PledgeValue → List PledgeValue
above n ps = filter (λ (p : PledgeValue). nat_lt n (number_in_book p)) ps

-- their lines
abbrev pub told_above : {A : Type 0} → (PledgeValue → Option A) → ℕ → List PledgeValue → List A
told_above tell n ps = filter_map tell (above n ps)

-- the pledges of a book are numbered
pub numbered_in : (h : Host) (b : ℕ) → AreBooksOrdered h → AreNumberedFrom 1 (pledges_of (get h.books b))
numbered_in h b ordered = inside (get h.books b) refl where
  inside : (o : Option BookValue) → get h.books b ≡ o → AreNumberedFrom 1 (pledges_of o)
  inside None is = tt
  inside (Some k) is = (ordered b k is).pledges

-- all are above a number below the first
all_above : (n m : ℕ) (ps : List PledgeValue) → n < m → AreNumberedFrom m ps → above n ps ≡ ps
all_above n m [] lt numbered = refl
all_above n m (p ∷ ps) lt numbered = let at = numbered.0 in
    let over : nat_lt n (number_in_book p) ≡ true = grind (arith, nat_tests, lt, at) in
    ap (λ c. cond c (p ∷ above n ps) (above n ps)) over ∙ ap (λ l. p ∷ l) (all_above n (m + 1) ps (omega (arith, lt)) numbered.1)

-- they are those past so many
drop-above : (n k m : ℕ) (ps : List PledgeValue) → AreNumberedFrom k ps → m + 1 ≡ k + n → drop n ps ≡ above m ps
drop-above zero k m ps numbered is = sym (all_above m k ps (omega (arith, is)) numbered)
drop-above (suc n) k m [] numbered is = refl
drop-above (suc n) k m (p ∷ ps) numbered is = let at = numbered.0 in
    let under' : nat_lt m (number_in_book p) ≡ false = grind (arith, nat_tests, is, at) in
    drop-above n (k + 1) m ps numbered.1 (omega (arith, is)) ∙ sym (ap (λ c. cond c (p ∷ above m ps) (above m ps)) under')

drop-first : (n : ℕ) (ps : List PledgeValue) → AreNumberedFrom 1 ps → drop n ps ≡ above n ps
drop-first n ps numbered = drop-above n 1 n ps numbered (omega arith)

module _ {A : Type 0} (part : SheetPart) (day : ℕ) (tell : PledgeValue → Option A) (line : A → Line)
    (says : (p : PledgeValue) → part_item part day p ≡ option_map (λ a. item_of part (line a)) (tell p))
    (numbers : (p : PledgeValue) (a : A) → tell p ≡ Some a → (line a).number ≡ number_in_book p) where
  abbrev item : A → SheetItem
  item a = item_of part (line a)

  -- the items are those of the lines
  pub items_are : (ps : List PledgeValue) → part_items part day ps ≡ map item (filter_map tell ps)
  items_are [] = refl
  items_are (p ∷ ps) = (λ i. cons_option (says p i) (items_are ps i)) ∙ go (tell p) where
    go : (o : Option A) → cons_option (option_map item o) (map item (filter_map tell ps)) ≡ map item (cons_option o (filter_map tell ps))
    go None = refl
    go (Some a) = refl

  -- a line is of a pledge that is there
  from_first : (n k : ℕ) (ps : List PledgeValue) → AreNumberedFrom k ps → (a : A) (as' : List A) → told_above tell n ps ≡ a ∷ as' → k ≤ (line a).number
  from_first n k [] numbered a as' is = absurd (let e = is in cc)
  from_first n k (p ∷ ps) numbered a as' is = go (from_first n (k + 1) ps numbered.1 a as') (nat_lt n (number_in_book p)) is where
    one : (told_above tell n ps ≡ a ∷ as' → k + 1 ≤ (line a).number) → (o : Option A) → tell p ≡ o → cons_option o (told_above tell n ps) ≡ a ∷ as'
        → k ≤ (line a).number
    one rest None of is = let r = rest is in omega (arith, r)
    one rest (Some x) of is = let same : x ≡ a = (let e = is in cc) in
        let here = sym (ap (λ y. (line y).number) same) ∙ numbers p x of ∙ numbered.0 in
        omega (arith, here)

    go : (told_above tell n ps ≡ a ∷ as' → k + 1 ≤ (line a).number) → (c : Bool) → filter_map tell (cond c (p ∷ above n ps) (above n ps)) ≡ a ∷ as'
        → k ≤ (line a).number
    go rest false is = let r = rest is in omega (arith, r)
    go rest true is = one rest (tell p) refl is

  -- after the first, the lines are of the pledges above its own
  rest_is : (n k : ℕ) (ps : List PledgeValue) → AreNumberedFrom k ps → (a : A) (as' : List A) → told_above tell n ps ≡ a ∷ as'
      → told_above tell (line a).number ps ≡ as'
  rest_is n k [] numbered a as' is = absurd (let e = is in cc)
  rest_is n k (p ∷ ps) numbered a as' is = go (rest_is n (k + 1) ps numbered.1 a as') (nat_lt n (number_in_book p)) refl is where
    -- it is of a later pledge
    later : (told_above tell n ps ≡ a ∷ as' → told_above tell (line a).number ps ≡ as') → told_above tell n ps ≡ a ∷ as'
        → told_above tell (line a).number (p ∷ ps) ≡ as'
    later rest is = let low = from_first n (k + 1) ps numbered.1 a as' is in
        let at = numbered.0 in
        let under' : nat_lt (line a).number (number_in_book p) ≡ false = grind (arith, nat_tests, low, at) in
        ap (λ c. filter_map tell (cond c (p ∷ above (line a).number ps) (above (line a).number ps))) under' ∙ rest is

    one : (told_above tell n ps ≡ a ∷ as' → told_above tell (line a).number ps ≡ as') → nat_lt n (number_in_book p) ≡ true → (o : Option A) → tell p ≡ o
        → cons_option o (told_above tell n ps) ≡ a ∷ as' → told_above tell (line a).number (p ∷ ps) ≡ as'
    one rest over None of is = later rest is
    one rest over (Some x) of is = let same : x ≡ a = (let e = is in cc) in
        let left : told_above tell n ps ≡ as' = (let e = is in cc) in let at = numbered.0 in
        let here = sym (ap (λ y. (line y).number) same) ∙ numbers p x of ∙ numbered.0 in
        let under' : nat_lt (line a).number (number_in_book p) ≡ false = grind (arith, nat_tests, here, at) in
        let low : n < k + 1 = grind (arith, nat_tests, over, at) in
        ap (λ c. filter_map tell (cond c (p ∷ above (line a).number ps) (above (line a).number ps))) under'
        ∙ ap (filter_map tell) (all_above (line a).number (k + 1) ps (omega (arith, here)) numbered.1 ∙ sym (all_above n (k + 1) ps low numbered.1)) ∙ left

    go : (told_above tell n ps ≡ a ∷ as' → told_above tell (line a).number ps ≡ as') → (c : Bool) → nat_lt n (number_in_book p) ≡ c
        → filter_map tell (cond c (p ∷ above n ps) (above n ps)) ≡ a ∷ as' → told_above tell (line a).number (p ∷ ps) ≡ as'
    go rest false over is = later rest is
    go rest true over is = one rest over (tell p) refl is

  abbrev lines_above : List PledgeValue → ℕ → List Line
  lines_above ps m = map line (told_above tell m ps)

  -- a page of the lines shows what the part returns
  is_lines_page : (n : ℕ) (ps : List PledgeValue) → AreNumberedFrom 1 ps → IsLinesPage part day n ps (take most_page_rows (lines_above ps n))
  is_lines_page n ps numbered = page_as (lines_above ps) (λ m. items_past part day m ps) (item_of part) (λ (l : Line). l.number) n _ past_is
      (is_page (lines_above ps) (λ (l : Line). l.number) (λ m l more is. step m (told_above tell m ps) refl l more is) n) where
        past_is : (m : ℕ) → items_past part day m ps ≡ map (item_of part) (lines_above ps m)
        past_is m = ap (part_items part day) (drop-first m ps numbered) ∙ items_are (above m ps) ∙ sym (map-map (item_of part) line (told_above tell m ps))

        step : (m : ℕ) (as' : List A) → told_above tell m ps ≡ as' → (l : Line) (more : List Line) → map line as' ≡ l ∷ more → lines_above ps l.number ≡ more
        step m [] told l more is = absurd (let e = is in cc)
        step m (a ∷ as') told l more is = let same : line a ≡ l = (let e = is in cc) in
            let rest : map line as' ≡ more = (let e = is in cc) in
            ap (λ (x : Line). lines_above ps x.number) (sym same) ∙ ap (map line) (rest_is m 1 ps numbered a as' told) ∙ rest

  -- the numbers of the pledges of a sound book are such
  all_numbers : (n k : ℕ) (ps : List PledgeValue) → AreNumberedFrom k ps → 1 ≤ k → k + length ps ≤ 1000001
      → Each (λ (l : Line). IsNumber l.number) (lines_above ps n)
  all_numbers n k [] numbered low few = tt
  all_numbers n k (p ∷ ps) numbered low few = go (all_numbers n (k + 1) ps numbered.1 (omega arith) (omega (arith, few))) (nat_lt n (number_in_book p)) where
    one : Each (λ (l : Line). IsNumber l.number) (lines_above ps n) → (o : Option A) → tell p ≡ o
        → Each (λ (l : Line). IsNumber l.number) (map line (cons_option o (told_above tell n ps)))
    one rest None of = rest
    one rest (Some x) of = let at = numbers p x of ∙ numbered.0 in ((omega (arith, at, low), omega (arith, at, few)), rest)

    go : Each (λ (l : Line). IsNumber l.number) (lines_above ps n) → (c : Bool)
        → Each (λ (l : Line). IsNumber l.number) (map line (filter_map tell (cond c (p ∷ above n ps) (above n ps))))
    go rest false = rest
    go rest true = one rest (tell p) refl

  lines_unsound : (h : Host) (b n : ℕ) → (Each (λ (l : Line). IsNumber l.number) (take most_page_rows (lines_above (pledges_of (get h.books b)) n)) → ⊥)
      → IsUnsoundAt b h
  lines_unsound h b n bad = unsound_book h b (λ o. Each (λ (l : Line). IsNumber l.number) (take most_page_rows (lines_above (pledges_of o) n))) tt
      (λ k sound. let fits = sound.1.rows.few_pledges in
      take_each (λ (l : Line). IsNumber l.number) most_page_rows _ (all_numbers n 1 k.pledges sound.1.rows.numbered (omega arith) (omega (arith, fits)))) bad

  -- what was read of the rows of a page is a page of the part's lines
  pub lines_found : (h : Host) (b n : ℕ) → AreBooksOrdered h → ((a : A) → IsLineOf part (line a)) → (r : Result (List Line) KeepError)
      → ((lines : List Line) → lines ≡ take most_page_rows (lines_above (pledges_of (get h.books b)) n) → Each (IsLineOf part) lines
      → IsRead r lines (Each (λ (l : Line). IsNumber l.number) lines)) → Finds r (IsLinesPage part day n (pledges_of (get h.books b))) (IsUnsoundAt b h)
  lines_found h b n ordered is_line r read = let ps = pledges_of (get h.books b) in
      let each = take_each (IsLineOf part) most_page_rows _ (map_each (IsLineOf part) line (told_above tell n ps) is_line) in
      found_as r (take most_page_rows (lines_above ps n)) (IsLinesPage part day n ps) _ _ (read _ refl each) (is_lines_page n ps (numbered_in h b ordered))
      (lines_unsound h b n)
