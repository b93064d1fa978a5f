-- A visitor that gets page after page.
use Rattle.pawn_book.proofs.Reading.{reads_as}
use Rattle.pawn_book.proofs.VisitLemmas.{handed-snoc}
use Rattle.pawn_table_keeper.proofs.Handings.{HandedTo, ends_by, goes_by, stops_by}
use Rattle.pawn_table_keeper.specs.Common.{Host, Keeping, Reads, Handed, HandsOver, Flow, Go, Stop, most_page_rows}
use Rattle.pawn_table_keeper.specs.Common.{page_behind}
use Rattle.pawn_table_keeper.specs.Handing.{HandsRows}
use Rattle.std.proofs.Common.{◌≤◌, ◌≡◌, ◌++◌, ℕ, zero, suc, ◌+◌, ◌*◌, ◌<◌, List, [], ◌∷◌, length, map, take, drop}
use Rattle.std.proofs.Common.{get_or, Ok, refl, sym, ap, subst, ◌∙◌, append-nil, arith, drop-drop, take_all}
use Rattle.std.proofs.Common.{take-append-drop}
use Rattle.std.proofs.lemmas.List.{map-append, take_more}

module _ {V A T : Type 0} (step : V → T → Flow → V → Type 0) (shows : A → T) (xs : List A) where
  -- it got all
  pub page_whole : (v u : V) (i : ℕ) → i ≡ length xs → Handed step v (map shows (take i xs)) Go u → HandsOver step v (map shows xs) Go u
  page_whole v u i end before =
      let whole : map shows (take i xs) ≡ map shows xs = ap (λ n. map shows (take n xs)) end ∙ ap (map shows) (take_all (length xs) xs (omega arith)) in
      (map shows (take i xs), before, ([], append-nil _ ∙ whole, λ go whole. refl))

  module _ (v u w : V) (i : ℕ) (x : A) (lt : i < length xs) (is : x ≡ get_or xs i x) (before : Handed step v (map shows (take i xs)) Go u) where
    one_more : map shows (take i xs) ++ shows x ∷ [] ≡ map shows (take (i + 1) xs)
    one_more = ap (λ y. map shows (take i xs) ++ shows y ∷ []) is ∙ sym (map-append shows (take i xs) (get_or xs i x ∷ []))
        ∙ ap (map shows) (sym (take_more xs i x lt))

    -- it gets one more
    pub page_goes : step u (shows x) Go w → Handed step v (map shows (take (i + 1) xs)) Go w
    page_goes here = subst (λ ys. Handed step v ys Go w) one_more (handed-snoc step v u w (map shows (take i xs)) (shows x) Go before here)

    -- .. and the visitor stops
    pub page_stops : step u (shows x) Stop w → HandsOver step v (map shows xs) Stop w
    page_stops here = (
      map shows (take (i + 1) xs),
      subst (λ ys. Handed step v ys Stop w) one_more (handed-snoc step v u w (map shows (take i xs)) (shows x) Stop before here),
      (map shows (drop (i + 1) xs), sym (map-append shows (take (i + 1) xs) (drop (i + 1) xs)) ∙ ap (map shows) (take-append-drop (i + 1) xs), λ e. cc e),
    )

-- ---- pages after a place

short_last : {A : Type 0} (k : ℕ) (xs : List A) → length (take k xs) < k → drop k xs ≡ []
short_last zero xs short = absurd (omega (arith, short))
short_last (suc k) [] short = refl
short_last (suc k) (x ∷ xs) short = short_last k xs (omega (arith, short))

module _ {A : Type 0} (n : ℕ) (xs page : List A) (is : page ≡ page_behind n xs) where
  -- the rest goes on after the page
  page_next : drop n xs ≡ page ++ drop (n + most_page_rows) xs
  page_next = sym (take-append-drop most_page_rows (drop n xs)) ∙ (λ i. sym is i ++ drop-drop most_page_rows n xs i)

  -- nothing follows a page that is not full
  page_ends : length page < most_page_rows → drop (n + most_page_rows) xs ≡ []
  page_ends short = sym (drop-drop most_page_rows n xs) ∙ short_last most_page_rows (drop n xs) (subst (λ l. length l < most_page_rows) is short)

module _ {K V T : Type 0} (k : Keeping K) (step : V → T → Flow → V → Type 0) (listed : Host → List T) where
  -- it got the pages before one, and asks for more
  abbrev pub HandedPages : K → K → V → V → ℕ → Type 0
  HandedPages old now v u turn = HandedTo k step listed (λ n h. drop n (listed h)) old now v u (turn * most_page_rows) turn

  module _ (old now new : K) (v u w : V) (turn : ℕ) (before : HandedPages old now v u turn) (page : List T)
      (read : Reads k now new (λ h. page ≡ page_behind (turn * most_page_rows) (listed h))) where
    abbrev start : ℕ
    start = turn * most_page_rows

    abbrev left : ℕ → Host → List T
    left n h = drop n (listed h)

    told : Reads k now new
        (λ h. (left start h ≡ page ++ left (start + most_page_rows) h) × (length page < most_page_rows → left (start + most_page_rows) h ≡ []))
    told = reads_as read (λ h is. (page_next start (listed h) page is, page_ends start (listed h) page is))

    -- it gets one more, and more are left
    pub pages_go : 1 ≤ length page → HandsOver step u page Go w → HandedPages old new v w (turn + 1)
    pages_go some here = let next : start + most_page_rows ≡ (turn + 1) * most_page_rows = omega arith in
        subst (λ n. HandedTo k step listed left old new v w n (turn + 1)) next
        (goes_by k step listed left old now new v u w start (start + most_page_rows) turn before page told some here)

    -- .. and it is the last
    pub pages_end : {IsUnsound : Host → Type 0} → length page < most_page_rows → HandsOver step u page Go w
        → HandsRows k IsUnsound step old new v w (Ok Go) listed
    pages_end short here = ends_by k step listed left old now new v u w start (start + most_page_rows) turn before page told short here

    -- .. and the visitor stops in it
    pub pages_stop : {IsUnsound : Host → Type 0} → HandsOver step u page Stop w → HandsRows k IsUnsound step old new v w (Ok Stop) listed
    pages_stop here = stops_by k step listed left old now new v u w start (start + most_page_rows) turn before page told here
