-- The items of a day's sheet, part by part and window by window.
use Rattle.pawn_book.proofs.SheetLemmas.{hands_one, hands_stop, hands_then, windows_begin, windows_more}
use Rattle.pawn_book.specs.declared.sheet.SheetPart.{SheetPart}
use Rattle.pawn_list_keeper.specs.Common.{Flow, Go, HandsOver, PledgeValue, SheetItem, Stop, cons_option, flat_map}
use Rattle.pawn_list_keeper.specs.Common.{part_head, part_item, part_items, window_items, windows_below, with_head}
use Rattle.std.proofs.Common.{◌≡◌, ◌≢◌, ◌∙◌, ℕ, ◌+◌, ◌-◌, ◌<◌, ◌≤◌, suc, List, [], ◌∷◌, ◌++◌, Option, None, Some, refl}
use Rattle.std.proofs.Common.{sym, ap, subst, length, take, drop, get_or, arith, append-nil, cond, count_by, filter_map}
use Rattle.std.proofs.Common.{is_some, take-append-drop}
use Rattle.std.proofs.lemmas.List.{take_more}
use Rattle.std.proofs.lemmas.List.Elements.{filter_map-append}
use Rattle.std.proofs.lemmas.List.Recursion.{is_count_by}

-- of one element more
pub filter_map_more : {X Y : Type 0} (h : X → Option Y) (xs : List X) (i : ℕ) (d : X) (o : Option Y) → i < length xs → h (get_or xs i d) ≡ o
    → filter_map h (take (i + 1) xs) ≡ filter_map h (take i xs) ++ cons_option o []
filter_map_more h xs i d o less is =
    ap (filter_map h) (take_more xs i d less) ∙ filter_map-append h (take i xs) (get_or xs i d ∷ []) ∙ ap (λ t. filter_map h (take i xs) ++ cons_option t []) is

module _ {V X Y : Type 0} (step : V → Y → Flow → V → Type 0) (h : X → Option Y) (xs : List X) (i : ℕ) (x : X) (v u : V) where
  -- it gets what the element gives
  next_item : (y : Y) (flow : Flow) (w : V) → i < length xs → x ≡ get_or xs i x → h x ≡ Some y → HandsOver step v (filter_map h (take i xs)) Go u
      → step u y flow w → HandsOver step v (filter_map h (take (i + 1) xs)) flow w
  next_item y flow w less is gives before here =
      subst (λ ys. HandsOver step v ys flow w) (sym (filter_map_more h xs i x (Some y) less (sym (ap h is) ∙ gives)))
      (hands_then step v u w (filter_map h (take i xs)) (y ∷ []) flow before (hands_one step u w y flow here))

  -- .. and goes on
  pub item_goes : (y : Y) (w : V) → i < length xs → x ≡ get_or xs i x → h x ≡ Some y → HandsOver step v (filter_map h (take i xs)) Go u → step u y Go w
      → HandsOver step v (filter_map h (take (i + 1) xs)) Go w
  item_goes y w less is gives before here = next_item y Go w less is gives before here

  -- .. or stops
  pub item_stops : (y : Y) (w : V) → i < length xs → x ≡ get_or xs i x → h x ≡ Some y → HandsOver step v (filter_map h (take i xs)) Go u → step u y Stop w
      → HandsOver step v (filter_map h xs) Stop w
  item_stops y w less is gives before here =
      subst (λ ys. HandsOver step v ys Stop w) (sym (filter_map-append h (take (i + 1) xs) (drop (i + 1) xs)) ∙ ap (filter_map h) (take-append-drop (i + 1) xs))
      (hands_stop step v w (filter_map h (take (i + 1) xs)) (filter_map h (drop (i + 1) xs)) (next_item y Stop w less is gives before here))

  -- the element gives nothing
  pub item_skips : i < length xs → x ≡ get_or xs i x → h x ≡ None → HandsOver step v (filter_map h (take i xs)) Go u
      → HandsOver step v (filter_map h (take (i + 1) xs)) Go u
  item_skips less is gives before =
      subst (λ ys. HandsOver step v ys Go u) (sym (filter_map_more h xs i x None less (sym (ap h is) ∙ gives) ∙ append-nil (filter_map h (take i xs)))) before

length-cons_option : {Y : Type 0} (o : Option Y) (ys : List Y) → length (cons_option o ys) ≡ cond (is_some o) (1 + length ys) (length ys)
length-cons_option None ys = refl
length-cons_option (Some y) ys = omega arith

-- as many as there are elements that give one
pub length-filter_map : {X Y : Type 0} (h : X → Option Y) (xs : List X) → length (filter_map h xs) ≡ count_by (λ x. is_some (h x)) xs
length-filter_map h xs = is_count_by (λ ys. length (filter_map h ys)) (λ x. is_some (h x)) refl (λ x ys. length-cons_option (h x) (filter_map h ys)) xs

module _ {V : Type 0} (step : V → SheetItem → Flow → V → Type 0) (v u w : V) (part : SheetPart) (day : ℕ) (pledges : List PledgeValue) (heading : SheetItem)
    (count : ℕ) where
  headed : heading ≡ part_head part count → count ≡ count_by (λ p. is_some (part_item part day p)) pledges
      → heading ∷ part_items part day pledges ≡ with_head part (part_items part day pledges)
  headed is counted =
      ap (λ i. i ∷ part_items part day pledges) (is ∙ ap (part_head part) (counted ∙ sym (length-filter_map (part_item part day) pledges)))

  -- a part's items after their number
  pub head_goes : (flow : Flow) → heading ≡ part_head part count → count ≡ count_by (λ p. is_some (part_item part day p)) pledges → step v heading Go u
      → HandsOver step u (part_items part day pledges) flow w → HandsOver step v (with_head part (part_items part day pledges)) flow w
  head_goes flow is counted here rest =
      subst (λ items. HandsOver step v items flow w) (headed is counted)
      (hands_then step v u w (heading ∷ []) (part_items part day pledges) flow (hands_one step v u heading Go here) rest)

  -- .. or none of them
  pub head_stops : heading ≡ part_head part count → count ≡ count_by (λ p. is_some (part_item part day p)) pledges → step v heading Stop w
      → HandsOver step v (with_head part (part_items part day pledges)) Stop w
  head_stops is counted here =
      subst (λ items. HandsOver step v items Stop w) (headed is counted)
      (hands_stop step v w (heading ∷ []) (part_items part day pledges) (hands_one step v w heading Stop here))

-- a window without a confirmed visit, and one with a confirmed visit
pub window_none : (part : SheetPart) (items : List SheetItem) → length items ≡ 0 → window_items part items ≡ []
window_none part [] none = refl
window_none part (i ∷ is) none = absurd (omega (arith, none))

pub window_some : (part : SheetPart) (items : List SheetItem) → length items ≢ 0 → window_items part items ≡ with_head part items
window_some part [] some = absurd (some refl)
window_some part (i ∷ is) some = refl

-- a window's items after those of the windows before it
pub window_next : {V T : Type 0} (step : V → T → Flow → V → Type 0) (v u w : V) (f : ℕ → List T) (n : ℕ) (flow : Flow)
    → HandsOver step v (flat_map f (windows_below n)) Go u → HandsOver step u (f n) flow w → HandsOver step v (flat_map f (windows_below (n + 1))) flow w
window_next step v u w f n flow before here =
    let next : suc n ≡ n + 1 = omega arith in
    subst (λ items. HandsOver step v items flow w) (sym (windows_more f n) ∙ ap (λ (k : ℕ). flat_map f (windows_below k)) next)
    (hands_then step v u w (flat_map f (windows_below n)) (f n) flow before here)

-- it stopped in a window, so it gets nothing of the later ones
pub windows_stop : {V T : Type 0} (step : V → T → Flow → V → Type 0) (v w : V) (f : ℕ → List T) (n last : ℕ) → n ≤ last
    → HandsOver step v (flat_map f (windows_below n)) Stop w → HandsOver step v (flat_map f (windows_below last)) Stop w
windows_stop step v w f n last within stopped =
    let left : (last - n) + n ≡ last = omega (arith, within) in
    let rest = windows_begin f n (last - n) in
    subst (λ items. HandsOver step v items Stop w) (sym rest.1 ∙ ap (λ (k : ℕ). flat_map f (windows_below k)) left)
    (hands_stop step v w (flat_map f (windows_below n)) rest.0 stopped)
