-- The rows of pledges, added one by one, and passed pledge by pledge.
use Rattle.pawn_book.proofs.SheetLemmas.{hands_stop, hands_then}
use Rattle.pawn_book.specs.Items.{extension_items, secret_items}
use Rattle.pawn_book.specs.Visits.{Front}
use Rattle.pawn_book.specs.declared.items.RowItem.{RowItem}
use Rattle.pawn_list_keeper.specs.Common.{Flow, Go, HandsOver, IsShare, Stop, Visits, Whole, flat_map}
use Rattle.pawn_pledge.specs.declared.record.Extension.{Extension}
use Rattle.pawn_pledge.specs.declared.record.Issued.{Issued}
use Rattle.std.proofs.Common.{◌≡◌, ◌∙◌, ◌++◌, ◌+◌, ◌<◌, ℕ, zero, suc, List, [], ◌∷◌, length, take, drop, get_or, refl, sym, ap}
use Rattle.std.proofs.Common.{subst, arith, append-nil, take-append-drop}
use Rattle.std.proofs.lemmas.Grind.{flat_map-append}
use Rattle.std.proofs.lemmas.List.{take_more}

-- one secret more
pub secrets_push : (n at : ℕ) (xs : List Issued) (i : ℕ) (x : Issued) → i < length xs → x ≡ get_or xs i x
    → secret_items n at (take (i + 1) xs) ≡ secret_items n at (take i xs) ++ RowItem.Secret n (at + i) x ∷ []
secrets_push n at [] i x lt is = absurd (omega (arith, lt))
secrets_push n at (y ∷ xs) zero x lt is = let same : at ≡ at + zero = omega arith in λ j. RowItem.Secret n (same j) (sym is j) ∷ []
secrets_push n at (y ∷ xs) (suc i) x lt is =
    let further : suc i + 1 ≡ suc (i + 1) = omega arith in let next : at + 1 + i ≡ at + suc i = omega arith in
    ap (λ k. secret_items n at (take k (y ∷ xs))) further ∙ ap (λ l. RowItem.Secret n at y ∷ l)
    (secrets_push n (at + 1) xs i x (omega (arith, lt)) is ∙ ap (λ k. secret_items n (at + 1) (take i xs) ++ RowItem.Secret n k x ∷ []) next)

-- one extension more
pub extensions_push : (n at : ℕ) (xs : List Extension) (i : ℕ) (x : Extension) → i < length xs → x ≡ get_or xs i x
    → extension_items n at (take (i + 1) xs) ≡ extension_items n at (take i xs) ++ RowItem.Extension n (at + i) x ∷ []
extensions_push n at [] i x lt is = absurd (omega (arith, lt))
extensions_push n at (y ∷ xs) zero x lt is = let same : at ≡ at + zero = omega arith in λ j. RowItem.Extension n (same j) (sym is j) ∷ []
extensions_push n at (y ∷ xs) (suc i) x lt is =
    let further : suc i + 1 ≡ suc (i + 1) = omega arith in let next : at + 1 + i ≡ at + suc i = omega arith in
    ap (λ k. extension_items n at (take k (y ∷ xs))) further ∙ ap (λ l. RowItem.Extension n at y ∷ l)
    (extensions_push n (at + 1) xs i x (omega (arith, lt)) is ∙ ap (λ k. extension_items n (at + 1) (take i xs) ++ RowItem.Extension n k x ∷ []) next)

module _ {V A T : Type 0} (step : V → T → Flow → V → Type 0) (f : A → List T) (xs : List A) (v u : V) (i : ℕ)
    (before : HandsOver step v (flat_map f (take i xs)) Go u) where
  -- the visitor got what a front of the list gives
  pub rows_front : Visits step v u (λ given flow. IsShare given flow Front (flat_map f xs))
  rows_front = let all : before.0 ≡ flat_map f (take i xs) =
      sym (append-nil before.0) ∙ ap (λ t. before.0 ++ t) (sym (before.2.2 refl refl)) ∙ before.2.1 in (
        before.0,
        Go,
        before.1,
        (
          flat_map f (drop i xs),
          ap (λ t. t ++ flat_map f (drop i xs)) all ∙ sym (flat_map-append f (take i xs) (drop i xs)) ∙ ap (flat_map f)
              (take-append-drop i xs),
          λ go whole. cc whole,
        ),
      )

  module _ (w : V) (x : A) (lt : i < length xs) (is : x ≡ get_or xs i x) where
    one_more : flat_map f (take i xs) ++ f x ≡ flat_map f (take (i + 1) xs)
    one_more = ap (λ y. flat_map f (take i xs) ++ f y) is ∙ ap (λ l. flat_map f (take i xs) ++ l) (sym (append-nil (f (get_or xs i x))))
        ∙ sym (flat_map-append f (take i xs) (get_or xs i x ∷ [])) ∙ ap (flat_map f) (sym (take_more xs i x lt))

    pub rows_go : HandsOver step u (f x) Go w → HandsOver step v (flat_map f (take (i + 1) xs)) Go w
    rows_go here = subst (λ ys. HandsOver step v ys Go w) one_more (hands_then step v u w (flat_map f (take i xs)) (f x) Go before here)

    pub rows_stop : HandsOver step u (f x) Stop w → Visits step v w (λ given flow. IsShare given flow Whole (flat_map f xs))
    rows_stop here = let all = subst (λ ys. HandsOver step v ys Stop w) (ap (λ t. t ++ flat_map f (drop (i + 1) xs)) one_more
        ∙ sym (flat_map-append f (take (i + 1) xs) (drop (i + 1) xs)) ∙ ap (flat_map f) (take-append-drop (i + 1) xs))
        (hands_stop step v w (flat_map f (take i xs) ++ f x) (flat_map f (drop (i + 1) xs))
        (hands_then step v u w (flat_map f (take i xs)) (f x) Stop before here)) in
        (all.0, Stop, all.1, all.2)
