-- Passing one list after another to a visitor, and the windows of a day's sheet.
use Rattle.pawn_book.specs.Books.{Flow, Go, Stop}
use Rattle.pawn_book.specs.Common.{flat_map}
use Rattle.pawn_book.specs.Sheet.{windows_below}
use Rattle.pawn_book.specs.Visits.{Handed, HandsOver}
use Rattle.std.proofs.Common.{◌≡◌, ◌∙◌, ℕ, ◌+◌, zero, suc, List, [], ◌∷◌, ◌++◌, refl, sym, ap, subst, inl, inr, arith}
use Rattle.std.proofs.Common.{append_assoc, append-nil}
use Rattle.std.proofs.lemmas.Grind.{flat_map-append}

-- items at none of which the visitor stopped, and then further ones
pub handed-append : {V T : Type 0} (step : V → T → Flow → V → Type 0) (v u w : V) (xs ys : List T) (flow : Flow)
    → Handed step v xs Go u → Handed step u ys flow w → Handed step v (xs ++ ys) flow w
handed-append step v u w [] ys flow before after = subst (λ (s : _). Handed step s ys flow w) (sym before.1) after
handed-append step v u w (x ∷ xs) ys flow before after = elim before [
  | inl going ↦ inl (going.0, going.1, handed-append step going.0 u w xs ys flow going.2 after)
  | inr stopped ↦ cc
]

-- a single item is passed
pub hands_one : {V T : Type 0} (step : V → T → Flow → V → Type 0) (v w : V) (x : T) (flow : Flow) → step v x flow w → HandsOver step v (x ∷ []) flow w
hands_one step v w x Go here = (x ∷ [], inl (w, here, (refl, refl)), ([], refl, λ go whole. refl))
hands_one step v w x Stop here = (x ∷ [], inr (refl, refl, here), ([], refl, λ go whole. refl))

-- a list and then another
pub hands_then : {V T : Type 0} (step : V → T → Flow → V → Type 0) (v u w : V) (xs ys : List T) (flow : Flow)
    → HandsOver step v xs Go u → HandsOver step u ys flow w → HandsOver step v (xs ++ ys) flow w
hands_then step v u w xs ys flow first then =
    let all : first.0 ≡ xs = sym (append-nil first.0) ∙ ap (λ t. first.0 ++ t) (sym (first.2.2 refl refl)) ∙ first.2.1 in (
      first.0 ++ then.0,
      handed-append step v u w first.0 then.0 flow first.1 then.1,
      (then.2.0, append_assoc first.0 then.0 then.2.0 ∙ ap (λ t. first.0 ++ t) then.2.1 ∙ ap (λ t. t ++ ys) all, then.2.2),
    )

-- the visitor stopped in a list, so it gets nothing of the next
pub hands_stop : {V T : Type 0} (step : V → T → Flow → V → Type 0) (v w : V) (xs ys : List T) → HandsOver step v xs Stop w → HandsOver step v (xs ++ ys) Stop w
hands_stop step v w xs ys first =
    (first.0, first.1, (first.2.0 ++ ys, sym (append_assoc first.0 first.2.0 ys) ∙ ap (λ t. t ++ ys) first.2.1, λ go. cc go))

-- windows

-- the items with one more window
pub windows_more : {T : Type 0} (f : ℕ → List T) (n : ℕ) → flat_map f (windows_below (suc n)) ≡ flat_map f (windows_below n) ++ f n
windows_more f n = flat_map-append f (windows_below n) (n ∷ []) ∙ ap (λ t. flat_map f (windows_below n) ++ t) (append-nil (f n))

-- those below a number begin with those below a lesser one
pub windows_begin : {T : Type 0} (f : ℕ → List T) (n more : ℕ)
    → (rest : List T) × (flat_map f (windows_below (more + n)) ≡ flat_map f (windows_below n) ++ rest)
windows_begin f n zero = let same : zero + n ≡ n = omega arith in ([], ap (λ k. flat_map f (windows_below k)) same ∙ sym (append-nil _))
windows_begin f n (suc more) =
    let less = windows_begin f n more in
    let next : suc more + n ≡ suc (more + n) = omega arith in (
      less.0 ++ f (more + n),
      ap (λ k. flat_map f (windows_below k)) next ∙ windows_more f (more + n) ∙ ap (λ t. t ++ f (more + n)) less.1
          ∙ append_assoc (flat_map f (windows_below n)) less.0 (f (more + n)),
    )
