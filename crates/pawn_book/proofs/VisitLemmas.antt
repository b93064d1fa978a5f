-- The items that a visitor got, one by one.
use Rattle.pawn_book.specs.Books.{Flow, Go, Stop}
use Rattle.pawn_book.specs.Gathering.{Gathers}
use Rattle.pawn_book.specs.Visits.{Handed}
use Rattle.pawn_book.specs.declared.gather.Gathering.{Gathering}
use Rattle.std.proofs.Common.{◌≡◌, ◌∙◌, ℕ, List, [], ◌∷◌, ◌++◌, refl, sym, ap, subst, inl, inr, ◌<◌, ◌+◌, length, take}
use Rattle.std.proofs.Common.{drop, get_or, append_assoc, append-nil, take-append-drop, false}
use Rattle.std.proofs.lemmas.List.{drop_more}

-- a list, cut at a place
pub cut_at : {X : Type 0} (xs : List X) (i : ℕ) (d : X) → i < length xs → take i xs ++ get_or xs i d ∷ drop (i + 1) xs ≡ xs
cut_at xs i d lt = ap (λ t. take i xs ++ t) (sym (drop_more xs i d lt)) ∙ take-append-drop i xs

-- one more item, after items at none of which the visitor stopped
pub handed-snoc : {V T : Type 0} (step : V → T → Flow → V → Type 0) (v u w : V) (xs : List T) (x : T) (flow : Flow)
    → Handed step v xs Go u → step u x flow w → Handed step v (xs ++ x ∷ []) flow w
handed-snoc step v u w [] x Go before here = inl (w, subst (λ (s : _). step s x Go w) (sym before.1) here, (refl, refl))
handed-snoc step v u w [] x Stop before here = inr (refl, refl, subst (λ (s : _). step s x Stop w) (sym before.1) here)
handed-snoc step v u w (y ∷ xs) x flow before here = elim before [
  | inl going ↦ inl (going.0, going.1, handed-snoc step going.0 u w xs x flow going.2 here)
  | inr stopped ↦ cc
]

-- a `Gathering` that collected all items that it got
pub gathered : {T : Type 0} (v w : Gathering T) (given : List T) (flow : Flow) → Handed Gathers v given flow w → w.is_full ≡ false
    → (w.items.items ≡ v.items.items ++ given) × (flow ≡ Go)
gathered v w [] flow handed room = (ap (λ (g : Gathering _). g.items.items) (sym handed.1) ∙ sym (append-nil v.items.items), handed.0)
gathered v w (x ∷ xs) flow handed room = elim handed [
  | inl going ↦
      let rest = gathered going.0 w xs flow going.2 room in
      (rest.0 ∙ ap (λ t. t ++ xs) going.1.0 ∙ append_assoc v.items.items (x ∷ []) xs, rest.1)
  | inr stopped ↦ cc
]
