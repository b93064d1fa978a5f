-- A visitor of a list, given one item after the other.
use Rattle.pawn_book.proofs.VisitLemmas.{cut_at, handed-snoc}
use Rattle.pawn_list_keeper.specs.Common.{Flow, Go, Handed, HandsOver, IsShare, Stop, Visits, Whole}
use Rattle.std.proofs.Common.{◌≡◌, ◌∙◌, ℕ, List, [], ◌∷◌, ◌++◌, refl, sym, ap, subst, ◌<◌, ◌+◌, length, take, drop}
use Rattle.std.proofs.Common.{get_or, append-nil, append_assoc, take_all, ◌≤◌}
use Rattle.std.proofs.lemmas.List.{take_more}

-- it gets nothing
pub hands_none : {V T : Type 0} (step : V → T → Flow → V → Type 0) (v : V) → HandsOver step v [] Go v
hands_none step v = ([], (refl, refl), ([], refl, λ go whole. refl))

-- it stopped at the item at this place
pub visits_stopped : {V T : Type 0} (step : V → T → Flow → V → Type 0) (v u w : V) (xs : List T) (i : ℕ) (x : T) → i < length xs → x ≡ get_or xs i x
    → Handed step v (take i xs) Go u → step u x Stop w → Visits step v w (λ given flow. IsShare given flow Whole xs)
visits_stopped step v u w xs i x lt is before here = (
  take i xs ++ x ∷ [],
  Stop,
  handed-snoc step v u w (take i xs) x Stop before here,
  (drop (i + 1) xs, append_assoc (take i xs) (x ∷ []) (drop (i + 1) xs) ∙ ap (λ y. take i xs ++ y ∷ drop (i + 1) xs) is ∙ cut_at xs i x lt, λ e. cc e),
)

-- it got all of them
pub hands_whole : {V T : Type 0} (step : V → T → Flow → V → Type 0) (v w : V) (xs : List T) (i : ℕ) → length xs ≤ i → Handed step v (take i xs) Go w
    → HandsOver step v xs Go w
hands_whole step v w xs i le handed = (take i xs, handed, ([], append-nil (take i xs) ∙ take_all i xs le, λ go whole. refl))

-- it stopped, and got no more
pub hands_stopped : {V T : Type 0} (step : V → T → Flow → V → Type 0) (v u w : V) (xs : List T) (i : ℕ) (x : T) → i < length xs → x ≡ get_or xs i x
    → Handed step v (take i xs) Go u → step u x Stop w → HandsOver step v xs Stop w
unfolding visits_stopped
hands_stopped step v u w xs i x lt is before here = let visits = visits_stopped step v u w xs i x lt is before here in (visits.0, visits.2, visits.3)

-- it goes on after the item at this place
pub visits_more : {V T : Type 0} (step : V → T → Flow → V → Type 0) (v u w : V) (xs : List T) (i : ℕ) (x : T) → i < length xs → x ≡ get_or xs i x
    → Handed step v (take i xs) Go u → step u x Go w → Handed step v (take (i + 1) xs) Go w
visits_more step v u w xs i x lt is before here =
    subst (λ ys. Handed step v ys Go w) (ap (λ y. take i xs ++ y ∷ []) is ∙ sym (take_more xs i x lt)) (handed-snoc step v u w (take i xs) x Go before here)
