-- The items that a visitor got.
use Rattle.pawn_book.specs.declared.visit.Flow.{Flow}
use Rattle.pawn_book.specs.declared.visit.Flow.TheVariants.{Go, Stop}
use Rattle.std.specs.Prelude.{List, [], ◌∷◌, ◌++◌, ◌≡◌, ◌⊎◌, Result, Ok, Err}

-- the visitor v became w by its own step for each of these items in turn; it returned `Stop` at the last item, or never
abbrev pub Handed : {V T : Type 0} → (V → T → Flow → V → Type 0) → V → List T → Flow → V → Type 0
Handed step v [] flow w = (flow ≡ Go) × (v ≡ w)
Handed {V = V} step v (x ∷ xs) flow w =
    ((u : V) × step v x Go u × Handed step u xs flow w) ⊎ ((flow ≡ Stop) × (xs ≡ []) × step v x Stop w)

-- how much of a list is passed to a visitor that does not stop: all of it, or a prefix
pub data End : Type 0 where
  Whole : End
  Front : End

-- a call passes all of the list if it succeeds, and a prefix if it fails
abbrev pub call_end : {T E : Type 0} → Result T E → End
call_end (Ok t) = Whole
call_end (Err e) = Front

-- the items that were passed are a prefix of the list, and all of it if the visitor never returned `Stop` and the call
-- did not fail
abbrev pub IsShare : {T : Type 0} → List T → Flow → End → List T → Type 0
IsShare {T = T} given flow end items = (left : List T) × (given ++ left ≡ items) × (flow ≡ Go → end ≡ Whole → left ≡ [])

-- the items were passed to the visitor, up to where it stopped
abbrev pub HandsOver : {V T : Type 0} → (V → T → Flow → V → Type 0) → V → List T → Flow → V → Type 0
HandsOver {T = T} step old items flow new = (given : List T) × Handed step old given flow new × IsShare given flow Whole items

-- the visitor got some items, and P holds of them and of the visitor's last result
abbrev pub Visits : {V T : Type 0} → (V → T → Flow → V → Type 0) → V → V → (List T → Flow → Type 0) → Type 0
Visits {T = T} step old new P = (given : List T) × (flow : Flow) × Handed step old given flow new × P given flow
