-- How a `Gathering` changes when it gets an item.
use Rattle.pawn_book.specs.declared.gather.Gathering.{Gathering}
use Rattle.pawn_book.specs.declared.visit.Flow.{Flow}
use Rattle.pawn_book.specs.declared.visit.Flow.TheVariants.{Go, Stop}
use Rattle.std.specs.Prelude.{◌≡◌, ◌++◌, ◌∷◌, [], true}

-- the item was added at the end, or there was no memory for it
abbrev pub Gathers : {T : Type 0} → Gathering T → T → Flow → Gathering T → Type 0
Gathers v item Go w = (w.items.items ≡ v.items.items ++ item ∷ []) × (w.is_full ≡ v.is_full)
Gathers v item Stop w = w.is_full ≡ true
