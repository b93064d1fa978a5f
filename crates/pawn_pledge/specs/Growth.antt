-- How the lists of a pledge grow.
use Rattle.pawn_debt.specs.declared.entry.Entry.{Entry}
use Rattle.pawn_pledge.specs.Pledge.{PledgeValue}
use Rattle.pawn_pledge.specs.declared.record.Extension.{Extension}
use Rattle.pawn_pledge.specs.declared.record.Issued.{Issued}
use Rattle.std.specs.Prelude.{◌≡◌, List, [], ◌∷◌, ◌++◌, ◌⊎◌}

-- a list stays the same, or grows at its end by one element for which P holds
abbrev pub StaysOrGrows : {A : Type 0} → (A → Type 0) → List A → List A → Type 0
StaysOrGrows {A} P old new = (new ≡ old) ⊎ ((x : A) × (new ≡ old ++ x ∷ []) × P x)

-- the elements of each list keep their places, and new elements follow them
pub record Grows (old new : PledgeValue) : Type 0 where
  pub entries : (more : List Entry) × (new.entries ≡ old.entries ++ more)
  pub secrets : (more : List Issued) × (new.secrets ≡ old.secrets ++ more)
  pub extensions : (more : List Extension) × (new.extensions ≡ old.extensions ++ more)
