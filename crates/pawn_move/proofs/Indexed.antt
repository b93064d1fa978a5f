-- The indexes that a store of an older schema has after its migration.
use Rattle.pawn_move.specs.Migrating.{MovesStoreIndexed}
use Rattle.pawn_move.specs.Moving.{HasMade, MovesIndexed}
use Rattle.pawn_move.specs.StandsUnder.{StandsUnder}
use Rattle.pawn_opening.proofs.Begun.{IsBegun}
use Rattle.pawn_opening.specs.Common.{Database, HasCleanDisk, Host, State}
use Rattle.pawn_opening.specs.Indexing.{HasBothIndexes, lacking}
use Rattle.pawn_opening.specs.declared.indexing.Lacking.{Lacking}
use Rattle.pawn_opening.specs.declared.indexing.Lacking.TheVariants.{Both}
use Rattle.sqlite.specs.State.{Shows, Survives}
use Rattle.sqlite_schema.specs.Names.{same_name}
use Rattle.std.proofs.Common.{◌≡◌, ◌⊎◌, inl, inr, ℕ, false, Option, Some, Ok, sym, ap, subst, refl, arith, ◌∙◌}

-- a store of an older schema that stands for a host has neither index
lacks_both : (n : ℕ) → (n ≡ 1) ⊎ (n ≡ 2) → (db : Database) (h : Host) → StandsUnder n db h → lacking db.schema ≡ Some Both
unfolding same_name
lacks_both n (inl one) db h st = let it = subst (λ k. StandsUnder k db h) one st in ap lacking it.lists.schema_is ∙ refl
lacks_both n (inr two) db h st = let it = subst (λ k. StandsUnder k db h) two st in ap lacking it.lists.schema_is ∙ refl

pub store_indexed : (n : ℕ) → (n ≡ 1) ⊎ (n ≡ 2) → (old new begun lent : State) → IsBegun old begun → (which : Option Lacking) → which ≡ lacking old.now.schema
    → MovesIndexed n which begun lent (Ok tt) → Survives lent new (λ db. db ≡ lent.now.trees)
    → (HasCleanDisk new → Shows lent new lent.now lent.now false) → MovesStoreIndexed n old new (Ok tt)
store_indexed n old' old new begun lent was which is moves after shows clean h none st = let up = after.clean in let s = shows clean in
    let made : HasMade which lent.now.schema = moves (omega (arith, clean, up)) was.within h none (subst (λ d. StandsUnder n d h) (sym was.now) st) in
    subst (λ (d : Database). HasBothIndexes d.schema) (sym s.now_is)
    (subst (λ o. HasMade o lent.now.schema) (is ∙ lacks_both n old' old.now h st) made)
