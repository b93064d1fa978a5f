-- An empty store is laid out: a transaction that fills it, and a commit.
use Rattle.pawn_opening.proofs.Begun.{IsBegun, held, opens_as, rolled_back, uncommitted}
use Rattle.pawn_opening.specs.Common.{Database, IsDatabase, HasCleanDisk, State, Trees, Error, no_schema, IsLent}
use Rattle.pawn_opening.specs.Common.{StandForOne, HoldHost, StandsFor}
use Rattle.pawn_opening.specs.Indexing.{HasBothIndexes}
use Rattle.pawn_opening.specs.Laying.{AreEmpty}
use Rattle.pawn_opening.specs.Opened.{MakesFirstContent, LaysOut, empty_host}
use Rattle.pawn_opening.specs.Refusing.{IsEmptyStore, IsStoreFault}
use Rattle.pawn_opening.specs.declared.fault.OpenFault.{OpenFault}
use Rattle.sqlite.proofs.StateLemmas.{survives_then}
use Rattle.sqlite.specs.State.{IsRolledBack, Shows, Survives}
use Rattle.sqlite.specs.Steps.{FailsToCommit}
use Rattle.std.proofs.Common.{◌≡◌, ℕ, true, false, Ok, Err, IsTrue, refl, sym, ap, subst, ◌∙◌, arith}

module _ (old new begun lent : State) (limit : ℕ) (was : IsBegun old begun) (ended : new.in_transaction ≡ false) where
  abbrev Laid : Trees → Type 0
  Laid trees = IsEmptyStore old.now → HoldHost trees (empty_host limit)

  -- the transaction failed, and is rolled back
  pub not_filled : (why : OpenFault) → IsStoreFault why → IsLent begun lent false → (HasCleanDisk new → IsRolledBack lent new) → Survives lent new (λ _. ⊥)
      → LaysOut old new limit (Err why)
  not_filled why store part undone after = record {
    ok = λ clean empty. tt;
    err = λ clean. rolled_back old begun lent new false was part (let up = after.clean in omega (arith, clean, up)) (undone clean);
    why = store;
    ended = ended;
    survives = survives_then old begun new (λ _. ⊥) (λ _. ⊥) Laid (λ clean db none. absurd none) (λ clean db none. absurd none) was.survives
        (survives_then begun lent new (λ _. ⊥) (λ _. ⊥) (λ _. ⊥) (λ clean db none. none) (λ clean db none. none) part.survives after);
  }

  module _ (part : IsLent begun lent true) (fills : MakesFirstContent {E = Error} begun lent limit (Ok tt))
      (after : Survives lent new (λ db. db ≡ lent.now.trees)) where
    clean_past : HasCleanDisk new → HasCleanDisk lent
    clean_past clean = let up = after.clean in omega (arith, clean, up)

    bare : HasCleanDisk lent → IsEmptyStore old.now → AreEmpty no_schema begun.now
    bare clean empty = let db : IsDatabase old.now = (was.live (was.was_open (part.opened clean was.within refl))).0 in
        record { schema_is = ap (λ (d : Database). d.schema) was.now ∙ empty; sound = subst IsDatabase (sym was.now) db; tables = tt }

    written : HasCleanDisk lent → IsEmptyStore old.now → StandsFor lent.now (empty_host limit) × HasBothIndexes lent.now.schema
    written clean empty = fills clean was.within (bare clean empty)

    survived : Survives old new Laid
    survived = survives_then old begun new (λ _. ⊥) Laid Laid (λ clean db none. absurd none) (λ clean db laid. laid) was.survives
        (survives_then begun lent new (λ _. ⊥) (λ db. db ≡ lent.now.trees) Laid (λ clean db none. absurd none) (λ clean db is empty.
        subst (λ ts. HoldHost ts (empty_host limit)) (sym is) (held lent.now (empty_host limit) (written (clean_past clean) empty).0)) part.survives after)

    pub laid_out : StandForOne → (HasCleanDisk new → Shows lent new lent.now lent.now false)
        → (IsTrue new.is_open → (trees : Trees) → new.may_leave trees → trees ≡ new.committed.trees) → LaysOut old new limit (Ok tt)
    laid_out one shows settled = record {
      ok = λ clean empty.
          let s = shows clean in
          let laid = subst (λ d. StandsFor d (empty_host limit) × HasBothIndexes d.schema) (sym s.now_is) (written (clean_past clean) empty) in
          (opens_as new (empty_host limit) one s.is_open ended (s.now_is ∙ sym s.committed_is) (settled s.is_open) laid.0, laid.1);
      err = λ clean. tt;
      why = tt;
      ended = ended;
      survives = survived;
    }

    pub not_committed : (why : OpenFault) → IsStoreFault why → (error : Error) → (HasCleanDisk new → FailsToCommit lent new error)
        → LaysOut old new limit (Err why)
    not_committed why store error failed = record {
      ok = λ clean empty. tt;
      err = λ clean. rolled_back old begun lent new true was part (clean_past clean)
          (uncommitted old begun lent new was part error (clean_past clean) (failed clean));
      why = store;
      ended = ended;
      survives = survived;
    }
