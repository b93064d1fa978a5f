-- A store gets the indexes that it lacks: a transaction that makes them, and a commit.
use Rattle.pawn_opening.proofs.Begun.{IsBegun, rolled_back, uncommitted}
use Rattle.pawn_opening.proofs.Gained.{gains_none}
use Rattle.pawn_opening.specs.Common.{HasCleanDisk, State, Trees, Error, IsLent}
use Rattle.pawn_opening.specs.Indexing.{AddsIndexes, GainsIndexes, HoldGained, lacking}
use Rattle.pawn_opening.specs.Opened.{IndexesStore}
use Rattle.pawn_opening.specs.Refusing.{IsStoreFault}
use Rattle.pawn_opening.specs.declared.fault.OpenFault.{OpenFault}
use Rattle.pawn_opening.specs.declared.indexing.Lacking.{Lacking}
use Rattle.sqlite.proofs.StateLemmas.{survives_then}
use Rattle.sqlite.specs.State.{IsLive, IsRolledBack, Shows, Survives}
use Rattle.sqlite.specs.Steps.{FailsToCommit}
use Rattle.std.proofs.Common.{◌≡◌, inl, true, false, Ok, Err, Some, None, IsTrue, refl, sym, subst, ◌∙◌, arith}

-- it lacks none
pub not_lacking : (s : State) → lacking s.now.schema ≡ None → s.in_transaction ≡ false → (IsTrue s.is_open → s.now ≡ s.committed) → IsLive s
    → IndexesStore s s (Ok tt)
not_lacking s none ended settled live = record {
  ok = λ clean open'. (open', gains_none (lacking s.now.schema) s.now none (live open').0, settled open');
  err = λ clean. tt;
  why = tt;
  ended = ended;
  survives = record { clean = omega arith; shield = λ h. h; counts = omega arith; limit = refl; closes = λ clean now. inl now; crash = λ clean db x. inl x };
}

module _ (old new begun lent : State) (was : IsBegun old begun) (ended : new.in_transaction ≡ false) where
  abbrev Gained : Trees → Type 0
  Gained = HoldGained old.now

  -- the transaction failed, and is rolled back
  pub not_indexed : (why : OpenFault) → IsStoreFault why → IsLent begun lent false → (HasCleanDisk new → IsRolledBack lent new) → Survives lent new (λ _. ⊥)
      → IndexesStore old new (Err why)
  not_indexed why store part undone after = record {
    ok = λ clean open'. tt;
    err = λ clean. rolled_back old begun lent new false was part (let up = after.clean in omega (arith, clean, up)) (undone clean);
    why = store;
    ended = ended;
    survives = survives_then old begun new (λ _. ⊥) (λ _. ⊥) Gained (λ clean db none. absurd none) (λ clean db none. absurd none) was.survives
        (survives_then begun lent new (λ _. ⊥) (λ _. ⊥) (λ _. ⊥) (λ clean db none. none) (λ clean db none. none) part.survives after);
  }

  module _ (which : Lacking) (lacks : lacking old.now.schema ≡ Some which) (part : IsLent begun lent true)
      (adds : AddsIndexes {E = Error} which begun lent (Ok tt))
      (after : Survives lent new (λ db. db ≡ lent.now.trees)) where
    clean_past : HasCleanDisk new → HasCleanDisk lent
    clean_past clean = let up = after.clean in omega (arith, clean, up)

    gained : HasCleanDisk lent → GainsIndexes (lacking old.now.schema) old.now lent.now
    gained clean = subst (λ w. GainsIndexes w old.now lent.now) (sym lacks)
        (subst (λ d. GainsIndexes (Some which) d lent.now) was.now (adds clean was.within))

    survived : Survives old new Gained
    survived =
        survives_then old begun new (λ _. ⊥) Gained Gained (λ clean db none. absurd none) (λ clean db held. held) was.survives (survives_then begun lent new (λ
        _. ⊥) (λ db. db ≡ lent.now.trees) Gained (λ clean db none. absurd none) (λ clean db is. (lent.now, gained (clean_past clean), is)) part.survives after)

    pub indexed : (HasCleanDisk new → Shows lent new lent.now lent.now false) → IndexesStore old new (Ok tt)
    indexed shows = record {
      ok = λ clean open'. let s = shows clean in
          (s.is_open, subst (GainsIndexes (lacking old.now.schema) old.now) (sym s.now_is) (gained (clean_past clean)), s.now_is ∙ sym s.committed_is);
      err = λ clean. tt;
      why = tt;
      ended = ended;
      survives = survived;
    }

    pub not_committed : (why : OpenFault) → IsStoreFault why → (error : Error) → (HasCleanDisk new → FailsToCommit lent new error)
        → IndexesStore old new (Err why)
    not_committed why store error failed = record {
      ok = λ clean open'. tt;
      err = λ clean. rolled_back old begun lent new true was part (clean_past clean)
          (uncommitted old begun lent new was part error (clean_past clean) (failed clean));
      why = store;
      ended = ended;
      survives = survived;
    }
