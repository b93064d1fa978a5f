-- A store is moved: a transaction that moves its tables, and a commit.
use Rattle.pawn_move.proofs.Filled.{untold}
use Rattle.pawn_move.proofs.Reading.{handed}
use Rattle.pawn_move.specs.Migrating.{HoldMoved, MovesStore, MovesStoreOwed}
use Rattle.pawn_move.specs.Moving.{Moves, MovesOwed}
use Rattle.pawn_move.specs.StandsUnder.{StandsUnder}
use Rattle.pawn_opening.proofs.Begun.{IsBegun, held, opens_as, rolled_back, uncommitted}
use Rattle.pawn_opening.specs.Common.{HasCleanDisk, State, Trees, Host, IsLent, StandForOne, HoldHost, StandsFor}
use Rattle.pawn_opening.specs.Opened.{OpensAs}
use Rattle.pawn_tables.specs.Common.{get, HasUnsoundBook, KeepError, NoRecord}
use Rattle.sqlite.proofs.StateLemmas.{survives_then}
use Rattle.sqlite.specs.State.{IsRolledBack, Shows, Survives}
use Rattle.sqlite.specs.Steps.{FailsToCommit}
use Rattle.sqlite.specs.declared.error.Error.{Error}
use Rattle.std.proofs.Common.{◌≡◌, ◌≢◌, ℕ, true, false, None, Result, Ok, Err, IsTrue, sym, subst, ◌∙◌, arith}
use Rattle.pawn_book.specs.declared.fault.KeepError.TheVariants as Keeper

module _ (n : ℕ) (old new begun lent : State) (was : IsBegun old begun) (ended : new.in_transaction ≡ false) where
  -- the debts that were checked
  pub store_owed : (r : Result (Unit {0}) KeepError) (Left : Trees → Type 0) → MovesOwed n begun lent r → Survives lent new Left → MovesStoreOwed n old new r
  store_owed r Left owed after clean h none st =
      owed (let up = after.clean in omega (arith, clean, up)) was.within h none (subst (λ d. StandsUnder n d h) (sym was.now) st)

  -- the transaction failed, and is rolled back
  pub not_moved_store : (e : KeepError) → IsLent begun lent false → Moves n begun lent (Err e) → (HasCleanDisk new → IsRolledBack lent new)
      → Survives lent new (λ _. ⊥) → MovesStore n old new (Err e)
  not_moved_store e part moves undone after = record {
    moved = λ clean h none st. handed e _ _ _ _ (λ it. it)
        (moves (let up = after.clean in omega (arith, clean, up)) was.within h none (subst (λ d. StandsUnder n d h) (sym was.now) st));
    err = λ clean. rolled_back old begun lent new false was part (let up = after.clean in omega (arith, clean, up)) (undone clean);
    ended = ended;
    survives = survives_then old begun new (λ _. ⊥) (λ _. ⊥) (HoldMoved n old) (λ clean db none. absurd none) (λ clean db none. absurd none) was.survives
        (survives_then begun lent new (λ _. ⊥) (λ _. ⊥) (λ _. ⊥) (λ clean db none. none) (λ clean db none. none) part.survives after);
  }

  module _ (part : IsLent begun lent true) (moves : Moves n begun lent (Ok tt)) (after : Survives lent new (λ db. db ≡ lent.now.trees)) where
    clean_past : HasCleanDisk new → HasCleanDisk lent
    clean_past clean = let up = after.clean in omega (arith, clean, up)

    written : HasCleanDisk lent → (h : Host) → get h.books 0 ≡ None → StandsUnder n old.now h → StandsFor lent.now h
    written clean h none st = moves clean was.within h none (subst (λ d. StandsUnder n d h) (sym was.now) st)

    survived : Survives old new (HoldMoved n old)
    survived = survives_then old begun new (λ _. ⊥) (HoldMoved n old) (HoldMoved n old) (λ clean db none. absurd none) (λ clean db moved. moved) was.survives
        (survives_then begun lent new (λ _. ⊥) (λ db. db ≡ lent.now.trees) (HoldMoved n old) (λ clean db none. absurd none)
        (λ clean db is h none st. subst (λ ts. HoldHost ts h) (sym is) (held lent.now h (written (clean_past clean) h none st))) part.survives after)

    pub moved_store : StandForOne → (HasCleanDisk new → Shows lent new lent.now lent.now false)
        → (IsTrue new.is_open → (trees : Trees) → new.may_leave trees → trees ≡ new.committed.trees) → MovesStore n old new (Ok tt)
    moved_store one shows settled = record {
      moved = λ clean h none st. let s = shows clean in
          opens_as new h one s.is_open ended (s.now_is ∙ sym s.committed_is) (settled s.is_open)
          (subst (λ d. StandsFor d h) (sym s.now_is) (written (clean_past clean) h none st));
      err = λ clean. tt;
      ended = ended;
      survives = survived;
    }

    pub not_committed : (e : KeepError) → e ≢ Keeper.Store NoRecord → (error : Error) → (HasCleanDisk new → FailsToCommit lent new error)
        → MovesStore n old new (Err e)
    not_committed e not error failed = record {
      moved = λ clean h none st. untold e (λ done. OpensAs new h) (HasUnsoundBook h) not;
      err = λ clean. rolled_back old begun lent new true was part (clean_past clean)
          (uncommitted old begun lent new was part error (clean_past clean) (failed clean));
      ended = ended;
      survives = survived;
    }
