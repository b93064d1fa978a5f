-- An empty store is laid out, any other recognised.
use Rattle.pawn_opening.proofs.Begun.{opens_as}
use Rattle.pawn_opening.proofs.Gained.{gains_stands}
use Rattle.pawn_opening.proofs.Ours.{not_empty, only_faults}
use Rattle.pawn_opening.specs.Common.{HasCleanDisk, State, Trees, Host, StandForOne, StandsFor}
use Rattle.pawn_opening.specs.Indexing.{GainsIndexes, HasBothIndexes, HoldGained, lacking}
use Rattle.pawn_opening.specs.Opened.{AreMadeOf, IndexesStore, IsAsBefore, IsIndexed, IsOpenable, LaysOut, OpensAs}
use Rattle.pawn_opening.specs.Opened.{empty_host, Prepares, Recognises}
use Rattle.pawn_opening.specs.Refusing.{IsEmptyStore, IsRefusedFor, IsStoreFault}
use Rattle.pawn_opening.specs.declared.fault.OpenFault.{OpenFault}
use Rattle.pawn_opening.specs.declared.fault.OpenFault.TheVariants.{Memory, NotOurs, OldSchema, Store}
use Rattle.sqlite.proofs.StateLemmas.{survives_then, survives_weaker}
use Rattle.sqlite.specs.State.{Survives}
use Rattle.std.proofs.Common.{◌≡◌, ◌⊎◌, inl, inr, ℕ, Ok, Err, Result, OnOk, OnErr, IsTrue, sym, subst, ◌∙◌, arith}
use Rattle.std.proofs.Common.{IfErr}

module _ (old new : State) (limit : ℕ) (r : Result (Unit {0}) OpenFault)
    (last : IsTrue old.is_open → (trees : Trees) → old.may_leave trees → trees ≡ old.committed.trees) where
  fault_alone : (why : OpenFault) → IsStoreFault why → IsRefusedFor old.now why
  fault_alone NotOurs none = absurd none
  fault_alone (OldSchema n) none = absurd none
  fault_alone Store it = tt
  fault_alone Memory it = tt

  faults : (r' : Result (Unit {0}) OpenFault) → IfErr r' IsStoreFault → IfErr r' (IsRefusedFor old.now)
  faults (Ok done) it = tt
  faults (Err why) it = fault_alone why it

  abbrev New : Trees → Type 0
  New = AreMadeOf old.now limit

  crashed : Survives old new New → HasCleanDisk new → IsTrue old.is_open → (trees : Trees) → new.may_leave trees → (trees ≡ old.committed.trees) ⊎ New trees
  crashed s clean open' trees left = elim (s.crash clean trees left) [ inl before ↦ inl (last open' trees before) | inr made ↦ inr made ]

  pub when_empty : IsEmptyStore old.now → LaysOut old new limit r → Prepares old new limit r
  when_empty empty it = record {
    opens = λ clean. openable r (it.ok clean empty);
    new_store = λ clean empty'. opened r (it.ok clean empty');
    stands = λ clean h st. absurd (not_empty old.now h st empty);
    bare = λ clean empty'. it.why;
    ours = λ clean h st. it.why;
    refused = λ clean. faults r it.why;
    err = it.err;
    ended = it.ended;
    survives = laid;
    crash = crashed laid;
  } where
    openable : (r' : Result (Unit {0}) OpenFault) → OnOk r' (OpensAs new (empty_host limit) × HasBothIndexes new.now.schema) → OnOk r' (IsOpenable old new)
    openable (Ok done) ok = inl (empty, ok.1)
    openable (Err why) ok = tt

    opened : (r' : Result (Unit {0}) OpenFault) → OnOk r' (OpensAs new (empty_host limit) × HasBothIndexes new.now.schema)
        → OnOk r' (OpensAs new (empty_host limit))
    opened (Ok done) ok = ok.0
    opened (Err why) ok = tt

    laid : Survives old new New
    laid = survives_weaker old new _ New (λ clean trees holds. inl (empty, holds empty)) it.survives

  alone : (h : Host) → StandsFor old.now h → (r' : Result (Unit {0}) OpenFault) → IfErr r' (IsRefusedFor old.now) → IfErr r' IsStoreFault
  alone h st (Ok done) it = tt
  alone h st (Err why) it = only_faults old.now h st why it

  -- it is not ours, or fails
  pub when_other : (IsEmptyStore old.now → ⊥) → (why : OpenFault) → r ≡ Err why → Recognises old new r → Prepares old new limit r
  when_other other why is it = record {
    opens = λ clean. subst (λ x. OnOk x (IsOpenable old new)) (sym is) tt;
    new_store = λ clean empty. absurd (other empty);
    stands = λ clean h st. subst (λ x. OnOk x (OpensAs new h)) (sym is) tt;
    bare = λ clean empty. absurd (other empty);
    ours = λ clean h st. alone h st r (it.err clean other);
    refused = λ clean. it.err clean other;
    err = λ clean. subst (λ x. OnErr x (IsAsBefore old new)) (sym is) (it.same clean);
    ended = it.ended;
    survives = same_store;
    crash = crashed same_store;
  } where
    alone : (h : Host) → StandsFor old.now h → (r' : Result (Unit {0}) OpenFault) → IfErr r' (IsRefusedFor old.now) → IfErr r' IsStoreFault
    alone h st (Ok done) it = tt
    alone h st (Err why) it = only_faults old.now h st why it

    same_store : Survives old new New
    same_store = survives_weaker old new (λ _. ⊥) New (λ clean trees none. absurd none) it.survives

  -- it is ours, and gets the indexes that it lacks
  module _ (mid : State) (other : IsEmptyStore old.now → ⊥) (known : Recognises old mid (Ok tt)) (it : IndexesStore mid new r) where
    clean_mid : HasCleanDisk new → HasCleanDisk mid
    clean_mid clean = let up = it.survives.clean in omega (arith, clean, up)

    usable : HasCleanDisk mid → IsTrue mid.is_open
    usable clean = (known.ok clean).0

    same : (clean : HasCleanDisk mid) → mid.now ≡ old.now
    same clean = (known.same clean).now (usable clean)

    from_old : HasCleanDisk mid → IsIndexed mid new → IsIndexed old new
    from_old clean done = (done.0, subst (λ d. GainsIndexes (lacking d.schema) d new.now) (same clean) done.1, done.2)

    survived : Survives old new New
    survived =
        survives_then old mid new (λ _. ⊥) (HoldGained mid.now) New (λ clean trees none. absurd none) (λ clean trees held. let before = clean_mid clean in
        inr ((known.ok before).1, subst (λ d. HoldGained d trees) (same before) held)) known.survives it.survives

    pub when_ours : StandForOne → (IsTrue new.is_open → (trees : Trees) → new.may_leave trees → trees ≡ new.committed.trees) → Prepares old new limit r
    when_ours one left = record {
      opens = λ clean. openable clean r (it.ok clean (usable (clean_mid clean)));
      new_store = λ clean empty. absurd (other empty);
      stands = λ clean h st. accepted clean h st r (it.ok clean (usable (clean_mid clean)));
      bare = λ clean empty. absurd (other empty);
      ours = λ clean h st. it.why;
      refused = λ clean. faults r it.why;
      err = λ clean. kept clean r (it.err clean);
      ended = it.ended;
      survives = survived;
      crash = crashed survived;
    } where
      openable : HasCleanDisk new → (r' : Result (Unit {0}) OpenFault) → OnOk r' (IsIndexed mid new) → OnOk r' (IsOpenable old new)
      openable clean (Ok done) ok = let before = clean_mid clean in inr ((known.ok before).1, from_old before ok)
      openable clean (Err why) ok = tt

      accepted : HasCleanDisk new → (h : Host) → StandsFor old.now h → (r' : Result (Unit {0}) OpenFault) → OnOk r' (IsIndexed mid new)
          → OnOk r' (OpensAs new h)
      accepted clean h st (Err why) ok = tt
      accepted clean h st (Ok done) ok = let after = from_old (clean_mid clean) ok in
          opens_as new h one after.0 it.ended after.2 (left after.0) (gains_stands old.now new.now h after.1 st)

      kept : HasCleanDisk new → (r' : Result (Unit {0}) OpenFault) → OnErr r' (IsAsBefore mid new) → OnErr r' (IsAsBefore old new)
      kept clean (Ok done) err = tt
      kept clean (Err why) err = let first = known.same (clean_mid clean) in
          record {
            was_open = λ now. first.was_open (err.was_open now);
            now = λ now. err.now now ∙ first.now (err.was_open now);
            committed = λ now. err.committed now ∙ first.committed (err.was_open now);
          }
