-- What the answer of a store makes of it.
use Rattle.pawn_opening.proofs.Recognition.{answered, asks_alone, left_as_before, unanswered, unchanged}
use Rattle.pawn_opening.specs.Common.{CompileError, Row, HasCleanDisk, State, Error, SqlInputError, READ_SCHEMA}
use Rattle.pawn_opening.specs.Opened.{Recognises, StatesSchema}
use Rattle.pawn_opening.specs.Refusing.{IsEmptyStore, AcceptsSchema, IsNoted, IsNumberRead, IsRefusedFor, IsStoreFault}
use Rattle.pawn_opening.specs.Refusing.{IsStrangeNumber, NotesSchema}
use Rattle.pawn_opening.specs.declared.fault.OpenFault.{OpenFault}
use Rattle.pawn_opening.specs.declared.fault.OpenFault.TheVariants.{Memory, NotOurs, OldSchema, Store}
use Rattle.sqlite.specs.State.{CommitsShowing, FailsToQuery, Shown, Survives}
use Rattle.std.proofs.Common.{◌≡◌, inl, inr, ℕ, false, List, [], Option, Some, None, Ok, Err, Result, OnOk, IsTrue, sym}
use Rattle.std.proofs.Common.{subst, IfErr, IfOk, IfSome}

-- ---- what is noted of the schema

module _ (old new : State) (ended : new.in_transaction ≡ false) (survives : Survives old new (CommitsShowing READ_SCHEMA.now [] old)) where
  pub told : (rows : List Row) (r : Result (Option ℕ) OpenFault) → (HasCleanDisk new → Shown READ_SCHEMA.now [] old new rows) → IsNumberRead rows r
      → StatesSchema old new r
  told rows r shown read = record {
    same = λ clean. unchanged old new (answered old new rows (shown clean)).unchanged;
    ok = λ clean. noted r read clean;
    usable = λ clean. serving r clean;
    why = faults r read;
    ended = ended;
    survives = asks_alone old new survives;
  } where
    noted : (r' : Result (Option ℕ) OpenFault) → IsNumberRead rows r' → HasCleanDisk new → IfOk r' (IsNoted old.now)
    noted (Ok None) it clean = inr (rows, (answered old new rows (shown clean)).answers, it)
    noted (Ok (Some n)) it clean = (rows, (answered old new rows (shown clean)).answers, it)
    noted (Err why) it clean = tt

    serving : (r' : Result (Option ℕ) OpenFault) → HasCleanDisk new → IfOk r' (λ noted. IfSome noted (λ n. IsTrue new.is_open))
    serving (Ok None) clean = tt
    serving (Ok (Some n)) clean = (answered old new rows (shown clean)).unchanged.0.is_open
    serving (Err why) clean = tt

    faults : (r' : Result (Option ℕ) OpenFault) → IsNumberRead rows r' → IfErr r' IsStoreFault
    faults (Ok None) it = tt
    faults (Ok (Some n)) it = tt
    faults (Err why) it = it

  module _ (settled : IsTrue old.is_open → old.now ≡ old.committed) (error : Error)
      (fails : HasCleanDisk new → FailsToQuery READ_SCHEMA.now [] old new error) where
    pub untold : (f : CompileError) → error ≡ SqlInputError f → StatesSchema old new (Ok None)
    untold f is = record {
      same = λ clean. left_as_before old new error settled (fails clean);
      ok = λ clean. inl (unanswered f old new (subst (FailsToQuery READ_SCHEMA.now [] old new) is (fails clean)));
      usable = λ clean. tt;
      why = tt;
      ended = ended;
      survives = asks_alone old new survives;
    }

    pub failed : (why : OpenFault) → IsStoreFault why → StatesSchema old new (Err why)
    failed why store = record {
      same = λ clean. left_as_before old new error settled (fails clean);
      ok = λ clean. tt;
      usable = λ clean. tt;
      why = store;
      ended = ended;
      survives = asks_alone old new survives;
    }

-- ---- what is made of it

module _ (old new : State) (noted : Option ℕ) (r : Result (Unit {0}) OpenFault) where
  accepted : (r' : Result (Unit {0}) OpenFault) (o : Option ℕ) → AcceptsSchema o r' → IsNoted old.now o → IfSome o (λ n. IsTrue new.is_open)
      → OnOk r' (IsTrue new.is_open × NotesSchema old.now 3)
  accepted (Err why) o v is usable = tt
  accepted (Ok done) None v is usable = absurd (let e = v in cc)
  accepted (Ok done) (Some n) v is usable = let same : n ≡ 3 = (let e = v in cc) in (usable, subst (NotesSchema old.now) same is)

  refused : (r' : Result (Unit {0}) OpenFault) (o : Option ℕ) → AcceptsSchema o r' → IsNoted old.now o → (IsEmptyStore old.now → ⊥)
      → IfErr r' (IsRefusedFor old.now)
  refused (Ok done) o v is other = tt
  refused (Err NotOurs) None v is other = (other, inl is)
  refused (Err NotOurs) (Some n) (inl none) is other = absurd (let e = none in cc)
  refused (Err NotOurs) (Some n) (inr (m, same', far)) is other = let same : n ≡ m = (let e = same' in cc) in
      (other, inr (n, is, subst IsStrangeNumber (sym same) far))
  refused (Err (OldSchema m)) None v is other = absurd (let e = v.0 in cc)
  refused (Err (OldSchema m)) (Some n) v is other = let same : n ≡ m = (let e = v.0 in cc) in (subst (NotesSchema old.now) same is, v.1, v.2)
  refused (Err Store) o v is other = tt
  refused (Err Memory) o v is other = tt

  pub accepted_schema : StatesSchema old new (Ok noted) → AcceptsSchema noted r → Recognises old new r
  accepted_schema it verdict = record {
    same = it.same;
    ok = λ clean. accepted r noted verdict (it.ok clean) (it.usable clean);
    err = λ clean other. refused r noted verdict (it.ok clean) other;
    ended = it.ended;
    survives = it.survives;
  }

-- a store that did not answer
pub unaccepted : (old new : State) (why : OpenFault) → StatesSchema old new (Err why) → Recognises old new (Err why)
unaccepted old new why it = record {
  same = it.same;
  ok = λ clean. tt;
  err = λ clean other. no_more why it.why;
  ended = it.ended;
  survives = it.survives;
} where
  no_more : (why' : OpenFault) → IsStoreFault why' → IsRefusedFor old.now why'
  no_more NotOurs none = absurd none
  no_more (OldSchema n) none = absurd none
  no_more Store it = tt
  no_more Memory it = tt
