-- A store's schema is read, and the store is migrated if that is an older one.
use Rattle.pawn_move.proofs.Basics.{MoveFault, NotOurs, NewerSchema, Damaged, Store, Memory}
use Rattle.pawn_move.proofs.SchemaNumbers.{third_is_ours}
use Rattle.pawn_move.specs.Migrating.{HoldMoved, HoldSameHost, IsFailure, IsMoved, IsNotOurs, IsUnmovable, HasNoKnownSchema}
use Rattle.pawn_move.specs.Migrating.{Migrates, MigratesIndexed, MigratesOwed, MovesStore, MovesStoreIndexed}
use Rattle.pawn_move.specs.Migrating.{MovesStoreOwed, StatesNumber, move_fault_of}
use Rattle.pawn_move.specs.StandsUnder.{IsSchema, StandsUnder}
use Rattle.pawn_opening.proofs.Begun.{held, opens_as}
use Rattle.pawn_opening.proofs.Gained.{gains_stands}
use Rattle.pawn_opening.specs.Common.{HasCleanDisk, State, Trees, Host, StandForOne, HoldHost, StandsFor}
use Rattle.pawn_opening.specs.Indexing.{GainsIndexes, HoldGained, lacking}
use Rattle.pawn_opening.specs.Opened.{IndexesStore, IsAsBefore, OpensAs}
use Rattle.pawn_opening.specs.Refusing.{NotesSchema}
use Rattle.pawn_opening.specs.declared.fault.OpenFault.{OpenFault}
use Rattle.pawn_tables.specs.Common.{get, Tables, BookValue, HasUnsoundBook, KeepError, Database, NoRecord}
use Rattle.pawn_tables.specs.Finding.{Finds}
use Rattle.sqlite.proofs.StateLemmas.{survives_then, survives_weaker}
use Rattle.sqlite.specs.State.{Survives}
use Rattle.std.proofs.Common.{◌≡◌, ◌==◌, ◌⊎◌, inl, inr, ℕ, Bool, true, false, Option, Some, None, Ok, Err, Result}
use Rattle.std.proofs.Common.{IsTrue, refl, sym, subst, ◌∙◌, arith}
use Rattle.std.proofs.lemmas.Bool.Decides.{nat_tests}
use Rattle.pawn_book.specs.declared.fault.KeepError.TheVariants as Keeper

-- an older schema is the first or the second
pub older : (n : ℕ) → IsSchema n → (n ≡ 3 → ⊥) → (n ≡ 1) ⊎ (n ≡ 2)
older n schema not = go (n == 1) refl where
  go : (first : Bool) → (n == 1) ≡ first → (n ≡ 1) ⊎ (n ≡ 2)
  go true is = inl (grind (arith, nat_tests, is))
  go false is = let least = schema.0 in
      let most = schema.1 in
      inr (grind (arith, nat_tests, is, least, most, not))

-- after one call that left the store as it was, another
then_as_before : (a b c : State) → (IsTrue b.is_open → IsAsBefore a b) → IsAsBefore b c → IsAsBefore a c
then_as_before a b c first it = record {
  was_open = λ now. (first (it.was_open now)).was_open (it.was_open now);
  now = λ now. it.now now ∙ (first (it.was_open now)).now (it.was_open now);
  committed = λ now. it.committed now ∙ (first (it.was_open now)).committed (it.was_open now);
}

-- what a crash leaves, where before the call it left the last commit
crashed : (old new : State) → (IsTrue old.is_open → (trees : Trees) → old.may_leave trees → trees ≡ old.committed.trees) → Survives old new (HoldSameHost
    old.now) → HasCleanDisk new → IsTrue old.is_open → (trees : Trees) → new.may_leave trees → (trees ≡ old.committed.trees) ⊎ HoldSameHost old.now trees
crashed old new last s clean open' trees left = elim (s.crash clean trees left) [ inl before ↦ inl (last open' trees before) | inr made ↦ inr made ]

failing : (s : State) (n : ℕ) (h : Host) (why : MoveFault) → IsFailure why → IsMoved n h s (Err why)
failing s n h NotOurs none = none
failing s n h NewerSchema none = none
failing s n h Damaged none = absurd none
failing s n h Store it = tt
failing s n h Memory it = tt

untellable : (db : Tables) (why : MoveFault) → IsFailure why → HasNoKnownSchema db why
untellable db NotOurs none = absurd none
untellable db NewerSchema none = absurd none
untellable db Damaged none = none
untellable db Store it = tt
untellable db Memory it = tt

module _ (s0 s1 : State) (last : IsTrue s0.is_open → (trees : Trees) → s0.may_leave trees → trees ≡ s0.committed.trees) where
  quiet : Survives s0 s1 (λ _. ⊥) → Survives s0 s1 (HoldSameHost s0.now)
  quiet s = survives_weaker s0 s1 (λ _. ⊥) (HoldSameHost s0.now) (λ clean trees none. absurd none) s

  -- ---- a schema that cannot be read

  unmovable : (why : MoveFault) → HasNoKnownSchema s0.now why → IsUnmovable s0.now why
  unmovable NotOurs it = it
  unmovable NewerSchema it = it
  unmovable Damaged none = absurd none
  unmovable Store it = it
  unmovable Memory it = it

  bare : (why : MoveFault) → IsNotOurs {A = ℕ} (Err why) → IsNotOurs {A = ℕ × ℕ} (Err why)
  bare NotOurs it = it
  bare NewerSchema it = it
  bare Damaged it = it
  bare Store it = it
  bare Memory it = it

  pub not_told : (why : MoveFault) → StatesNumber s0 s1 (Err why) → Migrates s0 s1 (Err why)
  not_told why it = record {
    found = λ clean. tt;
    moved = λ clean n h schema none st. failing s1 n h why (it.stands clean n h schema st);
    refused = λ clean. unmovable why (it.refused clean);
    empty = λ clean none. bare why (it.empty clean none);
    err = it.same;
    ended = it.ended;
    survives = quiet it.survives;
    crash = crashed s0 s1 last (quiet it.survives);
  }

  -- ---- the program's, which gets the indexes that it lacks

  module _ (s2 : State) (from : ℕ) (three : from ≡ 3) (it : StatesNumber s0 s1 (Ok from)) (r : Result (Unit {0}) OpenFault) (added : IndexesStore s1 s2 r) where
    before : HasCleanDisk s2 → HasCleanDisk s1
    before clean = let up = added.survives.clean in omega (arith, clean, up)

    -- the tables stand for the host still
    ours : HasCleanDisk s1 → (n : ℕ) (h : Host) → IsSchema n → StandsUnder n s0.now h → (from ≡ n) × StandsFor s1.now h
    ours clean n h schema st = let told : from ≡ n = it.stands clean n h schema st in
        let stands : StandsFor s0.now h = third_is_ours.third s0.now h (subst (λ k. StandsUnder k s0.now h) (sym told ∙ three) st) in
        (told, subst (λ d. StandsFor d h) (sym ((it.same clean).now (it.ok clean).1)) stands)

    indexed : Survives s0 s2 (HoldSameHost s0.now)
    indexed = survives_then s0 s1 s2 (λ _. ⊥) (HoldGained s1.now) (HoldSameHost s0.now) (λ clean trees none. absurd none)
        (λ clean trees gained n h schema none st. subst (λ ts. HoldHost ts h) (sym gained.2)
        (held gained.0 h (gains_stands s1.now gained.0 h gained.1 (ours (before clean) n h schema st).1))) it.survives added.survives

    -- it is none that is moved
    pub stays_owed : MigratesOwed s0 s2 (Ok (from, 3))
    stays_owed clean n h schema less none st = let told : from ≡ n = it.stands (before clean) n h schema st in
        absurd (omega (arith, told, three, less))

  pub stays : StandForOne → (s2 : State) → (IsTrue s2.is_open → (trees : Trees) → s2.may_leave trees → trees ≡ s2.committed.trees) → (from : ℕ) → from ≡ 3
      → StatesNumber s0 s1 (Ok from) → IndexesStore s1 s2 (Ok tt) → Migrates s0 s2 (Ok (from, 3))
  stays one s2 left from three it added = record {
    found = λ clean. ((it.ok (before s2 from three it (Ok tt) added clean)).0, it.known, refl);
    moved = λ clean n h schema none st. let was = before s2 from three it (Ok tt) added clean in
        let stood = ours s2 from three it (Ok tt) added was n h schema st in let done = added.ok clean (it.ok was).1 in
        (λ i. (stood.0 i, 3), opens_as s2 h one done.0 added.ended done.2 (left done.0) (gains_stands s1.now s2.now h done.1 stood.1));
    refused = λ clean. tt;
    empty = λ clean none. it.empty (before s2 from three it (Ok tt) added clean) none;
    err = λ clean. tt;
    ended = added.ended;
    survives = indexed s2 from three it (Ok tt) added;
    crash = crashed s0 s2 last (indexed s2 from three it (Ok tt) added);
  }

  pub stays_indexed : (s2 : State) (from : ℕ) → from ≡ 3 → StatesNumber s0 s1 (Ok from) → IndexesStore s1 s2 (Ok tt) → MigratesIndexed s0 s2 (Ok (from, 3))
  stays_indexed s2 from three it added clean = let was = before s2 from three it (Ok tt) added clean in (
    λ told. subst (λ (d : Tables). GainsIndexes (lacking d.schema) d s2.now) ((it.same was).now (it.ok was).1) (added.ok clean (it.ok was).1).1,
    λ n h schema less none st. let told : from ≡ n = it.stands was n h schema st in absurd (omega (arith, told, three, less)),
  )

  pub not_indexed : (s2 : State) (from : ℕ) → from ≡ 3 → StatesNumber s0 s1 (Ok from) → (cause : OpenFault) → IndexesStore s1 s2 (Err cause) → (why : MoveFault)
      → IsFailure why → Migrates s0 s2 (Err why)
  not_indexed s2 from three it cause added why failure = record {
    found = λ clean. tt;
    moved = λ clean n h schema none st. failing s2 n h why failure;
    refused = λ clean. unmovable why (untellable s0.now why failure);
    empty = λ clean none. absurd (it.empty (before s2 from three it (Err cause) added clean) none);
    err = λ clean. then_as_before s0 s1 s2 (λ now. it.same (before s2 from three it (Err cause) added clean)) (added.err clean);
    ended = added.ended;
    survives = indexed s2 from three it (Err cause) added;
    crash = crashed s0 s2 last (indexed s2 from three it (Err cause) added);
  }

  -- ---- an older one

  module _ (s2 : State) (from : ℕ) (it : StatesNumber s0 s1 (Ok from)) (r : Result (Unit {0}) KeepError) (mv : MovesStore from s1 s2 r) where
    early : HasCleanDisk s2 → HasCleanDisk s1
    early clean = let up = mv.survives.clean in omega (arith, clean, up)

    -- the tables still stand under the schema that was read
    on : HasCleanDisk s1 → (n : ℕ) (h : Host) → IsSchema n → StandsUnder n s0.now h → (from ≡ n) × StandsUnder from s1.now h
    on clean n h schema st = let told : from ≡ n = it.stands clean n h schema st in
        (told, subst (λ d. StandsUnder from d h) (sym ((it.same clean).now (it.ok clean).1)) (subst (λ k. StandsUnder k s0.now h) (sym told) st))

    survived : Survives s0 s2 (HoldSameHost s0.now)
    survived = survives_then s0 s1 s2 (λ _. ⊥) (HoldMoved from s1) (HoldSameHost s0.now) (λ clean trees none. absurd none)
        (λ clean trees held n h schema none st. held h none (on (early clean) n h schema st).1) it.survives mv.survives

    moves : HasCleanDisk s2 → (n : ℕ) (h : Host) → IsSchema n → get h.books 0 ≡ None → StandsUnder n s0.now h
        → Finds r (λ done. OpensAs s2 h) (HasUnsoundBook h)
    moves clean n h schema none st = mv.moved clean h none (on (early clean) n h schema st).1

  pub went : (s2 : State) (from : ℕ) → StatesNumber s0 s1 (Ok from) → MovesStore from s1 s2 (Ok tt) → Migrates s0 s2 (Ok (from, 3))
  went s2 from it mv = record {
    found = λ clean. ((it.ok (early s2 from it (Ok tt) mv clean)).0, it.known, refl);
    moved = λ clean n h schema none st. let told = (on s2 from it (Ok tt) mv (early s2 from it (Ok tt) mv clean) n h schema st).0 in
        (λ i. (told i, 3), moves s2 from it (Ok tt) mv clean n h schema none st);
    refused = λ clean. tt;
    empty = λ clean none. it.empty (early s2 from it (Ok tt) mv clean) none;
    err = λ clean. tt;
    ended = mv.ended;
    survives = survived s2 from it (Ok tt) mv;
    crash = crashed s0 s2 last (survived s2 from it (Ok tt) mv);
  }

  pub went_owed : (s2 : State) (from : ℕ) → StatesNumber s0 s1 (Ok from) → MovesStore from s1 s2 (Ok tt) → MovesStoreOwed from s1 s2 (Ok tt)
      → MigratesOwed s0 s2 (Ok (from, 3))
  went_owed s2 from it mv owed clean n h schema less none st = owed clean h none (on s2 from it (Ok tt) mv (early s2 from it (Ok tt) mv clean) n h schema st).1

  pub went_indexed : (s2 : State) (from : ℕ) → (from ≡ 3 → ⊥) → StatesNumber s0 s1 (Ok from) → MovesStore from s1 s2 (Ok tt)
      → MovesStoreIndexed from s1 s2 (Ok tt) → MigratesIndexed s0 s2 (Ok (from, 3))
  went_indexed s2 from not it mv indexed clean = (
    λ three. absurd (not three),
    λ n h schema less none st. indexed clean h none (on s2 from it (Ok tt) mv (early s2 from it (Ok tt) mv clean) n h schema st).1,
  )

  pub failed : (s2 : State) (from : ℕ) (e : KeepError) → StatesNumber s0 s1 (Ok from) → MovesStore from s1 s2 (Err e) → Migrates s0 s2 (Err (move_fault_of e))
  failed s2 from e it mv = record {
    found = λ clean. tt;
    moved = λ clean n h schema none st. unmoved n h e (moves s2 from it (Err e) mv clean n h schema none st);
    empty = λ clean none. absurd (it.empty (early s2 from it (Err e) mv clean) none);
    refused = λ clean. refused e (from, (it.ok (early s2 from it (Err e) mv clean)).0, it.known)
        (λ n h schema none st. moves s2 from it (Err e) mv clean n h schema none st);
    err = λ clean. then_as_before s0 s1 s2 (λ now. it.same (early s2 from it (Err e) mv clean)) (mv.err clean);
    ended = mv.ended;
    survives = survived s2 from it (Err e) mv;
    crash = crashed s0 s2 last (survived s2 from it (Err e) mv);
  } where
    unmoved : (n : ℕ) (h : Host) (x : KeepError) → Finds {A = Unit {0}} (Err x) (λ done. OpensAs s2 h) (HasUnsoundBook h)
        → IsMoved n h s2 (Err (move_fault_of x))
    unmoved n h Keeper.Memory it = tt
    unmoved n h (Keeper.Store NoRecord) it = it
    unmoved n h (Keeper.Store Database) it = tt

    no_sound : (h : Host) (o : Option BookValue) → get h.books 0 ≡ o → (get h.books 0 ≡ None → HasUnsoundBook h) → HasUnsoundBook h
    no_sound h None at found = found at
    no_sound h (Some k) at found = (0, (k, at, λ sound. absurd (let least = sound.0.0 in omega (arith, least))))

    refused : (x : KeepError) → ((n : ℕ) × NotesSchema s0.now n × IsSchema n) → ((n : ℕ) (h : Host) → IsSchema n → get h.books 0 ≡ None → StandsUnder n s0.now h
        → Finds {A = Unit {0}} (Err x) (λ done. OpensAs s2 h) (HasUnsoundBook h)) → IsUnmovable s0.now (move_fault_of x)
    refused Keeper.Memory noted it = tt
    refused (Keeper.Store NoRecord) noted it = (noted, λ n h schema st. no_sound h (get h.books 0) refl (λ none. it n h schema none st))
    refused (Keeper.Store Database) noted it = tt
