-- What an open finds in files.
use Rattle.pawn_opening.proofs.Begun.{held}
use Rattle.pawn_opening.specs.Closed.{AreClosedFor, HasCommitted, IsLeftUnclosed, StandsAlone}
use Rattle.pawn_opening.specs.Common.{MoreFaults, Files, faults, is_shielded, recovers, view, FileStore, catalog_tree}
use Rattle.pawn_opening.specs.Common.{IsClean, IsQuiet, doubt, Image, Database, IsDatabase, Held, Schema, HasCleanDisk}
use Rattle.pawn_opening.specs.Common.{State, Trees, Error, SqliteFailure, Host, no_schema, HoldHost, StandsFor, Ghosts}
use Rattle.pawn_opening.specs.FilesStand.{HoldsIn, IsBlank, IsRefusedStore, OpensFound, StandsIn}
use Rattle.pawn_opening.specs.Indexing.{GainsIndexes, lacking}
use Rattle.pawn_opening.specs.Opened.{AreMadeOf, IsOpenable, Prepares}
use Rattle.pawn_opening.specs.Refusing.{IsEmptyStore, IsRefusedFor, IsStoreFault, NotesSchema}
use Rattle.pawn_opening.specs.declared.fault.OpenFault.{OpenFault}
use Rattle.sqlite.proofs.ListingLemmas.{empty_is_sound}
use Rattle.sqlite.specs.Closing.{HoldsAlone, IsCopied}
use Rattle.sqlite.specs.Files.{ExcusesClose, FailsToClose, Finds, IsCleanLeft, IsClosed, file_state, image_of}
use Rattle.sqlite.specs.Start.{FindsIn}
use Rattle.sqlite.specs.State.{IsLive, Opens, store_error}
use Rattle.sqlite_catalog.proofs.ReadLemmas.{lists_once}
use Rattle.sqlite_catalog.specs.Listing.{IsSound}
use Rattle.sqlite_trees.proofs.Doubt.{no_doubt}
use Rattle.sqlite_trees.specs.Props.{Trees-set}
use Rattle.sqlite_trees.specs.declared.error.StoreError.{StoreError}
use Rattle.std.proofs.Common.{◌≡◌, ◌⊎◌, ℕ, inl, inr, false, [], Err, refl, sym, ap, subst, ◌∙◌, arith}
use Rattle.std.proofs.Math.Logic.{∥∥₁_elim}
use Rattle.sqlite_trees.specs.declared.error.StoreError.TheVariants as stored
use Rattle.sqlite.specs.declared.file.Leftover.TheVariants as left
use Rattle.sqlite.specs.declared.error.ErrorCode.TheVariants as code
use Rattle.pawn_opening.specs.declared.fault.OpenFault.TheVariants as Fault

-- the trees list one schema
schema_once : (s t : Schema) (db : Trees) → IsSound s db → IsSound t db → s ≡ t
schema_once s t db p q = lists_once (db catalog_tree) s t p.lists q.lists

found_again : (now : Database) (db : Trees) (h : Host) → now.trees ≡ db → IsDatabase now → HoldHost db h → StandsFor now h
found_again now db h is sound left = let same : now.schema ≡ left.0 = schema_once now.schema left.0 db (subst (IsSound now.schema) is sound) left.1.sound in
    subst (λ (d : Database). StandsFor d h) (λ i. record { schema = sym same i; trees = sym is i }) left.1

database_again : (now db : Database) → now.trees ≡ db.trees → IsDatabase now → IsDatabase db → now ≡ db
database_again now db is sound sound' =
    let same : now.schema ≡ db.schema = schema_once now.schema db.schema db.trees (subst (IsSound now.schema) is sound) sound' in
    λ i. record { schema = same i; trees = is i }

-- an open store of what these bytes hold
module _ (image : Image) (s : State) (opened : Opens s × IsLive s) (found : FindsIn image s) where
  trees_are : s.now.trees ≡ s.committed.trees
  trees_are = ap (λ (d : Database). d.trees) opened.0.clean

  sound : IsDatabase s.now
  sound = (opened.1 opened.0.is_open).0

  pub finds_host : (h : Host) → StandsIn image h → StandsFor s.now h
  finds_host h it = found_again s.now it.trees h (trees_are ∙ ∥∥₁_elim it.held (Trees-set _ _) (found.holds it.trees)) sound it.stands

  pub finds_database : (db : Database) → HoldsIn image db → s.now ≡ db
  finds_database db it = database_again s.now db (trees_are ∙ ∥∥₁_elim it.0 (Trees-set _ _) (found.holds db.trees)) sound it.1

  pub finds_none : IsBlank image → IsEmptyStore s.now
  finds_none blank = let bare : s.now.trees catalog_tree ≡ [] = ap (λ (db : Trees). db catalog_tree) trees_are ∙ blank _ found.reads in
      schema_once s.now.schema no_schema s.now.trees sound (empty_is_sound s.now.trees bare)

  -- the database that was found is opened
  pub accepted : (new : State) → IsOpenable s new → OpensFound image new
  accepted new is = record {
    found = s.committed;
    reads = found.reads;
    holds = found.holds;
    sound = (opened.1 opened.0.is_open).1;
    opened = elim is [
      | inl empty ↦ inl (subst IsEmptyStore opened.0.clean empty.0, empty.1)
      | inr ours ↦ inr (
        subst (λ d. NotesSchema d 3) opened.0.clean ours.0,
        ours.1.0,
        subst (λ (d : Database). GainsIndexes (lacking d.schema) d new.now) opened.0.clean ours.1.1,
        ours.1.2,
      )
    ];
  }

  -- the database that was found is refused
  pub refused : {D : Type 0} {g : Ghosts D} (new : Held (FileStore D g)) (it : FileStore D g) (limit : ℕ) (why : OpenFault) → Prepares s (file_state new) limit
      (Err why) → IsQuiet view faults recovers is_shielded new.store it → IsCleanLeft (left.Store it) → IsRefusedStore image limit why (left.Store it)
  refused new it limit why p quiet clean = let dirt : doubt (view it).is_clean ≡ 0 = no_doubt (view it).is_clean clean in
      let up = quiet.clean in let fair : HasCleanDisk (file_state new) = omega (arith, up, dirt) in
      let same : s.now ≡ s.committed = opened.0.clean in (
        it,
        refl,
        record {
          found = s.committed;
          reads = found.reads;
          holds = found.holds;
          sound = (opened.1 opened.0.is_open).1;
          refused = subst (λ d. IsRefusedFor d why) same (p.refused fair);
          crash = λ trees may. elim (p.crash fair opened.0.is_open trees (quiet.outcomes trees may))
              [ inl last ↦ inl last | inr made ↦ inr (subst (λ d. AreMadeOf d limit trees) same made) ];
        },
      )

pub as_found : {D : Type 0} {g : Ghosts D} (files : Files D) (c : Held (FileStore D g)) → Finds files c → FindsIn (image_of g files) (file_state c)
as_found files c found = record { holds = found.holds; reads = found.reads }

-- the files that a close returns stand for what was committed
pub closes : {D : Type 0} {g : Ghosts D} (c : Held (FileStore D g)) (files : Files D) (h : Host) → IsCopied c files → HasCommitted (file_state c) h
    → AreClosedFor g files h
closes {D} {g} c files h copied committed = record { seen = alone (image_of g files) copied.seen; left = λ image may. alone image (copied.left image may) }
  where
    alone : (image : Image) → HoldsAlone image (file_state c).committed.trees → StandsAlone image h
    alone image holds = let stands = held (file_state c).committed h (committed copied.was_open) in
        record {
          both = record { trees = (file_state c).committed.trees; held = holds.both; stands = stands };
          alone = record { trees = (file_state c).committed.trees; held = holds.alone; stands = stands };
        }

-- why a store is blamed that was not closed
pub blamed : {D : Type 0} {g : Ghosts D} (c : Held (FileStore D g)) (it : FileStore D g) (error : Error) (why : OpenFault)
    → (error ≡ SqliteFailure code.OutOfMemory → why ≡ Fault.Memory) → FailsToClose c it error
    → why ≡ Fault.Store → ((file_state c).is_open ≡ false) ⊎ MoreFaults (file_state c).faults (faults it)
blamed {D} {g} c it error why told fails store = go fails.0 fails.1 fails.2 where
  go : (cause : StoreError) → error ≡ store_error cause → ExcusesClose c it cause
      → ((file_state c).is_open ≡ false) ⊎ MoreFaults (file_state c).faults (faults it)
  go stored.OutOfMemory is excuse = absurd (let e = sym (told is) ∙ store in cc)
  go stored.Io is excuse = inr excuse
  go stored.Corrupt is excuse = inr excuse
  go stored.Full is excuse = inr excuse
  go stored.Broken is excuse = excuse
  go stored.Unstorable is excuse = absurd excuse

pub unclosed : {D : Type 0} {g : Ghosts D} (c : Held (FileStore D g)) (it : FileStore D g) (error : Error) (why : OpenFault) → IsStoreFault why
    → (error ≡ SqliteFailure code.OutOfMemory → why ≡ Fault.Memory) → IsClosed c it → (IsClean (view it) → FailsToClose c it error) → IsLeftUnclosed c why it
unclosed c it error why fault told left fails = record { fault = fault; left = left; cause = λ clean. blamed c it error why told (fails clean) }
