-- The content of files before an open, and after an open that is refused.
use Rattle.pawn_opening.specs.Common.{Ghosts, Files, recovers, FileStore, catalog_tree, Image, Database, IsDatabase}
use Rattle.pawn_opening.specs.Common.{State, Trees, Host, HoldHost}
use Rattle.pawn_opening.specs.Indexing.{GainsIndexes, HasBothIndexes, lacking}
use Rattle.pawn_opening.specs.Opened.{AreMadeOf}
use Rattle.pawn_opening.specs.Refusing.{IsEmptyStore, IsRefusedFor, IsStoreFault, NotesSchema}
use Rattle.pawn_opening.specs.declared.fault.OpenFault.{OpenFault}
use Rattle.sqlite.specs.Files.{AreFoundIn, HoldsDatabase, LeavesFiles, image_of}
use Rattle.sqlite.specs.declared.file.Leftover.{Leftover}
use Rattle.std.specs.Prelude.{◌≡◌, ◌⊎◌, ℕ, [], IsTrue}
use Rattle.sqlite.specs.declared.file.Leftover.TheVariants as left

-- the bytes of the files encode a database that stands for the host
pub record StandsIn (image : Image) (h : Host) : Type 0 where
  pub trees : Trees
  pub held : ∥ HoldsDatabase image trees ∥₁
  pub stands : HoldHost trees h

-- the bytes of the files encode this database
abbrev pub HoldsIn : Image → Database → Type 0
HoldsIn image db = ∥ HoldsDatabase image db.trees ∥₁ × IsDatabase db

-- every database that an open may find in the bytes has an empty catalog
abbrev pub IsBlank : Image → Type 0
IsBlank image = (found : Trees) → AreFoundIn image found → found catalog_tree ≡ []

-- The bytes encode a database that is refused for this reason. A crash leaves that database, or what the opening made
-- of it.
pub record RefusesFound {D : Type 0} {g : Ghosts D} (image : Image) (limit : ℕ) (why : OpenFault) (it : FileStore D g) : Type 0 where
  pub found : Database
  pub reads : AreFoundIn image found.trees
  pub holds : (db : Trees) → HoldsDatabase image db → found.trees ≡ db
  pub sound : IsDatabase found
  pub refused : IsRefusedFor found why
  pub crash : (trees : Trees) → recovers it trees → (trees ≡ found.trees) ⊎ AreMadeOf found limit trees

-- The bytes encode a database that is opened: either an empty one, which gets the program's tables and indexes, or one
-- that notes the program's schema, which gets the indexes that it lacks and is otherwise unchanged.
pub record OpensFound (image : Image) (s : State) : Type 0 where
  pub found : Database
  pub reads : AreFoundIn image found.trees
  pub holds : (db : Trees) → HoldsDatabase image db → found.trees ≡ db
  pub sound : IsDatabase found
  pub opened : (IsEmptyStore found × HasBothIndexes s.now.schema)
      ⊎ (NotesSchema found 3 × IsTrue s.is_open × GainsIndexes (lacking found.schema) found s.now × (s.now ≡ s.committed))

-- what is left is a store over the files, whose database is refused
abbrev pub IsRefusedStore : {D : Type 0} {g : Ghosts D} → Image → ℕ → OpenFault → Leftover D g → Type 0
IsRefusedStore {D} {g} image limit why rest = (it : FileStore D g) × (rest ≡ left.Store it) × RefusesFound image limit why it

-- either the database library cannot open the files, and leaves them as a failed open does; or it opens them, and their
-- database is refused
abbrev pub RefusesContent : {D : Type 0} {g : Ghosts D} → Image → Files D → ℕ → OpenFault → Leftover D g → Type 0
RefusesContent image files limit why rest = (IsStoreFault why × LeavesFiles files rest) ⊎ IsRefusedStore image limit why rest

abbrev pub RefusesFiles : {D : Type 0} {g : Ghosts D} → Files D → ℕ → OpenFault → Leftover D g → Type 0
RefusesFiles {D} {g} files limit why rest = RefusesContent (image_of g files) files limit why rest
