-- The state of a store's files after a close.
use Rattle.pawn_opening.specs.Common.{MoreFaults, Ghosts, Files, faults, view, FileStore, IsClean, outcomes, Image}
use Rattle.pawn_opening.specs.Common.{Held, State, Host, StandsFor}
use Rattle.pawn_opening.specs.FilesStand.{StandsIn}
use Rattle.pawn_opening.specs.Refusing.{IsStoreFault}
use Rattle.pawn_opening.specs.declared.fault.OpenFault.{OpenFault}
use Rattle.sqlite.specs.Files.{IsClosed, file_state, image_of}
use Rattle.std.specs.Prelude.{◌≡◌, ◌⊎◌, false, [], IsTrue}
use Rattle.pawn_opening.specs.declared.fault.OpenFault.TheVariants as Fault

-- what an open store has committed stands for the host, even if a transaction is under way; a store that a fault has
-- shut meets this for every host
abbrev pub HasCommitted : State → Host → Type 0
HasCommitted s h = IsTrue s.is_open → StandsFor s.committed h

-- the two files stand for the host, and so does the database file without its log
pub record StandsAlone (image : Image) (h : Host) : Type 0 where
  pub both : StandsIn image h
  pub alone : StandsIn (record image { log = [] }) h

-- closed files stand for the host, both as they are now and as any crash may leave them
pub record AreClosedFor {D : Type 0} (g : Ghosts D) (files : Files D) (h : Host) : Type 0 where
  pub seen : StandsAlone (image_of g files) h
  pub left : (image : Image) → outcomes g files.log files.db image → StandsAlone image h

-- The store that a failed close returns, with the reason. What a crash can leave of it is a database that it could have
-- left of the connection. If the disk returns what was written, `Store` is reported only if a fault had shut the store
-- before, or a file failed during the close.
pub record IsLeftUnclosed {D : Type 0} {g : Ghosts D} (c : Held (FileStore D g)) (why : OpenFault) (it : FileStore D g) : Type 0 where
  pub fault : IsStoreFault why
  pub left : IsClosed c it
  pub cause : IsClean (view it) → why ≡ Fault.Store → ((file_state c).is_open ≡ false) ⊎ MoreFaults (file_state c).faults (faults it)
