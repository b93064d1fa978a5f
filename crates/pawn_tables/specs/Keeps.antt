-- The keeper over a connection, as an instance of `Keeping`.
use Rattle.pawn_tables.specs.Common.{HasCleanDisk, State, Trees, Host, Keeping, IsSound}
use Rattle.pawn_tables.specs.StandsFor.{StandsFor, HoldHost}
use Rattle.std.specs.Prelude.{◌≡◌, false, IsTrue}

-- no transaction is under way, and the store, if it is open, shows what is committed, which stands for the host; a
-- store that a fault has shut meets this for every host
pub record Keeps (s : State) (h : Host) : Type 0 where
  pub autocommit : s.in_transaction ≡ false
  pub committed : IsTrue s.is_open → s.now ≡ s.committed
  pub stands : IsTrue s.is_open → StandsFor s.now h

-- a crash at this moment may leave trees that stand for the host
pub record Leaves (s : State) (h : Host) : Type 0 where
  pub trees : Trees
  pub left : s.may_leave trees
  pub stands : HoldHost trees h

-- the trees stand for a sound host
abbrev pub HoldSound : Trees → Type 0
HoldSound trees = (h : Host) × IsSound h × HoldHost trees h

-- the store stands for a sound host, and all trees that a crash at this moment may leave stand for a sound host
pub record IsWhole (s : State) : Type 0 where
  pub host : Host
  pub sound : IsSound host
  pub keeps : Keeps s host
  pub crash : (trees : Trees) → s.may_leave trees → HoldSound trees

-- A keeper over a connection. It is honest as long as the disk has returned what was written, and usable while its
-- store is open. It is never steady: its store may fail at any time.
abbrev pub keeping_by : {K : Type 0} → (K → State) → Keeping K
keeping_by state = record {
  stands = λ k. Keeps (state k);
  honest = λ k. HasCleanDisk (state k);
  usable = λ k. IsTrue (state k).is_open;
  steady = λ k. ⊥;
  leaves = λ k. Leaves (state k);
  whole = λ k. IsWhole (state k);
}
