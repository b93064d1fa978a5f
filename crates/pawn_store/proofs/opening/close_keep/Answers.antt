use Rattle.pawn_book.specs.HostStep.{Host}
use Rattle.pawn_opening.specs.Closed.{AreClosedFor, HasCommitted, IsLeftUnclosed}
use Rattle.pawn_tables.specs.StandsFor.{StandsFor}
use Rattle.sqlite.specs.Files.{file_state}
use Rattle.sqlite_wal.specs.Reads.{AreClean}
use Rattle.std.proofs.Common.{subst}
use Rattle.pawn_store.proofs.opening.close_keep.Goals as goal

pub returns-in-Ok-clause-kept : goal.returns-in-Ok-clause-kept
returns-in-Ok-clause-kept g c clean h kept =
    let closed = subst (λ conn. AreClean g.D.Disk c.in-Ok.files.log c.in-Ok.files.db → (h : Host) → HasCommitted (file_state conn) h
    → AreClosedFor g.D.Disk c.in-Ok.files h) c.into_connection.ensures.same c.in-Ok.ensures.kept in
    closed clean h (λ now. subst (λ d. StandsFor d h) (kept.committed now) (kept.stands now))

pub returns-in-Err-clause-refused : goal.returns-in-Err-clause-refused
returns-in-Err-clause-refused g c =
    subst (λ conn. IsLeftUnclosed conn c.in-Err.refused.0 c.in-Err.refused.1) c.into_connection.ensures.same c.in-Err.ensures.refused
