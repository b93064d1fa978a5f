use Rattle.pawn_opening.proofs.Found.{as_found, finds_database}
use Rattle.pawn_opening.proofs.Seen.{untouched}
use Rattle.pawn_opening.specs.FilesStand.{HoldsIn}
use Rattle.sqlite.specs.Files.{file_state}
use Rattle.std.proofs.Common.{subst, sym}
use Rattle.pawn_opening.proofs.connecting.connect_path.Goals as goal

pub returns-in-Ok-clause-holds : goal.returns-in-Ok-clause-holds
returns-in-Ok-clause-holds g c clean db held = let fresh = c.in_ok-files.ensures.fresh in
    finds_database _ (file_state c.in-Ok.conn) (c.in-Ok.ensures.opened clean) (as_found c.in_ok-files.files c.in-Ok.conn (c.in-Ok.ensures.found clean)) db
    (subst (λ i. HoldsIn i db) (sym (untouched g.S.Start.log g.S.Start.db fresh.0 fresh.1)) held)
