use Rattle.pawn_book.specs.HostStep.{Host}
use Rattle.pawn_opening.specs.FilesStand.{IsBlank, OpensFound, StandsIn}
use Rattle.pawn_opening.specs.Opened.{OpensAs, empty_host}
use Rattle.pawn_store.proofs.Runs.{reopens}
use Rattle.pawn_store.specs.Running.{Reopens}
use Rattle.sqlite.specs.Files.{file_state}
use Rattle.sqlite.specs.State.{HasCleanDisk}
use Rattle.sqlite_wal.specs.Files.{image_at}
use Rattle.std.proofs.Common.{subst, sym}
use Rattle.pawn_store.proofs.opening.keep_at_path.Goals as goal

pub returns-in-Ok-clause-blank : goal.returns-in-Ok-clause-blank
returns-in-Ok-clause-blank g c = subst (λ conn. HasCleanDisk (file_state conn) → IsBlank (image_at g.S.Start)
    → OpensAs (file_state conn) (empty_host c.args.limit)) (sym c.in-Ok.ensures.same) c.in_ok-conn.ensures.blank

pub returns-in-Ok-clause-stands : goal.returns-in-Ok-clause-stands
returns-in-Ok-clause-stands g c = subst (λ conn. HasCleanDisk (file_state conn) → (h : Host) → StandsIn (image_at g.S.Start) h → OpensAs (file_state conn) h)
    (sym c.in-Ok.ensures.same) c.in_ok-conn.ensures.stands

pub returns-in-Ok-clause-found : goal.returns-in-Ok-clause-found
returns-in-Ok-clause-found g c =
    subst (λ conn. HasCleanDisk (file_state conn) → OpensFound (image_at g.S.Start) (file_state conn)) (sym c.in-Ok.ensures.same) c.in_ok-conn.ensures.found

pub returns-in-Ok-clause-reopens : goal.returns-in-Ok-clause-reopens
returns-in-Ok-clause-reopens g c = subst (λ conn. HasCleanDisk (file_state conn) → Reopens (image_at g.S.Start) (file_state conn))
    (sym c.in-Ok.ensures.same) (λ clean. reopens (image_at g.S.Start) _ (c.in_ok-conn.ensures.stands clean))
