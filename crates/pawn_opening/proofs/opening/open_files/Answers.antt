use Rattle.pawn_opening.proofs.Found.{accepted, as_found, finds_host, finds_none, refused}
use Rattle.pawn_opening.specs.Common.{HasCleanDisk}
use Rattle.sqlite.specs.Files.{file_state, image_of}
use Rattle.sqlite_trees.proofs.Doubt.{no_doubt}
use Rattle.std.proofs.Common.{arith, inr}
use Rattle.pawn_opening.proofs.opening.open_files.Goals as goal

pub returns-in-Ok-prepare-clause-blank : goal.returns-in-Ok-prepare-clause-blank
returns-in-Ok-prepare-clause-blank g c clean blank = let p = c.in-Ok-prepare.ensures.prepared in
    let early : HasCleanDisk (file_state c.in-Ok.conn) = omega (arith, clean, p.survives.clean) in
    p.new_store clean (finds_none (image_of g.D.Disk c.args.files) (file_state c.in-Ok.conn) (c.in-Ok.ensures.opened early)
    (as_found c.args.files c.in-Ok.conn (c.in-Ok.ensures.found early)) blank)

pub returns-in-Ok-prepare-clause-stands : goal.returns-in-Ok-prepare-clause-stands
returns-in-Ok-prepare-clause-stands g c clean h files = let p = c.in-Ok-prepare.ensures.prepared in
    let early : HasCleanDisk (file_state c.in-Ok.conn) = omega (arith, clean, p.survives.clean) in
    p.stands clean h (finds_host (image_of g.D.Disk c.args.files) (file_state c.in-Ok.conn) (c.in-Ok.ensures.opened early)
    (as_found c.args.files c.in-Ok.conn (c.in-Ok.ensures.found early)) h files)

pub returns-in-Ok-prepare-clause-found : goal.returns-in-Ok-prepare-clause-found
returns-in-Ok-prepare-clause-found g c clean = let p = c.in-Ok-prepare.ensures.prepared in
    let early : HasCleanDisk (file_state c.in-Ok.conn) = omega (arith, clean, p.survives.clean) in
    accepted (image_of g.D.Disk c.args.files) (file_state c.in-Ok.conn) (c.in-Ok.ensures.opened early)
    (as_found c.args.files c.in-Ok.conn (c.in-Ok.ensures.found early)) (file_state c.prepare.new.conn) (p.opens clean)

pub returns-in-Err-prepare-clause-refused : goal.returns-in-Err-prepare-clause-refused
returns-in-Err-prepare-clause-refused g c clean = let p = c.in-Err-prepare.ensures.prepared in
    let early : HasCleanDisk (file_state c.in-Ok.conn) =
    let dirt = no_doubt _ clean in let up = p.survives.clean in let past = c.into_store.ensures.quiet.clean in omega (arith, dirt, up, past) in
    inr (refused (image_of g.D.Disk c.args.files) (file_state c.in-Ok.conn) (c.in-Ok.ensures.opened early) (as_found c.args.files c.in-Ok.conn
    (c.in-Ok.ensures.found early)) c.prepare.new.conn c.into_store.result c.args.limit c.in-Err-prepare.why p c.into_store.ensures.quiet clean)
