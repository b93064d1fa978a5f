use Rattle.pawn_saving.proofs.BookChanges.{made_written}
use Rattle.pawn_saving.proofs.Hosting.{as_lists}
use Rattle.pawn_saving.proofs.Writing.{refl, state, rows}
use Rattle.pawn_saving.proofs.changes.make_book.Goals as goal
use Rattle.pawn_tables.specs.StandsFor.{listed_as}

pub returns-clause-wrote : goal.returns-clause-wrote
returns-clause-wrote g c clean within h sound can st = let new = state g.S.Store c.put_book.new.tx.conn.now in
    let wrote = rw c.get.ensures.value at (c.in_ok-put_book.ensures.wrote clean within (listed_as h (rows h)) (as_lists _ h st)) in
    made_written h c.args.book c.args.new_book.now can.follows (rows h) new.now refl wrote
