use Rattle.pawn_move.proofs.Made.{noted_alone, noted_then}
use Rattle.pawn_opening.specs.Common.{state}
use Rattle.std.proofs.Common.{is_ok}
use Rattle.pawn_move.proofs.making.finish.Goals as goal

pub returns-in-Some-clause-finishes : goal.returns-in-Some-clause-finishes
returns-in-Some-clause-finishes g c = rw c.in-Some.is (noted_then c.in-Some.which (state g.S.Store c.args.tx.now.conn.now)
    (state g.S.Store c.note_schema.new.tx.conn.now) (state g.S.Store c.make_indexes.new.tx.conn.now) c.make_indexes.result (is_ok c.make_indexes.result)
    c.in_ok-note_schema.ensures.lent.leaves c.make_indexes.ensures.lent.leaves c.in_ok-note_schema.ensures.noted c.make_indexes.ensures.adds)

pub returns-in-None-clause-finishes : goal.returns-in-None-clause-finishes
returns-in-None-clause-finishes g c = rw c.in-None.is (noted_alone (state g.S.Store c.args.tx.now.conn.now)
    (state g.S.Store c.note_schema.new.tx.conn.now) c.in_ok-note_schema.ensures.noted)
