use Rattle.pawn_opening.proofs.FirstContents.{content_made}
use Rattle.pawn_opening.specs.Common.{state}
use Rattle.pawn_opening.proofs.first_content.make_first_content.Goals as goal

pub returns-clause-made : goal.returns-clause-made
returns-clause-made g c =
    content_made (state g.S.Store c.args.tx.now.conn.now) (state g.S.Store c.make_tables.new.tx.conn.now) (state g.S.Store c.note.new.tx.conn.now)
    (state g.S.Store c.note-2.new.tx.conn.now) (state g.S.Store c.note-3.new.tx.conn.now)
    (state g.S.Store c.make_indexes.new.tx.conn.now) c.args.limit c.make_indexes.result c.in_ok-make_tables.ensures.made c.in_ok-make_tables.ensures.lent.leaves
    c.in_ok-note.ensures.noted c.in_ok-note.ensures.lent.leaves c.in_ok-note-2.ensures.noted c.in_ok-note-2.ensures.lent.leaves c.in_ok-note-3.ensures.noted
    c.in_ok-note-3.ensures.lent.leaves c.make_indexes.ensures.adds c.make_indexes.ensures.lent.leaves
