use Rattle.pawn_opening.proofs.MetaRows.{noted, on_ran}
use Rattle.pawn_opening.specs.Common.{state}
use Rattle.pawn_opening.proofs.noting.note.Goals as goal

pub returns-clause-noted : goal.returns-clause-noted
returns-clause-noted g c clean within listed st = let old = state g.S.Store c.args.tx.now.conn.now in
    let new = state g.S.Store c.run.new.tx.conn.now in
    on_ran c.run.result _ _ (rw (c.params-to_sql.ensures, c.params-to_sql-2.ensures) at (c.run.ensures.ran clean within))
    (λ count. noted old new _ c.args.value count listed st)
