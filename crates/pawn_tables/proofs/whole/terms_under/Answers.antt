use Rattle.pawn_tables.proofs.Joins.{none_under}
use Rattle.pawn_tables.proofs.Reading.{arith, rules, ◌≡◌, state}
use Rattle.pawn_tables.proofs.whole.terms_under.Goals as goal

pub returns-in_default-clause-finds : goal.returns-in_default-clause-finds
returns-in_default-clause-finds g c = let big = c.in_default.ensures in
    none_under (state g.S.Store c.args.tx.now.conn.now) (state g.S.Store c.terms_in.new.tx.conn.now) c.terms_in.result c.args.book c.args.version
    (omega (arith, big)) c.terms_in.ensures.lent.leaves c.terms_in.ensures.finds

pub returns-clause-finds : goal.returns-clause-finds
returns-clause-finds g c = let version : c.in-Ok.short ≡ c.args.version = search rules in
    rw version at c.terms_in-2.ensures.finds
