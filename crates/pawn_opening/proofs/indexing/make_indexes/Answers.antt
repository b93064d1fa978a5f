use Rattle.pawn_opening.proofs.IndexTexts.{adds_both, adds_by_end, adds_by_time}
use Rattle.pawn_opening.specs.Common.{state, Error}
use Rattle.pawn_opening.specs.declared.indexing.Lacking.TheVariants.{PledgesByEnd, BookingsByTime, Both}
use Rattle.std.proofs.Common.{◌≡◌, is_ok, rules}
use Rattle.pawn_opening.proofs.indexing.make_indexes.Goals as goal

pub returns-in-PledgesByEnd-clause-adds : goal.returns-in-PledgesByEnd-clause-adds
returns-in-PledgesByEnd-clause-adds g c = let is : c.args.which ≡ PledgesByEnd = search rules in
    rw is (adds_by_end {E = Error} (state g.S.Store c.args.tx.now.conn.now) (state g.S.Store c.run.new.tx.conn.now) c.run.result c.run.ensures.ran)

pub returns-in-BookingsByTime-clause-adds : goal.returns-in-BookingsByTime-clause-adds
returns-in-BookingsByTime-clause-adds g c = let is : c.args.which ≡ BookingsByTime = search rules in
    rw is (adds_by_time {E = Error} (state g.S.Store c.args.tx.now.conn.now)
    (state g.S.Store c.run-in-BookingsByTime.new.tx.conn.now) c.run-in-BookingsByTime.result c.run-in-BookingsByTime.ensures.ran)

pub returns-in_ok-run-in-Both-clause-adds : goal.returns-in_ok-run-in-Both-clause-adds
returns-in_ok-run-in-Both-clause-adds g c = let is : c.args.which ≡ Both = search rules in
    rw is (adds_both {E = Error} (state g.S.Store c.args.tx.now.conn.now) (state g.S.Store c.run-in-Both.new.tx.conn.now)
    (state g.S.Store c.run-in-Both-2.new.tx.conn.now) c.run-in-Both-2.result (is_ok c.run-in-Both-2.result)
    c.in_ok-run-in-Both.ensures.lent.leaves c.run-in-Both-2.ensures.lent.leaves c.in_ok-run-in-Both.ensures.ran c.run-in-Both-2.ensures.ran)
