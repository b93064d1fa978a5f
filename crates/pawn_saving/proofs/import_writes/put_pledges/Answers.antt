use Rattle.pawn_saving.proofs.ImportWrites.{all_pledges_put, one_pledge_put}
use Rattle.pawn_saving.proofs.Writing.{length, rules, ◌∙◌, ◌≤◌, state}
use Rattle.pawn_saving.proofs.import_writes.put_pledges.Goals as goal

pub loop-pledge-preserved : goal.loop-pledge-preserved
loop-pledge-preserved g c = (
  c.put_pledge.ensures.lent.same_reference ∙ c.loop-pledge.invariant.0,
  one_pledge_put (state g.S.Store c.args.tx.now.conn.now) (state g.S.Store c.loop-pledge.tx.conn.now) (state g.S.Store c.put_pledge.new.tx.conn.now) c.args.book
      c.loop-pledge.pledge-index c.loop-pledge.counted c.in_ok-added.added _ c.args.pledges.now c.pledge-item.result
      (search rules) c.pledge-item.is c.in_ok-counted.ensures.value c.loop-pledge.invariant.1 c.in_ok-added.ensures.lent.leaves c.in_ok-added.ensures.wrote,
)

pub returns-clause-wrote : goal.returns-clause-wrote
returns-clause-wrote g c = let end : length c.args.pledges.now ≤ c.loop-pledge.pledge-index = search rules in
    all_pledges_put (state g.S.Store c.args.tx.now.conn.now)
    (state g.S.Store c.loop-pledge.tx.conn.now) c.args.book c.args.pledges.now c.loop-pledge.pledge-index c.loop-pledge.counted end c.loop-pledge.invariant.1
