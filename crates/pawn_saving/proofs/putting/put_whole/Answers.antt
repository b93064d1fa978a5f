use Rattle.pawn_saving.proofs.PledgePartWrites.{whole_put}
use Rattle.pawn_saving.proofs.RowsInOrder.{was_clean}
use Rattle.pawn_saving.proofs.Writing.{refl, state}
use Rattle.pawn_saving.specs.Putting.{beside, related_of}
use Rattle.pawn_saving.proofs.putting.put_whole.Goals as goal

pub returns-clause-wrote : goal.returns-clause-wrote
returns-clause-wrote g c clean within listed none l = let b = c.args.book in
    let n = c.args.number in let p = c.args.pledge.now in
    let clean1 = was_clean _ _ _ c.in_ok-put_lists.ensures.carried.leaves clean in
    let within1 = c.in_ok-put_related.ensures.lent.leaves.inside clean1 within refl in
    let related = c.in_ok-put_related.ensures.wrote clean1 within listed none l in (
      c.in_ok-added.ensures.value,
      whole_put (state g.S.Store c.put_lists.new.tx.conn.now).now listed b n p
          (c.in_ok-put_lists.ensures.wrote clean within1 (beside (related_of b n p) listed) related),
    )
