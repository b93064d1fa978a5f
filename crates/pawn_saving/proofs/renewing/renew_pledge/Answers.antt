use Rattle.pawn_saving.proofs.Hosting.{as_lists}
use Rattle.pawn_saving.proofs.PledgeChanges.{stood}
use Rattle.pawn_saving.proofs.PledgeWrites.{continues_it, old_related, others, renewed_written}
use Rattle.pawn_saving.proofs.RowsInOrder.{was_clean}
use Rattle.pawn_saving.proofs.Writing.{Some, ap, refl, sym, ◌∙◌, ◌≡◌, state, pledge_in, rows}
use Rattle.pawn_saving.specs.Putting.{with_related}
use Rattle.pawn_saving.proofs.renewing.renew_pledge.Goals as goal
use Rattle.pawn_tables.specs.StandsFor.{listed_as}

pub returns-clause-wrote : goal.returns-clause-wrote
returns-clause-wrote g c old stored clean within h sound can st present = let new = state g.S.Store c.put_lists.new.tx.conn.now in
    let b = c.args.book in let n = c.args.number in
    let p = c.args.pledge.now in let l = c.args.stored.lengths in
    let k = can.follows.0 in let is = can.follows.1 in
    let some : stood h b n k p is ≡ Some old = ap (λ o. pledge_in o n) (sym is) ∙ present in
    let it = continues_it k n old p some can.follows.2 in let counted = rows h in
    let clean1 = was_clean _ _ _ c.in_ok-put_lists.ensures.carried.leaves clean in
    let within1 = c.in_ok-set_related.ensures.lent.leaves.inside clean1 within refl in
    let rest = others h b n k old p is some in
    let set = rw (c.get.ensures.value, c.get-2.ensures.value) at
    (c.in_ok-set_related.ensures.wrote old (sym it.agreement) (c.in_ok-added.ensures.booked old stored) clean1 within (listed_as h counted) rest) in
    let one = set (old_related h b n k old p is some counted st.ordered) (as_lists _ h st) in
    let two =
    rw (c.get-3.ensures.value, c.get-4.ensures.value) at (c.in_ok-put_lists.ensures.wrote clean within1 (with_related b n p rest (listed_as h counted))) in
    renewed_written h b n k old p is some counted st.ordered l it stored.lengths.entries stored.lengths.secrets stored.lengths.extensions new.now
    c.in_ok-added.added refl (c.in_ok-added.ensures.value old stored) (two one)
