use Rattle.pawn_book.proofs.RowSums.{part}
use Rattle.pawn_book.specs.BookStep.{pledge_from}
use Rattle.pawn_book.specs.Changes.{with_change}
use Rattle.pawn_book.specs.declared.change.Change.TheVariants.{PutPledge}
use Rattle.pawn_pledge.specs.Pledge.{PledgeValue}
use Rattle.pawn_saving.proofs.Basics.{clean_before}
use Rattle.pawn_saving.proofs.BookChanges.{only_book, other_books}
use Rattle.pawn_saving.proofs.Hosting.{as_lists}
use Rattle.pawn_saving.proofs.PledgeChanges.{put_length, stood}
use Rattle.pawn_saving.proofs.PledgeWrites.{next_number, next_written, none_booked}
use Rattle.pawn_saving.proofs.Writing.{None, ap, arith, length, refl, subst, sym, ◌+◌, ◌∙◌, ◌≡◌, state, pledge_in}
use Rattle.pawn_saving.proofs.Writing.{put_from, rows}
use Rattle.pawn_saving.specs.Counted.{IsWrittenPart}
use Rattle.pawn_saving.specs.Putting.{beside, whole_pledge}
use Rattle.pawn_saving.proofs.renewing.add_pledge.Goals as goal
use Rattle.pawn_tables.specs.StandsFor.{listed_as}

pub returns-clause-wrote : goal.returns-clause-wrote
returns-clause-wrote g c clean within h sound can st absent = let new = state g.S.Store c.set_pledges_count.new.tx.conn.now in
    let b = c.args.book in let n = c.args.number in
    let p = c.args.pledge.now in let clean1 = clean_before _ _ _ c.in_ok-set_pledges_count.ensures.lent.leaves clean in
    let k = can.follows.0 in let is = can.follows.1 in
    let none : stood h b n k p is ≡ None = ap (λ o. pledge_in o n) (sym is) ∙ absent in
    let next : n ≡ length k.pledges + 1 = next_number k n p none can.follows.2 in let counted = rows h in
    let within1 = c.in_ok-added.ensures.lent.leaves.inside clean1 within refl in
    let whole = rw (c.get.ensures.value, c.get-2.ensures.value) at (c.in_ok-added.ensures.wrote clean1 within (listed_as h counted)) in
    let one = whole (none_booked h b n k p is st.ordered none) (as_lists _ h st) in
    let longer : length (put_from 1 k.pledges n p) ≡ n = (let sum = put_length n p 1 k.pledges in
    let zero' : part (λ (q : PledgeValue). 1) (pledge_from 1 k.pledges n) ≡ 0 = ap (part (λ (q : PledgeValue). 1)) none in omega (arith, sum, zero', next)) in
    let two = rw (c.get-3.ensures.value, c.get-4.ensures.value) at (c.in_ok-set_pledges_count.ensures.wrote k (put_from 1 k.pledges n p)) in
    let both = two longer clean within1 (beside (whole_pledge b n p) (listed_as h counted)) (other_books h b k is) (only_book h b k is counted) one.1 in
    subst (IsWrittenPart h (with_change h (PutPledge b n p)) new.now) (sym one.0)
    (next_written h b n k p is counted none new.now refl can.sound (omega (arith, next)) (omega (arith, next)) both)
