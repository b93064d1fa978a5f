use Rattle.pawn_tables.proofs.Joins.{related_told}
use Rattle.pawn_tables.proofs.Lent.{first_unfound, next_found, next_unfound, one_found}
use Rattle.pawn_tables.proofs.Reading.{rules}
use Rattle.pawn_tables.proofs.whole.related_in.Goals as goal

pub returns-in_err-terms-clause-finds : goal.returns-in_err-terms-clause-finds
returns-in_err-terms-clause-finds g c = first_unfound _ _ _ _ c.from_residual.result _ c.in_err-terms.was (search rules) c.terms_in.ensures.finds

pub returns-in_err-booking-clause-finds : goal.returns-in_err-booking-clause-finds
returns-in_err-booking-clause-finds g c = let one = one_found _ _ c.in_ok-terms.was c.in_ok-terms.ensures.lent.leaves c.terms_in.ensures.finds in
    next_unfound _ _ c.from_residual-in_err-booking.result _ one c.in_err-booking.was
    (search rules) c.in_err-booking.ensures.lent.leaves c.booking_in.ensures.finds

pub returns-in_err-totals-clause-finds : goal.returns-in_err-totals-clause-finds
returns-in_err-totals-clause-finds g c = let one = one_found _ _ c.in_ok-terms.was c.in_ok-terms.ensures.lent.leaves c.terms_in.ensures.finds in
    let two = next_found _ _ one c.in_ok-booking.was c.in_ok-booking.ensures.lent.leaves c.booking_in.ensures.finds in
    next_unfound _ _ c.from_residual-in_err-totals.result _ two c.in_err-totals.was (search rules) c.in_err-totals.ensures.lent.leaves c.totals_in.ensures.finds

pub returns-clause-finds : goal.returns-clause-finds
returns-clause-finds g c clean within h stood = let one = one_found _ _ c.in_ok-terms.was c.in_ok-terms.ensures.lent.leaves c.terms_in.ensures.finds in
    let two = next_found _ _ one c.in_ok-booking.was c.in_ok-booking.ensures.lent.leaves c.booking_in.ensures.finds in
    let f = (next_found _ _ two c.in_ok-totals.was c.in_ok-totals.ensures.lent.leaves c.totals_in.ensures.finds).is clean within h stood in
    (related_told h c.args.book c.args.number c.args.version _ f.0.ordered f.1.0.0 f.1.0.1 f.1.1, f.2)
