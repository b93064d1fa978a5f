use Rattle.pawn_saving.proofs.Basics.{clean_before}
use Rattle.pawn_saving.proofs.StoredReads.{can_within, none_stored, some_stored}
use Rattle.pawn_saving.proofs.Writing.{rules, subst, sym}
use Rattle.pawn_tables.specs.StandsFor.{StandsFor}
use Rattle.pawn_saving.proofs.changes.put_pledge.Goals as goal

pub returns-then-stored-eq0-clause-wrote : goal.returns-then-stored-eq0-clause-wrote
returns-then-stored-eq0-clause-wrote g c clean within h sound can st = let b = c.args.book in
    let n = c.args.number in let clean1 = clean_before _ _ _ c.add_pledge.ensures.lent.leaves clean in
    let read = rw (c.get.ensures.value, c.get-2.ensures.value) at (c.in_ok-stored.ensures.reads clean1 within h sound st) in
    let few = can_within c.in_ok-lengths.lengths c.args.pledge.now c.in_ok-lengths.ensures.value h b n can in
    c.add_pledge.ensures.wrote clean read.1.inside h sound can (subst (λ d. StandsFor d h) (sym read.1.now_is) st)
    (none_stored h b n c.in_ok-stored.stored sound (read.0 few) (search rules))

pub returns-clause-wrote : goal.returns-clause-wrote
returns-clause-wrote g c clean within h sound can st = let b = c.args.book in
    let n = c.args.number in let clean1 = clean_before _ _ _ c.renew_pledge.ensures.lent.leaves clean in
    let read = rw (c.get.ensures.value, c.get-2.ensures.value) at (c.in_ok-stored.ensures.reads clean1 within h sound st) in
    let few = can_within c.in_ok-lengths.lengths c.args.pledge.now c.in_ok-lengths.ensures.value h b n can in
    let one = some_stored h b n c.in_ok-stored.stored (read.0 few) (search rules) in
    c.renew_pledge.ensures.wrote one.0 one.2 clean read.1.inside h sound can (subst (λ d. StandsFor d h) (sym read.1.now_is) st) one.1
