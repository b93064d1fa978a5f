use Rattle.pawn_tables.proofs.Joins.{joined_told}
use Rattle.pawn_tables.proofs.Lent.{first_unfound, both_found}
use Rattle.pawn_tables.proofs.Reading.{Err, Ok, Some, ap, rules, subst, sym, ◌∙◌, ◌≡◌, get, pledge_in}
use Rattle.pawn_tables.proofs.SoundReads.{unreachable_unsound, unjoined}
use Rattle.pawn_tables.specs.Common.{PledgeValue, IsReachable}
use Rattle.pawn_tables.specs.PledgeRows.{AreLists}
use Rattle.pawn_tables.proofs.whole.pledge_of.Goals as goal

pub returns-in_err-stored-clause-finds : goal.returns-in_err-stored-clause-finds
returns-in_err-stored-clause-finds g c = first_unfound _ _ _ _ c.from_residual.result _ c.in_err-stored.was (search rules) c.stored_pledge_in.ensures.finds

pub returns-in_err-pledge-clause-finds : goal.returns-in_err-pledge-clause-finds
returns-in_err-pledge-clause-finds g c clean within h stood =
    let f = (both_found _ _ c.in_ok-stored.ensures.lent.leaves c.in_ok-stored.ensures.finds c.in_ok-lists.ensures.lent.leaves
    c.in_ok-lists.ensures.finds).is clean within h stood in
    let r =
    joined_told h c.args.book c.get-n.result _ c.in-Some.stored c.in_ok-lists.lists AreLists (λ (q : PledgeValue). q) IsReachable
    (Err c.in_err-pledge.field-0.0) c.args.number (sym c.get-n.ensures.value) f.0.ordered c.in-Some.is f.1.0 f.1.1 c.in_err-pledge.ensures.read in
    unjoined c.in_err-pledge.field-0.0 ((λ (q : PledgeValue). q) r.0) c.from_residual-in_err-pledge.result _ _ _ (search rules) r.2
    (unreachable_unsound h c.args.book c.get-n.result r.0 r.1)

pub returns-clause-finds : goal.returns-clause-finds
returns-clause-finds g c clean within h stood =
    let f = (both_found _ _ c.in_ok-stored.ensures.lent.leaves c.in_ok-stored.ensures.finds c.in_ok-lists.ensures.lent.leaves
    c.in_ok-lists.ensures.finds).is clean within h stood in
    let r =
    joined_told h c.args.book c.get-n.result _ c.in-Some.stored c.in_ok-lists.lists AreLists (λ (q : PledgeValue). q) IsReachable
    (Ok c.in_ok-pledge.pledge) c.args.number (sym c.get-n.ensures.value) f.0.ordered c.in-Some.is f.1.0 f.1.1 c.in_ok-pledge.ensures.read in
    let whole = ap Some r.2 ∙ sym r.1 in
    (subst (λ n. Some c.in_ok-pledge.pledge ≡ pledge_in (get h.books c.args.book) n) c.get-n.ensures.value whole, f.2)
