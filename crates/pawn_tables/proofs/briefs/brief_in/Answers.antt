use Rattle.pawn_tables.proofs.Joins.{joined_told}
use Rattle.pawn_tables.proofs.Lent.{first_unfound, both_found}
use Rattle.pawn_tables.proofs.Reading.{Err, Ok, Some, ap, option_map, rules, subst, sym, ◌∙◌, ◌≡◌, get, pledge_in}
use Rattle.pawn_tables.proofs.SoundReads.{brief_unsound, unjoined}
use Rattle.pawn_tables.specs.ListEnds.{AreListEnds, stored_brief}
use Rattle.pawn_tables.specs.PledgeRows.{IsBriefDecodable}
use Rattle.pawn_tables.proofs.briefs.brief_in.Goals as goal

pub returns-in_err-stored-clause-finds : goal.returns-in_err-stored-clause-finds
returns-in_err-stored-clause-finds g c = first_unfound _ _ _ _ c.from_residual.result _ c.in_err-stored.was (search rules) c.stored_pledge_in.ensures.finds

pub returns-in_err-brief-clause-finds : goal.returns-in_err-brief-clause-finds
returns-in_err-brief-clause-finds g c clean within h stood =
    let f = (both_found _ _ c.in_ok-stored.ensures.lent.leaves c.in_ok-stored.ensures.finds c.in_ok-list_ends.ensures.lent.leaves
    c.in_ok-list_ends.ensures.finds).is clean within h stood in
    let r =
    joined_told h c.args.book c.get-n.result _ c.in-Some.stored c.in_ok-list_ends.list_ends AreListEnds stored_brief IsBriefDecodable
    (Err c.in_err-brief.field-0.0) c.args.number (sym c.get-n.ensures.value) f.0.ordered c.in-Some.is f.1.0 f.1.1 c.in_err-brief.ensures.read in
    unjoined c.in_err-brief.field-0.0 (stored_brief r.0) c.from_residual-in_err-brief.result _ _ _ (search rules) r.2
    (brief_unsound h f.0.storable c.args.book c.get-n.result r.0 r.1)

pub returns-clause-finds : goal.returns-clause-finds
returns-clause-finds g c clean within h stood =
    let f = (both_found _ _ c.in_ok-stored.ensures.lent.leaves c.in_ok-stored.ensures.finds c.in_ok-list_ends.ensures.lent.leaves
    c.in_ok-list_ends.ensures.finds).is clean within h stood in
    let r = joined_told h c.args.book c.get-n.result _ c.in-Some.stored c.in_ok-list_ends.list_ends AreListEnds stored_brief IsBriefDecodable
    (Ok c.in_ok-brief.brief) c.args.number (sym c.get-n.ensures.value) f.0.ordered c.in-Some.is f.1.0 f.1.1 c.in_ok-brief.ensures.read in
    let whole = ap Some r.2 ∙ sym (ap (option_map stored_brief) r.1) in
    (subst (λ n. Some c.in_ok-brief.brief ≡ option_map stored_brief (pledge_in (get h.books c.args.book) n)) c.get-n.ensures.value whole, f.2)
