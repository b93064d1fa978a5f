use Rattle.pawn_tables.proofs.Lent.{first_unfound, next_found, next_unfound, one_found}
use Rattle.pawn_tables.proofs.ListEndReads.{list_ends_told}
use Rattle.pawn_tables.proofs.Reading.{rules, get, pledge_in}
use Rattle.pawn_tables.proofs.list_ends.list_ends_in.Goals as goal

pub returns-in_err-last_entry-clause-finds : goal.returns-in_err-last_entry-clause-finds
returns-in_err-last_entry-clause-finds g c = first_unfound _ _ _ _ c.from_residual.result _ c.in_err-last_entry.was (search rules)
    c.last_entry_number.ensures.finds

pub returns-in_err-last-clause-finds : goal.returns-in_err-last-clause-finds
returns-in_err-last-clause-finds g c =
    let one = one_found _ _ c.in_ok-last_entry.was c.in_ok-last_entry.ensures.lent.leaves c.last_entry_number.ensures.finds in
    next_unfound _ _ c.from_residual-in_err-last.result _ one c.in_err-last.was (search rules) c.in_err-last.ensures.lent.leaves c.last_secret.ensures.finds

pub returns-in_err-extensions-clause-finds : goal.returns-in_err-extensions-clause-finds
returns-in_err-extensions-clause-finds g c =
    let one = one_found _ _ c.in_ok-last_entry.was c.in_ok-last_entry.ensures.lent.leaves c.last_entry_number.ensures.finds in
    let two = next_found _ _ one c.in_ok-last.was c.in_ok-last.ensures.lent.leaves c.last_secret.ensures.finds in
    next_unfound _ _ c.from_residual-in_err-extensions.result _ two c.in_err-extensions.was
    (search rules) c.in_err-extensions.ensures.lent.leaves c.extension_count.ensures.finds

pub returns-clause-finds : goal.returns-clause-finds
returns-clause-finds g c clean within h stood =
    let one = one_found _ _ c.in_ok-last_entry.was c.in_ok-last_entry.ensures.lent.leaves c.last_entry_number.ensures.finds in
    let two = next_found _ _ one c.in_ok-last.was c.in_ok-last.ensures.lent.leaves c.last_secret.ensures.finds in
    let f = (next_found _ _ two c.in_ok-extensions.was c.in_ok-extensions.ensures.lent.leaves c.extension_count.ensures.finds).is clean within h stood in
    (list_ends_told (pledge_in (get h.books c.args.book) c.args.number) _ f.1.0.0 f.1.0.1 f.1.1, f.2)
