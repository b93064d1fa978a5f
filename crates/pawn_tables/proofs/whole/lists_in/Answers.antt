use Rattle.pawn_tables.proofs.Joins.{lists_told}
use Rattle.pawn_tables.proofs.Lent.{first_unfound, next_found, next_unfound, one_found}
use Rattle.pawn_tables.proofs.Reading.{rules, get, pledge_in}
use Rattle.pawn_tables.proofs.whole.lists_in.Goals as goal

pub returns-in_err-entries-clause-finds : goal.returns-in_err-entries-clause-finds
returns-in_err-entries-clause-finds g c = first_unfound _ _ _ _ c.from_residual.result _ c.in_err-entries.was (search rules) c.entries_in.ensures.finds

pub returns-in_err-secrets-clause-finds : goal.returns-in_err-secrets-clause-finds
returns-in_err-secrets-clause-finds g c = let one = one_found _ _ c.in_ok-entries.was c.in_ok-entries.ensures.lent.leaves c.entries_in.ensures.finds in
    next_unfound _ _ c.from_residual-in_err-secrets.result _ one c.in_err-secrets.was
    (search rules) c.in_err-secrets.ensures.lent.leaves c.secrets_in.ensures.finds

pub returns-in_err-extensions-clause-finds : goal.returns-in_err-extensions-clause-finds
returns-in_err-extensions-clause-finds g c = let one = one_found _ _ c.in_ok-entries.was c.in_ok-entries.ensures.lent.leaves c.entries_in.ensures.finds in
    let two = next_found _ _ one c.in_ok-secrets.was c.in_ok-secrets.ensures.lent.leaves c.secrets_in.ensures.finds in
    next_unfound _ _ c.from_residual-in_err-extensions.result _ two c.in_err-extensions.was
    (search rules) c.in_err-extensions.ensures.lent.leaves c.extensions_in.ensures.finds

pub returns-clause-finds : goal.returns-clause-finds
returns-clause-finds g c clean within h stood = let one = one_found _ _ c.in_ok-entries.was c.in_ok-entries.ensures.lent.leaves c.entries_in.ensures.finds in
    let two = next_found _ _ one c.in_ok-secrets.was c.in_ok-secrets.ensures.lent.leaves c.secrets_in.ensures.finds in
    let f = (next_found _ _ two c.in_ok-extensions.was c.in_ok-extensions.ensures.lent.leaves c.extensions_in.ensures.finds).is clean within h stood in
    (lists_told (pledge_in (get h.books c.args.book) c.args.number) _ f.1.0.0 f.1.0.1 f.1.1, f.2)
