use Rattle.pawn_tables.proofs.Basics.{PledgeRow}
use Rattle.pawn_tables.proofs.Joins.{row_is, told_of, version_fits}
use Rattle.pawn_tables.proofs.Lent.{both_found, first_unfound}
use Rattle.pawn_tables.proofs.Reading.{ap, arith, refl, rules, sym, ◌∙◌, ◌≡◌, get, pledge_in}
use Rattle.pawn_tables.proofs.whole.stored_pledge_in.Goals as goal

pub returns-in_err-row-clause-finds : goal.returns-in_err-row-clause-finds
returns-in_err-row-clause-finds g c = first_unfound _ _ _ _ c.from_residual.result _ c.in_err-row.was (search rules) c.row_in.ensures.finds

pub returns-in_default-try_from-clause-finds : goal.returns-in_default-try_from-clause-finds
returns-in_default-try_from-clause-finds g c clean within h stood = let one = c.in_ok-row.ensures.finds clean within h stood in
    let st = stood (c.in_ok-row.ensures.lent.leaves.opened clean within refl) in
    let r = row_is (pledge_in (get h.books c.args.book) c.args.number) c.in-Some.row (sym c.in-Some.is ∙ one.0) in
    let fits = version_fits h c.args.book c.args.number r.0 st.ordered st.storable r.1 in
    let version = ap (λ (x : PledgeRow). x.version) r.2 in let big = c.in_default-try_from.ensures in
    absurd (omega (arith, fits, version, big))

pub returns-clause-finds : goal.returns-clause-finds
returns-clause-finds g c clean within h stood =
    let f = (both_found _ _ c.in_ok-row.ensures.lent.leaves c.in_ok-row.ensures.finds c.in_ok-related.ensures.lent.leaves c.in_ok-related.ensures.finds).is
    clean within h stood in
    let r = row_is (pledge_in (get h.books c.args.book) c.args.number) c.in-Some.row (sym c.in-Some.is ∙ f.1.0) in
    let version : c.in-Ok.version ≡ c.in-Some.row.version = search rules in
    (told_of h c.args.book c.args.number c.in-Ok.version r.0 _ r.1 r.2 version f.1.1, f.2)
