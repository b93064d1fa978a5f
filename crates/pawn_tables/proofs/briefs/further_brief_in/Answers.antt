use Rattle.pawn_tables.proofs.Joins.{joined_told, known_told}
use Rattle.pawn_tables.proofs.Lent.{finds_if, first_unfound, next_found, one_found}
use Rattle.pawn_tables.proofs.Reading.{Err, Ok, Some, ap, option_map, refl, rules, subst, sym, ◌∙◌, ◌≡◌, get, pledge_in}
use Rattle.pawn_tables.proofs.SoundReads.{brief_unsound, undecoded}
use Rattle.pawn_tables.specs.Common.{HasTermsOf, Host, IsUnsoundAt}
use Rattle.pawn_tables.specs.Finding.{IsRead}
use Rattle.pawn_tables.specs.ListEnds.{AreListEnds, stored_brief}
use Rattle.pawn_tables.specs.PledgeRows.{IsBriefDecodable}
use Rattle.pawn_tables.proofs.briefs.further_brief_in.Goals as goal

pub returns-in_err-row-clause-finds : goal.returns-in_err-row-clause-finds
returns-in_err-row-clause-finds g c = finds_if (λ (h : Host). HasTermsOf (get h.books c.args.book) c.args.known.now) (IsUnsoundAt c.args.book) _ _
    c.from_residual.result (λ (h : Host) brief. brief ≡ option_map stored_brief (pledge_in (get h.books c.args.book) c.args.number))
    (first_unfound _ _ _ _ c.from_residual.result _ c.in_err-row.was (search rules) c.row_in.ensures.finds)

pub returns-in_err-brief-clause-finds : goal.returns-in_err-brief-clause-finds
returns-in_err-brief-clause-finds g c clean within h stood =
    let one = one_found _ _ c.in_ok-row.was c.in_ok-row.ensures.lent.leaves c.row_in.ensures.finds in
    let two = next_found _ _ one c.in_ok-related.was c.in_ok-related.ensures.lent.leaves c.related_under.ensures.finds in
    let f = (next_found _ _ two c.in_ok-list_ends.was c.in_ok-list_ends.ensures.lent.leaves c.list_ends_in.ensures.finds).is clean within h stood in
    undecoded c.in_err-brief.field-0.0 c.from_residual-in_err-brief.result _ _ (search rules) (λ is known.
    let told = known_told h c.args.book c.get-n.result c.in-Some.row c.in_ok-related.related c.in-Some-terms_known.terms c.args.known.now f.0.ordered
    (sym c.in-Some.is ∙ f.1.0.0) c.in-Some-terms_known.ensures.value f.1.0.1 known in
    let r = joined_told h c.args.book c.get-n.result _ (record { row = c.in-Some.row; related = c.in_ok-related.related }) c.in_ok-list_ends.list_ends
    AreListEnds
    stored_brief IsBriefDecodable (Err c.in_err-brief.field-0.0) c.args.number
    (sym c.get-n.ensures.value) f.0.ordered refl told f.1.1 c.in_err-brief.ensures.read in
    brief_unsound h f.0.storable c.args.book c.get-n.result r.0 r.1
    (subst (λ e. IsRead (Err e) (stored_brief r.0) (IsBriefDecodable r.0)) is r.2))

pub returns-clause-finds : goal.returns-clause-finds
returns-clause-finds g c clean within h stood =
    let one = one_found _ _ c.in_ok-row.was c.in_ok-row.ensures.lent.leaves c.row_in.ensures.finds in
    let two = next_found _ _ one c.in_ok-related.was c.in_ok-related.ensures.lent.leaves c.related_under.ensures.finds in
    let f = (next_found _ _ two c.in_ok-list_ends.was c.in_ok-list_ends.ensures.lent.leaves c.list_ends_in.ensures.finds).is clean within h stood in (
      λ known.
          let told = known_told h c.args.book c.get-n.result c.in-Some.row c.in_ok-related.related c.in-Some-terms_known.terms c.args.known.now f.0.ordered
          (sym c.in-Some.is ∙ f.1.0.0) c.in-Some-terms_known.ensures.value f.1.0.1 known in
          let r = joined_told h c.args.book c.get-n.result _ (record { row = c.in-Some.row; related = c.in_ok-related.related }) c.in_ok-list_ends.list_ends
          AreListEnds stored_brief IsBriefDecodable (Ok c.in_ok-brief.brief) c.args.number (sym c.get-n.ensures.value) f.0.ordered refl told f.1.1
          c.in_ok-brief.ensures.read in
          let whole = ap Some r.2 ∙ sym (ap (option_map stored_brief) r.1) in
          subst (λ n. Some c.in_ok-brief.brief ≡ option_map stored_brief (pledge_in (get h.books c.args.book) n)) c.get-n.ensures.value whole,
      f.2,
    )
