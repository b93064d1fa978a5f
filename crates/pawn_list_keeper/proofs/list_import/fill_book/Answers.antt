use Rattle.pawn_list_keeper.proofs.ListSaves.{filled_is, set_changes}
use Rattle.pawn_list_keeper.specs.Common.{BookValue, ImportBook}
use Rattle.pawn_list_keeper.specs.Listed.{listed_book}
use Rattle.pawn_list_keeper.specs.declared.kept.Kept.{Kept}
use Rattle.std.proofs.Common.{◌∙◌, Some, ap, refl}
use Rattle.pawn_list_keeper.proofs.list_import.fill_book.Goals as goal

pub returns-clause-ok : goal.returns-clause-ok
returns-clause-ok c =
    let kept : Kept = c.index_mut-kept.result.now in
    let at = (listed_book kept).1 in
    let terms = c.in_ok-terms.terms in
    let pledges = c.in_ok-pledges.pledges in
    let next : Kept = record kept { terms = terms; pledges = pledges; imported = Some (record { key = c.args.key; pledges = c.len.result }) } in
    let filled = filled_is at c.args.key c.args.rows.now terms.items pledges.items c.len.result (c.in_ok-terms.ensures.same ∙ c.terms.ensures.value)
    (c.in_ok-pledges.ensures.same ∙ c.pledges.ensures.value) (c.len.ensures ∙ pledges.ok.0) in
    set_changes c.deref.result.now c.args.books.now.items c.in-Some.place kept next (ImportBook c.args.book c.args.key c.args.rows.now) c.deref.ensures.value
    c.in-Some.ensures.within c.in-Some.ensures.some c.index_mut-kept.ensures.value refl (ap (λ (book : BookValue). Some book) filled)
