use Rattle.pawn_list_keeper.proofs.ListReads.{kept_same}
use Rattle.pawn_list_keeper.proofs.ListSaves.{set_changes}
use Rattle.pawn_list_keeper.specs.Common.{AddTerms, BookValue}
use Rattle.pawn_list_keeper.specs.Listed.{listed_book}
use Rattle.pawn_list_keeper.specs.declared.kept.Kept.{Kept}
use Rattle.std.proofs.Common.{ℕ, Some, ap, refl}
use Rattle.pawn_list_keeper.proofs.saving.push_terms.Goals as goal

pub returns-in-Ok-clause-ok : goal.returns-in-Ok-clause-ok
returns-in-Ok-clause-ok c =
    let kept : Kept = c.index_mut-kept.result.now in
    let at = (listed_book kept).1 in
    let next : Kept = record kept { terms = c.push.new.self } in
    set_changes c.deref.result.now c.args.books.now.items c.in-Some.place kept next
    (AddTerms c.args.book c.args.version c.args.terms) c.deref.ensures.value c.in-Some.ensures.within c.in-Some.ensures.some c.index_mut-kept.ensures.value refl
    (ap (λ ts. let book : BookValue = record at { terms = ts } in Some book) c.in-Ok.ensures.items)

pub returns-in-Err-clause-err : goal.returns-in-Err-clause-err
returns-in-Err-clause-err c =
    let kept : Kept = c.index_mut-kept.result.now in
    let at = (listed_book kept).1 in
    let next : Kept = record kept { terms = c.push.new.self } in
    kept_same c.args.books.now.items c.in-Some.place kept next c.index_mut-kept.ensures.value
    (ap (λ ts. let entry : ℕ × BookValue = (kept.number, record at { terms = ts }) in entry) c.in-Err.ensures.items)
