use Rattle.pawn_list_keeper.proofs.ListReads.{kept_same}
use Rattle.pawn_list_keeper.proofs.ListSaves.{kept_at_place, set_changes}
use Rattle.pawn_list_keeper.specs.Common.{BookValue, PutPledge, put_from}
use Rattle.pawn_list_keeper.specs.Listed.{listed_book}
use Rattle.pawn_list_keeper.specs.declared.kept.Kept.{Kept}
use Rattle.std.proofs.Common.{◌∙◌, ◌+◌, ◌≤◌, ℕ, Some, ap, length, refl, subst}
use Rattle.std.proofs.lemmas.Result.{on_err_weaker, on_ok_weaker}
use Rattle.pawn_list_keeper.proofs.saving.put_pledge.Goals as goal

pub put-requires : goal.put-requires
put-requires c = record {
  within = subst (λ (k : BookValue). c.args.number ≤ 1 + length k.pledges)
      (kept_at_place c.deref.result.now c.args.books.now.items c.args.book c.in-Some.place c.index_mut-kept.result.now c.requires.has_book.0
      c.deref.ensures.value c.in-Some.ensures.within c.in-Some.ensures.some c.index_mut-kept.ensures.value c.requires.has_book.1) c.requires.has_book.2;
}

pub returns : goal.returns
returns c =
    let kept : Kept = c.index_mut-kept.result.now in
    let at = (listed_book kept).1 in
    let next : Kept = record kept { pledges = c.put.new.pledges } in
    record {
      ok = on_ok_weaker c.put.result
          (λ put. set_changes c.deref.result.now c.args.books.now.items c.in-Some.place kept next (PutPledge c.args.book c.args.number c.args.pledge.now)
          c.deref.ensures.value c.in-Some.ensures.within c.in-Some.ensures.some c.index_mut-kept.ensures.value refl (ap (λ ps. let book : BookValue =
          record at { pledges = ps } in Some book) (put ∙ ap (put_from 1 kept.pledges.items c.args.number) c.in_ok-pledge.ensures.ok))) c.put.ensures.ok;
      err = on_err_weaker c.put.result (λ same. kept_same c.args.books.now.items c.in-Some.place kept next c.index_mut-kept.ensures.value
          (ap (λ ps. let entry : ℕ × BookValue = (kept.number, record at { pledges = ps }) in entry) same)) c.put.ensures.err;
    }
