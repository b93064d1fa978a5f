use Rattle.pawn_list_keeper.proofs.ListKeeping.{book_read, list_reads}
use Rattle.pawn_list_keeper.specs.Common.{IsShare, Whole, day_sheet, pledges_of}
use Rattle.pawn_list_keeper.specs.Listed.{book_at, listed_book}
use Rattle.std.proofs.Common.{◌∙◌, ap, map, subst}
use Rattle.pawn_list_keeper.proofs.list.ListKeepKeep.sheet_each.Goals as goal

pub returns-clause-reads : goal.returns-clause-reads
returns-clause-reads g c =
    let hands = c.hand_sheet.ensures.hands in
    let same = ap (λ ps. day_sheet ps c.args.day) (c.pledges_in.ensures.value
    ∙ ap pledges_of (ap (λ ks. book_at (map listed_book ks) c.args.book) c.deref.ensures.value ∙ book_read _ c.args.self.now c.args.book c.self.view_is)) in
    (hands.0, c.hand_sheet.result, hands.1, list_reads c.args.self.now _ (subst (IsShare hands.0 c.hand_sheet.result Whole) same hands.2))
