use Rattle.pawn_book.proofs.Reading.{reads_as}
use Rattle.pawn_view.proofs.SheetLemmas.{lines_handed, day_put}
use Rattle.pawn_view.specs.Common.{call_end, get, pledges_of}
use Rattle.pawn_view.proofs.sheets.SheetLines.put_day.Goals as goal

pub returns-clause-shares : goal.returns-clause-shares
returns-clause-shares g c =
    let (given, flow, handed, reads) = c.sheet_each.ensures.reads in
    reads_as reads (λ h share.
    day_put g.W.Write.contents c.args.self.now c.sheet_each.new.visitor given flow (call_end c.sheet_each.result) c.args.day
    (pledges_of (get h.books c.args.book)) handed share)

pub returns-clause-same_writer : goal.returns-clause-same_writer
returns-clause-same_writer g c =
    let (given, flow, handed, reads) = c.sheet_each.ensures.reads in
    (lines_handed g.W.Write.contents c.args.self.now c.sheet_each.new.visitor given flow handed).same_writer
