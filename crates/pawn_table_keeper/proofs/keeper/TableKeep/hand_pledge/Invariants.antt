use Rattle.pawn_table_keeper.specs.Common.{Go, IsUnsoundAt, flat_map, get}
use Rattle.pawn_table_keeper.specs.Exports.{page_or_book_rows}
use Rattle.pawn_table_keeper.specs.Handing.{HandsRows, keeping_of}
use Rattle.std.proofs.Common.{Ok, take}
use Rattle.pawn_table_keeper.proofs.keeper.TableKeep.hand_pledge.Given as goal

abbrev pub invariant-loop-page : goal.invariant-loop-page
invariant-loop-page g l = HandsRows (keeping_of g.S.Store) (IsUnsoundAt l.book) g.V.Visitor.step l.fn.self l.self l.fn.visitor l.visitor (Ok Go)
    (λ h. flat_map (page_or_book_rows l.number (get h.books l.book)) (take l.page-index l.pages))
