use Rattle.pawn_list_keeper.proofs.ListKeeping.{book_read, list_reads}
use Rattle.pawn_list_keeper.specs.Common.{book_head}
use Rattle.pawn_list_keeper.specs.Listed.{book_at, listed_book}
use Rattle.std.proofs.Common.{◌∙◌, ap, map, option_map}
use Rattle.pawn_list_keeper.proofs.list.ListKeepKeep.book_head.Goals as goal

pub returns-clause-reads : goal.returns-clause-reads
returns-clause-reads c = list_reads c.args.self.now _ (c.in-Ok.ensures.value ∙ ap (option_map book_head)
    (ap (λ ks. book_at (map listed_book ks) c.args.book) c.deref.ensures.value ∙ book_read _ c.args.self.now c.args.book c.self.view_is))
