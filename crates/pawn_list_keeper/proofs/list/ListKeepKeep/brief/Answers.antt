use Rattle.pawn_list_keeper.proofs.ListKeeping.{book_read, list_reads}
use Rattle.pawn_list_keeper.specs.Common.{brief_of, pledge_in}
use Rattle.pawn_list_keeper.specs.Listed.{book_at, listed_book}
use Rattle.std.proofs.Common.{◌∙◌, ap, map, option_map}
use Rattle.pawn_list_keeper.proofs.list.ListKeepKeep.brief.Goals as goal

pub returns-clause-reads : goal.returns-clause-reads
returns-clause-reads c = list_reads c.args.self.now _ (λ sound. c.in-Ok.ensures.value ∙ ap (λ o. option_map brief_of (pledge_in o c.args.number))
    (ap (λ ks. book_at (map listed_book ks) c.args.book) c.deref.ensures.value ∙ book_read _ c.args.self.now c.args.book c.self.view_is))
