use Rattle.pawn_list_keeper.proofs.ListKeeping.{list_reads, next_read}
use Rattle.pawn_list_keeper.specs.Listed.{IsLeastAbove, listed_book}
use Rattle.std.proofs.Common.{map, subst}
use Rattle.pawn_list_keeper.proofs.list.ListKeepKeep.next_book.Goals as goal

pub returns-clause-reads : goal.returns-clause-reads
returns-clause-reads c = list_reads c.args.self.now _ (
    next_read _ c.args.self.now _ c.next_number-next.result c.self.view_is
    (subst (λ n. IsLeastAbove (map listed_book c.self.inside.books.items) n c.next_number-next.result) c.bound.ensures.value
    (subst (λ ks. IsLeastAbove (map listed_book ks) c.bound.result c.next_number-next.result) c.deref.ensures.value c.next_number-next.ensures.least)))
