use Rattle.pawn_book.specs.Sound.{IsSound}
use Rattle.pawn_list_keeper.proofs.ListKeeping.{book_read, list_reads, read_reachable}
use Rattle.pawn_list_keeper.specs.Common.{pledge_in}
use Rattle.pawn_list_keeper.specs.Listed.{book_at, host_of, listed_book}
use Rattle.std.proofs.Common.{◌∙◌, ap, map, subst}
use Rattle.pawn_list_keeper.proofs.list.ListKeepKeep.pledge.Goals as goal

pub returns-clause-reads : goal.returns-clause-reads
returns-clause-reads c = list_reads c.args.self.now _ (c.in-Ok.ensures.value ∙ ap (λ o. pledge_in o c.args.number)
    (ap (λ ks. book_at (map listed_book ks) c.args.book) c.deref.ensures.value ∙ book_read _ c.args.self.now c.args.book c.self.view_is))

pub returns-clause-reachable : goal.returns-clause-reachable
returns-clause-reachable c = read_reachable (host_of c.args.self.now) c.args.book c.args.number c.in-Ok.pledge
    (subst (λ k. IsSound (host_of k)) c.self.view_is c.self.invariant.sound)
    (c.in-Ok.ensures.value ∙ ap (λ o. pledge_in o c.args.number)
    (ap (λ ks. book_at (map listed_book ks) c.args.book) c.deref.ensures.value ∙ book_read _ c.args.self.now c.args.book c.self.view_is))
