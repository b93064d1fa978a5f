use Rattle.pawn_list_keeper.proofs.ListKeeping.{book_read, list_reads}
use Rattle.pawn_list_keeper.specs.Common.{terms_at, terms_of}
use Rattle.pawn_list_keeper.specs.Listed.{book_at, listed_book}
use Rattle.std.proofs.Common.{◌∙◌, ap, map}
use Rattle.pawn_list_keeper.proofs.list.ListKeepKeep.terms.Goals as goal

pub returns-clause-reads : goal.returns-clause-reads
returns-clause-reads c = list_reads c.args.self.now _ (c.terms_in-terms.ensures.value ∙ ap (λ o. terms_at (terms_of o) c.args.version)
    (ap (λ ks. book_at (map listed_book ks) c.args.book) c.deref.ensures.value ∙ book_read _ c.args.self.now c.args.book c.self.view_is))
