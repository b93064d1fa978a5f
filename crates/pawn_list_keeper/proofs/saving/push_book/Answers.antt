use Rattle.pawn_list_keeper.proofs.ListReads.{entry_made}
use Rattle.pawn_list_keeper.proofs.ListSaves.{push_changes}
use Rattle.pawn_list_keeper.specs.Listed.{listed_book}
use Rattle.std.proofs.Common.{◌∙◌, ◌++◌, ◌∷◌, [], ap, map}
use Rattle.std.proofs.lemmas.List.{map-append}
use Rattle.pawn_list_keeper.proofs.saving.push_book.Goals as goal

pub returns-clause-ok : goal.returns-clause-ok
returns-clause-ok c =
    push_changes (map listed_book c.args.books.now.items) (map listed_book c.push.new.self.items) c.args.book c.args.new_book.now c.requires.none
    (ap (map listed_book) c.in_ok-push.ensures.items ∙ map-append listed_book c.args.books.now.items _
    ∙ ap (λ e. map listed_book c.args.books.now.items ++ e ∷ []) (entry_made c.args.book c.args.new_book.now c.in_ok-made.made c.new.result.items
    c.new-2.result.items c.in_ok-made.ensures.same c.new.ensures.items c.new-2.ensures.items))
