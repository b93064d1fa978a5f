use Rattle.pawn_book.proofs.Plans.{book_plans, no_head}
use Rattle.pawn_book.proofs.Reading.{ok_is, reads_as}
use Rattle.pawn_book.specs.BookStep.{make_book}
use Rattle.pawn_book.specs.Books.{BookMade, MakeBook}
use Rattle.pawn_book.specs.Plans.{Plans}
use Rattle.std.proofs.Common.{◌∙◌, ap, Ok, Some, subst, sym}
use Rattle.std.specs.FinMap.{get}
use Rattle.pawn_book.proofs.set_up.plan_book.Goals as goal

pub returns-in-Ok-clause-reads : goal.returns-in-Ok-clause-reads
returns-in-Ok-clause-reads g c = reads_as c.book_head.ensures.reads (λ h told sound.
    let none = no_head (get h.books c.args.book) (ok_is (c.in-Ok-None.is ∙ ap Ok c.in-Ok-None.field-0-is) told) in
    subst (λ new. Plans h c.args.book (make_book (get h.books c.args.book) c.args.book c.args.new_book.now)
    (Ok (record { change = Some (MakeBook c.args.book new); reply = BookMade c.args.book }))) (sym c.in-Ok.ensures.same) (book_plans h c.args.book
    c.args.new_book.now c.know_limits.ensures.in_range c.copy.ensures.key c.copy.ensures.utf8 c.copy.ensures.name c.copy.ensures.capacity sound none))
