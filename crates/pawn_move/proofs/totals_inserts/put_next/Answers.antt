use Rattle.pawn_move.proofs.AllFilled.{next_not_put, next_put}
use Rattle.pawn_move.specs.Moving.{IsNextChecked, rows_if_any, totals_of_book}
use Rattle.std.proofs.Common.{Err, false, rules, ◌≡◌}
use Rattle.pawn_move.proofs.totals_inserts.put_next.Goals as goal

pub returns-clause-puts : goal.returns-clause-puts
returns-clause-puts g c = next_put _ _ _ c.args.above c.in-Some.book c.in_ok-book.ensures.lent.leaves c.in_ok-put_book.ensures.carried.leaves
    (rw c.in-Some.is at c.in_ok-book.ensures.debts) (rw c.get.ensures.value at c.in_ok-put_book.ensures.puts)

pub returns-in_err-put_book-clause-puts : goal.returns-in_err-put_book-clause-puts
returns-in_err-put_book-clause-puts g c = let failed : c.from_residual-in_err-put_book.result ≡ Err c.in_err-put_book.field-0.0 = search rules in
    rw failed (next_not_put _ _ _ c.args.above c.in-Some.book false c.in_err-put_book.field-0.0 (λ h next. rows_if_any next (totals_of_book h))
    (λ h next. IsNextChecked h c.args.above next) c.in_ok-book.ensures.lent.leaves c.in_err-put_book.ensures.carried.leaves
    (rw c.in-Some.is at c.in_ok-book.ensures.debts) (rw c.get.ensures.value at c.in_err-put_book.ensures.puts))
