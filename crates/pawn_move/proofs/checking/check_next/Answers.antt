use Rattle.pawn_move.proofs.Checked.{next_checked, next_not_checked}
use Rattle.pawn_move.proofs.Reading.{first_unfound, of_first}
use Rattle.pawn_move.specs.Moving.{IsNextChecked, ListFirstDebts}
use Rattle.pawn_opening.specs.Common.{state, Host}
use Rattle.pawn_tables.specs.Common.{IsNextBook, HasUnsoundBook}
use Rattle.std.proofs.Common.{Err, Option, false, rules, ℕ, ◌≡◌}
use Rattle.pawn_move.proofs.checking.check_next.Goals as goal

pub returns-clause-checks : goal.returns-clause-checks
returns-clause-checks g c = next_checked _ _ _ c.args.above c.in-Some.book c.in_ok-book.ensures.lent.leaves c.in_ok-check_book.ensures.carried.leaves
    (rw c.in-Some.is at c.in_ok-book.ensures.debts) (rw c.get.ensures.value at c.in_ok-check_book.ensures.checks)

pub returns-in_err-check_book-clause-checks : goal.returns-in_err-check_book-clause-checks
returns-in_err-check_book-clause-checks g c = let failed : c.from_residual-in_err-check_book.result ≡ Err c.in_err-check_book.field-0.0 = search rules in
    rw failed (next_not_checked _ _ _ c.args.above c.in-Some.book false c.in_err-check_book.field-0.0 c.in_ok-book.ensures.lent.leaves
    c.in_err-check_book.ensures.carried.leaves (rw c.in-Some.is at c.in_ok-book.ensures.debts) (rw c.get.ensures.value at c.in_err-check_book.ensures.checks))

pub returns-in_err-book-clause-checks : goal.returns-in_err-book-clause-checks
returns-in_err-book-clause-checks g c = let s0 = state g.S.Store c.args.tx.now.conn.now in
    let s1 = state g.S.Store c.next_in.new.tx.conn.now in let P : Host → Option ℕ → Type 0 = λ h next. IsNextBook h c.args.above next in
    let Q : Host → Option ℕ → Type 0 = λ h next. IsNextChecked h c.args.above next in
    first_unfound ListFirstDebts HasUnsoundBook s0 s1 c.in_err-book.field-0.0 P c.from_residual.result Q (search rules)
    (of_first HasUnsoundBook s0 s1 (Err c.in_err-book.field-0.0) P c.in_err-book.ensures.debts)
