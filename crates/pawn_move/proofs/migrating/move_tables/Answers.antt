use Rattle.pawn_move.proofs.Moved.{first_indexed, first_moved, first_not_put, first_owed, second_indexed, second_moved}
use Rattle.pawn_move.proofs.Moved.{second_not_checked, second_owed}
use Rattle.pawn_move.specs.Moving.{AreAllOwed}
use Rattle.pawn_tables.specs.Common.{get}
use Rattle.std.proofs.Common.{Err, None, is_ok, rules, ℕ, ◌≡◌, inl, inr, ◌⊎◌}
use Rattle.pawn_move.proofs.migrating.move_tables.Goals as goal

second : {n : ℕ} → (n ≡ 1) ⊎ (n ≡ 2) → (n ≡ 1 → ⊥) → n ≡ 2
second (inl one) not = absurd (not one)
second (inr two) not = two

-- ---- from the first schema

pub returns-in_err-put_books-clause-moves : goal.returns-in_err-put_books-clause-moves
returns-in_err-put_books-clause-moves g c = let failed : c.from_residual-in_err-put_books.result ≡ Err c.in_err-put_books.field-0.0 = search rules in
    rw (c.if-from-eq1.true, failed)
    (first_not_put _ _ _ c.in_ok-make_totals.ensures.lent.leaves c.in_ok-make_extensions.ensures.lent.leaves c.in_ok-make_totals.ensures.made
    c.in_ok-make_extensions.ensures.made _ c.in_err-put_books.field-0.0 c.in_err-put_books.ensures.carried.leaves c.in_err-put_books.ensures.puts)

pub returns-in_ok-put_books-clause-moves : goal.returns-in_ok-put_books-clause-moves
returns-in_ok-put_books-clause-moves g c =
    rw c.if-from-eq1.true (first_moved _ _ _ c.in_ok-make_totals.ensures.lent.leaves c.in_ok-make_extensions.ensures.lent.leaves
    c.in_ok-make_totals.ensures.made c.in_ok-make_extensions.ensures.made c.args.lacking _ _ c.finish.result (is_ok c.finish.result)
    c.in_ok-put_books.ensures.carried.leaves c.finish.ensures.lent.leaves c.in_ok-put_books.ensures.puts c.finish.ensures.finishes c.finish.ensures.no_row)

pub returns-in_ok-put_books-clause-indexed : goal.returns-in_ok-put_books-clause-indexed
returns-in_ok-put_books-clause-indexed g c =
    rw c.if-from-eq1.true (first_indexed _ _ _ c.in_ok-make_totals.ensures.lent.leaves c.in_ok-make_extensions.ensures.lent.leaves
    c.in_ok-make_totals.ensures.made c.in_ok-make_extensions.ensures.made c.args.lacking _ _ c.finish.result (is_ok c.finish.result)
    c.in_ok-put_books.ensures.carried.leaves c.finish.ensures.lent.leaves c.in_ok-put_books.ensures.puts c.finish.ensures.finishes)

pub returns-in_ok-put_books-clause-checks : goal.returns-in_ok-put_books-clause-checks
returns-in_ok-put_books-clause-checks g c =
    rw c.if-from-eq1.true (first_owed _ _ _ c.in_ok-make_totals.ensures.lent.leaves c.in_ok-make_extensions.ensures.lent.leaves c.in_ok-make_totals.ensures.made
    c.in_ok-make_extensions.ensures.made _ _ c.finish.result
    (is_ok c.finish.result) c.in_ok-put_books.ensures.carried.leaves c.finish.ensures.lent.leaves c.in_ok-put_books.ensures.puts)

-- ---- from the second

pub returns-in_err-check_books-clause-moves : goal.returns-in_err-check_books-clause-moves
returns-in_err-check_books-clause-moves g c = let failed : c.from_residual-in_err-check_books.result ≡ Err c.in_err-check_books.field-0.0 = search rules in
    rw (second c.requires.older c.if-from-eq1.false, failed)
    (second_not_checked _ _ c.in_ok-make_extensions-2.ensures.lent.leaves c.in_ok-make_extensions-2.ensures.made _ c.in_err-check_books.field-0.0
    (λ h done. get h.books 0 ≡ None → AreAllOwed h) c.in_err-check_books.ensures.carried.leaves c.in_err-check_books.ensures.checks)

pub returns-in_ok-check_books-clause-moves : goal.returns-in_ok-check_books-clause-moves
returns-in_ok-check_books-clause-moves g c =
    rw (second c.requires.older c.if-from-eq1.false) (second_moved _ _ c.in_ok-make_extensions-2.ensures.lent.leaves c.in_ok-make_extensions-2.ensures.made _ _
    (is_ok c.finish-else-from-eq1.result) c.finish-else-from-eq1.result c.in_ok-check_books.ensures.carried.leaves c.finish-else-from-eq1.ensures.lent.leaves
    c.in_ok-check_books.ensures.checks c.args.lacking c.finish-else-from-eq1.ensures.no_row c.finish-else-from-eq1.ensures.finishes)

pub returns-in_ok-check_books-clause-indexed : goal.returns-in_ok-check_books-clause-indexed
returns-in_ok-check_books-clause-indexed g c = rw (second c.requires.older c.if-from-eq1.false)
    (second_indexed _ _ c.in_ok-make_extensions-2.ensures.lent.leaves c.in_ok-make_extensions-2.ensures.made _ _
    (is_ok c.finish-else-from-eq1.result) c.finish-else-from-eq1.result c.in_ok-check_books.ensures.carried.leaves c.finish-else-from-eq1.ensures.lent.leaves
    c.in_ok-check_books.ensures.checks c.args.lacking c.finish-else-from-eq1.ensures.finishes)

pub returns-in_ok-check_books-clause-checks : goal.returns-in_ok-check_books-clause-checks
returns-in_ok-check_books-clause-checks g c = rw (second c.requires.older c.if-from-eq1.false)
    (second_owed _ _ c.in_ok-make_extensions-2.ensures.lent.leaves c.in_ok-make_extensions-2.ensures.made _ _ (is_ok c.finish-else-from-eq1.result)
    c.finish-else-from-eq1.result c.in_ok-check_books.ensures.carried.leaves c.finish-else-from-eq1.ensures.lent.leaves c.in_ok-check_books.ensures.checks)
