use Rattle.pawn_saving.proofs.BookChanges.{only_book, other_books}
use Rattle.pawn_saving.proofs.Hosting.{as_lists}
use Rattle.pawn_saving.proofs.ImportWrites.{brought_numbered, filled_counted, unbooked, with_own_row, with_terms}
use Rattle.pawn_saving.proofs.RowsInOrder.{lent_anyway, lent_carried, of_three, is_carried}
use Rattle.pawn_saving.proofs.Writing.{refl, subst, sym, true, ◌++◌, ◌∙◌, ◌∷◌, state, rows, with_rows, number}
use Rattle.pawn_saving.proofs.Writing.{placed_from, terms_cells, terms_tree}
use Rattle.pawn_saving.specs.Common.{ListsOurs}
use Rattle.pawn_saving.proofs.import_writes.import_book.Goals as goal
use Rattle.pawn_tables.specs.StandsFor.{listed_as}

pub returns-clause-wrote : goal.returns-clause-wrote
returns-clause-wrote g c clean within h sound can st = let two = state g.S.Store c.put_versions.new.tx.conn.now in
    let new = state g.S.Store c.put_pledges.new.tx.conn.now in let b = c.args.book in
    let key = c.args.key in let brought = c.args.rows.now in
    let k = can.follows.0 in let is = can.follows.1 in
    let empty = can.follows.2 in let n = rows h in
    let at = of_three
    (is_carried _ _ _ c.in_ok-set_import.ensures.lent.leaves) c.in_ok-put_versions.ensures.carried.leaves c.in_ok-added.ensures.carried.leaves clean within in
    let versions = rw c.terms-terms.ensures.value at c.in_ok-versions.ensures.value in
    let so_many = rw c.pledges-pledges.ensures.value at c.in_ok-so_many.ensures.value in
    let noted = rw c.get.ensures.value at (c.in_ok-set_import.ensures.wrote k brought) in
    let first = noted (sym versions) (sym so_many) at.0 within (listed_as h n) (other_books h b k is) (only_book h b k is n) (as_lists _ h st) in
    let own = with_own_row h b key k brought is empty n in
    let put = subst (λ m. ListsOurs two.now (with_rows own terms_tree (placed_from (λ version t. number m ∷ number version ∷ terms_cells t) 1
    c.terms-terms.result.now ++ own terms_tree))) c.get-2.ensures.value (c.in_ok-put_versions.ensures.wrote at.2 at.1 own first) in
    let second = subst (λ ts. ListsOurs two.now (with_rows own terms_tree
    (placed_from (λ version t. number b ∷ number version ∷ terms_cells t) 1 ts ++ own terms_tree))) c.terms-terms.ensures.value put in
    let third =
    rw (c.get-3.ensures.value, c.pledges-pledges.ensures.value) at (c.in_ok-added.ensures.wrote clean at.3 (with_terms h b key k brought is empty n)) in
    let all = third (unbooked h b key k brought is empty st.ordered) (brought_numbered h b key k brought is empty can.sound) second in
    filled_counted h b key k brought is empty n new.now c.in_ok-versions.versions c.in_ok-added.added c.sum_in_32_bits.result refl versions all.0
    c.sum_in_32_bits.ensures.value all.1

pub returns-clause-lent : goal.returns-clause-lent
returns-clause-lent g c = let old = state g.S.Store c.args.tx.now.conn.now in
    let one = state g.S.Store c.set_import.new.tx.conn.now in let two = state g.S.Store c.put_versions.new.tx.conn.now in
    let new = state g.S.Store c.put_pledges.new.tx.conn.now in
    record {
      same_reference = c.put_pledges.ensures.carried.same_reference ∙ c.put_versions.ensures.carried.same_reference ∙ c.set_import.ensures.lent.same_reference;
      leaves = lent_anyway old new (lent_carried old two new true (lent_carried old one two true c.in_ok-set_import.ensures.lent.leaves
          c.in_ok-put_versions.ensures.carried.leaves) c.in_ok-added.ensures.carried.leaves) _;
    }
