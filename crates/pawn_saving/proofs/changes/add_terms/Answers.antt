use Rattle.pawn_saving.proofs.Basics.{clean_before}
use Rattle.pawn_saving.proofs.BookChanges.{longer_written, only_book, other_books}
use Rattle.pawn_saving.proofs.Hosting.{as_lists}
use Rattle.pawn_saving.proofs.Writing.{[], arith, length, length-append, refl, subst, ℕ, ◌++◌, ◌+◌, ◌∙◌, ◌∷◌, ◌≡◌}
use Rattle.pawn_saving.proofs.Writing.{state, Rates, with_change, rows, with_rows, number, terms_cells}
use Rattle.pawn_saving.specs.Common.{AddTerms}
use Rattle.pawn_saving.specs.Counted.{IsWrittenPart}
use Rattle.pawn_saving.proofs.changes.add_terms.Goals as goal
use Rattle.pawn_tables.specs.StandsFor.{listed_as}

pub returns-clause-wrote : goal.returns-clause-wrote
returns-clause-wrote g c clean within h sound can st = let new = state g.S.Store c.set_terms_count.new.tx.conn.now in
    let clean1 = clean_before _ _ _ c.in_ok-set_terms_count.ensures.lent.leaves clean in let k = can.follows.0 in let is = can.follows.1 in
    let version : c.in_ok-version.version ≡ length k.terms + 1 = c.in_ok-version.ensures.value ∙ can.follows.2 in
    let v : ℕ = c.in_ok-version.version in let b : ℕ = c.args.book in
    let t : Rates = c.args.terms in let n = rows h in
    let one = rw (c.get.ensures.value, c.rates.ensures.value) at (c.in_ok-put_terms.ensures.wrote clean1 within (listed_as h n) (as_lists _ h st)) in
    let inside = c.in_ok-put_terms.ensures.lent.leaves.inside clean1 within refl in
    let listed = with_rows (listed_as h n) 1 ((number b ∷ number v ∷ terms_cells t) ∷ listed_as h n 1) in
    let grown : length (k.terms ++ t ∷ []) ≡ v = (let more = length-append k.terms (t ∷ []) in omega (arith, more, version)) in
    let two = rw c.get-2.ensures.value at (c.in_ok-set_terms_count.ensures.wrote k (k.terms ++ t ∷ []) grown clean inside listed (other_books h b k is)) in
    let both = two (only_book h b k is n) one in
    subst (λ x. IsWrittenPart h (with_change h (AddTerms b x t)) new.now 1) c.in_ok-version.ensures.value
    (longer_written h b v t k is version n new.now refl both)
