use Rattle.pawn_saving.proofs.RowsInOrder.{one_put, take_placed}
use Rattle.pawn_saving.proofs.Writing.{ap, arith, length, rules, ℕ, ◌∙◌, ◌∷◌, ◌≤◌, state, Rates, number, placed_from}
use Rattle.pawn_saving.proofs.Writing.{terms_cells, take_all}
use Rattle.pawn_saving.proofs.list_inserts.put_versions.Goals as goal

pub loop-rates-preserved : goal.loop-rates-preserved
loop-rates-preserved g c = (
  c.put_terms.ensures.lent.same_reference ∙ c.loop-rates.invariant.0,
  (let at = c.loop-rates.invariant.1 in let next = c.in_ok-version.ensures.value in omega (arith, at, next)),
  one_put 1 (state g.S.Store c.args.tx.now.conn.now) (state g.S.Store c.loop-rates.tx.conn.now) (state g.S.Store c.put_terms.new.tx.conn.now) _ _
      (number c.args.book ∷ number c.loop-rates.version ∷ terms_cells _) (take_placed
      (λ (version : ℕ) (t : Rates). number c.args.book ∷ number version ∷ terms_cells t) 1 c.loop-rates.version c.args.terms.now c.loop-rates.rates-index _
      (search rules) (search rules) c.loop-rates.invariant.1) c.loop-rates.invariant.2 c.in_ok-put_terms.ensures.lent.leaves c.in_ok-put_terms.ensures.wrote,
)

pub returns-clause-wrote : goal.returns-clause-wrote
returns-clause-wrote g c = let end : length c.args.terms.now ≤ c.loop-rates.rates-index = search rules in
    let all = ap (placed_from (λ (version : ℕ) (t : Rates). number c.args.book ∷ number version ∷ terms_cells t) 1)
    (take_all c.loop-rates.rates-index c.args.terms.now end) in
    rw all at c.loop-rates.invariant.2.lists
