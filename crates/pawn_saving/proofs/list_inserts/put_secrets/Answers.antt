use Rattle.pawn_saving.proofs.RowsInOrder.{one_put, take_placed}
use Rattle.pawn_saving.proofs.Writing.{ap, arith, length, rules, ℕ, ◌∙◌, ◌≤◌, state, placed_from, secret_cells, under}
use Rattle.pawn_saving.proofs.Writing.{take_all}
use Rattle.pawn_tables.specs.Common.{Issued}
use Rattle.pawn_saving.proofs.list_inserts.put_secrets.Goals as goal

pub loop-issued-preserved : goal.loop-issued-preserved
loop-issued-preserved g c = (
  c.put_secret.ensures.lent.same_reference ∙ c.loop-issued.invariant.0,
  (let at = c.loop-issued.invariant.1 in let next = c.in_ok-place.ensures.value in omega (arith, at, next)),
  one_put 8 (state g.S.Store c.args.tx.now.conn.now) (state g.S.Store c.loop-issued.tx.conn.now) (state g.S.Store c.put_secret.new.tx.conn.now) _ _
      (under c.args.book c.args.number (secret_cells c.loop-issued.place c.issued-item.result)) (take_placed (λ (place : ℕ) (x : Issued). under c.args.book
      c.args.number (secret_cells place x)) c.args.from c.loop-issued.place c.args.secrets.now c.loop-issued.issued-index c.issued-item.result (search rules)
      c.issued-item.is c.loop-issued.invariant.1) c.loop-issued.invariant.2 c.in_ok-put_secret.ensures.lent.leaves c.in_ok-put_secret.ensures.wrote,
)

pub returns-clause-wrote : goal.returns-clause-wrote
returns-clause-wrote g c = let end : length c.args.secrets.now ≤ c.loop-issued.issued-index = search rules in
    let all = ap (placed_from (λ (place : ℕ) (x : Issued). under c.args.book c.args.number (secret_cells place x)) c.args.from)
    (take_all c.loop-issued.issued-index c.args.secrets.now end) in
    rw all at c.loop-issued.invariant.2.lists
