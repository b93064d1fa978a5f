use Rattle.pawn_saving.proofs.RowsInOrder.{one_put, take_placed}
use Rattle.pawn_saving.proofs.Writing.{ap, arith, length, rules, ℕ, ◌∙◌, ◌≤◌, state, extension_cells, placed_from}
use Rattle.pawn_saving.proofs.Writing.{under, take_all}
use Rattle.pawn_tables.specs.Common.{Extension}
use Rattle.pawn_saving.proofs.list_inserts.put_extensions.Goals as goal

pub loop-extension-preserved : goal.loop-extension-preserved
loop-extension-preserved g c = (
  c.put_extension.ensures.lent.same_reference ∙ c.loop-extension.invariant.0,
  (let at = c.loop-extension.invariant.1 in let next = c.in_ok-place.ensures.value in omega (arith, at, next)),
  one_put 17 (state g.S.Store c.args.tx.now.conn.now) (state g.S.Store c.loop-extension.tx.conn.now) (state g.S.Store c.put_extension.new.tx.conn.now) _ _
      (under c.args.book c.args.number (extension_cells c.loop-extension.place c.extension-item.result))
      (take_placed (λ (place : ℕ) (x : Extension). under c.args.book c.args.number (extension_cells place x)) c.args.from c.loop-extension.place
      c.args.extensions.now c.loop-extension.extension-index c.extension-item.result (search rules) c.extension-item.is c.loop-extension.invariant.1)
      c.loop-extension.invariant.2 c.in_ok-put_extension.ensures.lent.leaves c.in_ok-put_extension.ensures.wrote,
)

pub returns-clause-wrote : goal.returns-clause-wrote
returns-clause-wrote g c = let end : length c.args.extensions.now ≤ c.loop-extension.extension-index = search rules in
    let all = ap (placed_from (λ (place : ℕ) (x : Extension). under c.args.book c.args.number (extension_cells place x)) c.args.from)
    (take_all c.loop-extension.extension-index c.args.extensions.now end) in
    rw all at c.loop-extension.invariant.2.lists
