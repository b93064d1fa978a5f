use Rattle.pawn_saving.proofs.RowsInOrder.{one_put, take_map}
use Rattle.pawn_saving.proofs.Writing.{ap, length, map, rules, ◌∙◌, ◌≤◌, state, entry_cells, under, take_all}
use Rattle.pawn_tables.specs.Common.{Entry}
use Rattle.pawn_saving.proofs.list_inserts.put_entries.Goals as goal

pub loop-entry-preserved : goal.loop-entry-preserved
loop-entry-preserved g c = (
  c.put_entry.ensures.lent.same_reference ∙ c.loop-entry.invariant.0,
  one_put 6 (state g.S.Store c.args.tx.now.conn.now) (state g.S.Store c.loop-entry.tx.conn.now) (state g.S.Store c.put_entry.new.tx.conn.now) _ _
      (under c.args.book c.args.number (entry_cells c.entry-item.result))
      (take_map (λ (e : Entry). under c.args.book c.args.number (entry_cells e)) c.args.entries.now c.loop-entry.entry-index c.entry-item.result
      (search rules) c.entry-item.is) c.loop-entry.invariant.1 c.in_ok-put_entry.ensures.lent.leaves c.in_ok-put_entry.ensures.wrote,
)

pub returns-clause-wrote : goal.returns-clause-wrote
returns-clause-wrote g c = let end : length c.args.entries.now ≤ c.loop-entry.entry-index = search rules in
    let all = ap (map (λ (e : Entry). under c.args.book c.args.number (entry_cells e))) (take_all c.loop-entry.entry-index c.args.entries.now end) in
    rw all at c.loop-entry.invariant.1.lists
