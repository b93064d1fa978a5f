use Rattle.pawn_book.specs.Items.{entry_items}
use Rattle.std.proofs.Common.{take, ◌++◌, ◌≡◌}
use Rattle.pawn_list_keeper.proofs.row_items.push_entries.Given as goal

abbrev pub invariant-loop-entry : goal.invariant-loop-entry
invariant-loop-entry l = l.rows.items ≡ l.fn.rows.items ++ entry_items l.number (take l.entry-index l.entries)
