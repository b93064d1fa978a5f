use Rattle.pawn_book.specs.Items.{extension_items}
use Rattle.std.proofs.Common.{take, ◌++◌, ◌≡◌}
use Rattle.pawn_list_keeper.proofs.row_items.push_extensions.Given as goal

abbrev pub invariant-loop-index : goal.invariant-loop-index
invariant-loop-index l = l.rows.items ≡ l.fn.rows.items ++ extension_items l.number 1 (take l.index l.extensions)
