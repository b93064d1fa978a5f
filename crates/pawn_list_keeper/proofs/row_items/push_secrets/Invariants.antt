use Rattle.pawn_book.specs.Items.{secret_items}
use Rattle.std.proofs.Common.{take, ◌++◌, ◌≡◌}
use Rattle.pawn_list_keeper.proofs.row_items.push_secrets.Given as goal

abbrev pub invariant-loop-index : goal.invariant-loop-index
invariant-loop-index l = l.rows.items ≡ l.fn.rows.items ++ secret_items l.number 1 (take l.index l.secrets)
