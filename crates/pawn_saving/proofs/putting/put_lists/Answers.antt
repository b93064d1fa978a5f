use Rattle.one_table.proofs.Parts.{on_ok}
use Rattle.pawn_saving.proofs.PledgePartWrites.{lists_put}
use Rattle.pawn_saving.proofs.RowsInOrder.{of_three}
use Rattle.pawn_saving.proofs.Writing.{◌++◌, state, with_rows, entries_tree, secrets_tree}
use Rattle.pawn_saving.specs.Putting.{entries_past, secrets_past}
use Rattle.pawn_saving.proofs.putting.put_lists.Goals as goal

pub returns-clause-wrote : goal.returns-clause-wrote
returns-clause-wrote g c clean within listed l = let new = state g.S.Store c.put_extensions.new.tx.conn.now in
    let b = c.args.book in let n = c.args.number in
    let p = c.args.pledge.now in
    let at =
    of_three c.in_ok-put_entries.ensures.carried.leaves c.in_ok-put_secrets.ensures.carried.leaves c.put_extensions.ensures.carried.leaves clean within in
    let first = rw (c.behind.ensures.value, c.entries.ensures.value) at (c.in_ok-put_entries.ensures.wrote at.0 within listed l) in
    let second = rw (c.behind-2.ensures.value, c.secrets.ensures.value, c.in_ok-secrets.ensures.value) at
    (c.in_ok-put_secrets.ensures.wrote at.2 at.1 (with_rows listed entries_tree (entries_past c.args.lengths.entries b n p ++ listed entries_tree)) first) in
    let third = rw (c.behind-3.ensures.value, c.extensions.ensures.value, c.in_ok-extensions.ensures.value) at
    (c.put_extensions.ensures.wrote clean at.3 (with_rows (with_rows listed entries_tree (entries_past c.args.lengths.entries b n p ++ listed entries_tree))
    secrets_tree (secrets_past c.args.lengths.secrets b n p ++ listed secrets_tree)) second) in
    on_ok c.put_extensions.result _ _ (lists_put new.now listed b n p c.args.lengths) third
