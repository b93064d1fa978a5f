use Rattle.pawn_book.specs.Items.{extension_items}
use Rattle.pawn_book.specs.declared.items.RowItem.{RowItem}
use Rattle.pawn_list_keeper.proofs.RowLemmas.{extensions_push}
use Rattle.std.proofs.Common.{[], ap, append_assoc, arith, sym, take, ◌++◌, ◌+◌, ◌∙◌, ◌∷◌, ◌≡◌}
use Rattle.pawn_list_keeper.proofs.row_items.push_extensions.Goals as goal

pub loop-index-preserved : goal.loop-index-preserved
loop-index-preserved c = let place : c.loop-index.index + 1 ≡ 1 + c.loop-index.index = omega arith in
    let items = extension_items c.args.number 1 (take c.loop-index.index c.args.extensions.now) in
    c.in_ok-push.ensures.items ∙ ap (λ l. l ++ RowItem.Extension c.args.number (c.loop-index.index + 1) c.index-extensions-index.result ∷ [])
    c.loop-index.invariant
    ∙ append_assoc c.args.rows.now.items items (RowItem.Extension c.args.number (c.loop-index.index + 1) c.index-extensions-index.result ∷ [])
    ∙ ap (λ l. c.args.rows.now.items ++ l) (ap (λ k. items ++ RowItem.Extension c.args.number k c.index-extensions-index.result ∷ []) place
    ∙ sym (extensions_push c.args.number 1 c.args.extensions.now c.loop-index.index c.index-extensions-index.result c.loop-index-test.true
    c.index-extensions-index.is))
