use Rattle.pawn_book.specs.Items.{secret_items}
use Rattle.pawn_book.specs.declared.items.RowItem.{RowItem}
use Rattle.pawn_list_keeper.proofs.RowLemmas.{secrets_push}
use Rattle.std.proofs.Common.{[], ap, append_assoc, arith, sym, take, ◌++◌, ◌+◌, ◌∙◌, ◌∷◌, ◌≡◌}
use Rattle.pawn_list_keeper.proofs.row_items.push_secrets.Goals as goal

pub loop-index-preserved : goal.loop-index-preserved
loop-index-preserved c = let place : c.loop-index.index + 1 ≡ 1 + c.loop-index.index = omega arith in
    let items = secret_items c.args.number 1 (take c.loop-index.index c.args.secrets.now) in
    c.in_ok-push.ensures.items ∙ ap (λ l. l ++ RowItem.Secret c.args.number (c.loop-index.index + 1) c.index-secrets-index.result ∷ []) c.loop-index.invariant
    ∙ append_assoc c.args.rows.now.items items (RowItem.Secret c.args.number (c.loop-index.index + 1) c.index-secrets-index.result ∷ [])
    ∙ ap (λ l. c.args.rows.now.items ++ l) (ap (λ k. items ++ RowItem.Secret c.args.number k c.index-secrets-index.result ∷ []) place
    ∙ sym (secrets_push c.args.number 1 c.args.secrets.now c.loop-index.index c.index-secrets-index.result c.loop-index-test.true c.index-secrets-index.is))
