use Rattle.one_table.proofs.Parts.{plain_rests}
use Rattle.pawn_saving.proofs.Counter.{if_small, limit_shown, limit_told}
use Rattle.pawn_saving.proofs.WriteTexts.{READ_LIMIT, texts}
use Rattle.pawn_saving.proofs.Writing.{subst, sym, ◌∙◌, state}
use Rattle.pawn_tables.specs.Common.{understood}
use Rattle.sqlite.proofs.Callers.{IsPlain}
use Rattle.pawn_saving.proofs.counting.limit_in.Goals as goal

pub returns-in-Ok-get-clause-found : goal.returns-in-Ok-get-clause-found
returns-in-Ok-get-clause-found g c clean within listed counted limit noted st = let old = state g.S.Store c.args.tx.now.conn.now in
    let new = state g.S.Store c.ask.new.tx.conn.now in let rows = c.in-Ok.rows.items in
    let shown = c.in-Ok.ensures.shown clean in
    let plain = subst (λ s. IsPlain (understood s READ_LIMIT.now)) (sym st.lists.schema_is) (texts st.more).limit_is.2 in
    let rests = plain_rests READ_LIMIT.now _ old new rows within plain shown in
    let are = c.as_slice.ensures.value ∙ limit_shown old new rows listed counted limit noted st shown in
    if_small c.in_32_bits.result c.in-Ok-get.limit limit _
    (limit_told c.in-Ok-get.limit limit c.row-item.result _ are c.row-item.is c.in-Ok-get.ensures.ok.1) rests c.in_32_bits.ensures.value
