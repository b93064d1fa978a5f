use Rattle.pawn_host.proofs.CrashLemmas.{goes_read}
use Rattle.pawn_host.proofs.RowsLemmas.{acted_rows, no_text, rows_request}
use Rattle.pawn_host.proofs.RunLemmas.{all_written}
use Rattle.pawn_host.proofs.ViewLemmas.{view_acted}
use Rattle.pawn_host.specs.Common.{reply_text, Refusal}
use Rattle.pawn_host.specs.Keeps.{start_of}
use Rattle.std.proofs.Common.{◌∙◌, ℕ, ap, Vec, Global, codes}
use Rattle.pawn_host.proofs.service.Service.show_rows.Goals as goal

pub returns-clause-acted : goal.returns-clause-acted
returns-clause-acted g c = λ honest h sound at with_key bytes read.
    let start = start_of g.K.Keep.keeping c.args.self.now h in
    let goes = goes_read c.export-shown.ensures.exports honest h at sound in
    let shows = c.export-shown.ensures.exports.states honest h at sound in
    view_acted start c.args.stamp.now bytes c.view_answer.result _ (rows_request c.args.book c.args.key) Refusal.NoSuchBook
    (reply_text 200 (codes "text/csv; charset=utf-8") c.into_inner.result.items) c.export-shown.result read c.view_answer.ensures.states goes (λ store. cc)
    (λ u is states. let whole = rw is at shows in
    acted_rows start c.args.stamp.now bytes c.view_answer.result _ c.args.book c.args.key
    whole.0 c.into_inner.result.items read with_key whole.1 (all_written c.new-rows.result.sink.writer.inner.items
    c.export-shown.new.rows.sink.writer.inner.items c.into_inner.result.items whole.0 (ap (λ (v : Vec ℕ Global). v.items) c.into_inner.ensures.answer) whole.2.0
    (ap (λ (v : Vec ℕ Global). v.items) c.new-rows.ensures.inner ∙ c.new.ensures.items))
    states goes)
    (λ is. let none = rw is at shows in absurd (no_text h c.args.book c.args.key with_key none.0)) (λ steady is. c.export-shown.ensures.steady steady is)
