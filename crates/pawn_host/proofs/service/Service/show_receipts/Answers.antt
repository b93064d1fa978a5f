use Rattle.pawn_host.proofs.CrashLemmas.{goes_read}
use Rattle.pawn_host.proofs.RunLemmas.{acted_shown, all_written, nothing_shown, plain, present_request}
use Rattle.pawn_host.proofs.ViewLemmas.{view_acted}
use Rattle.pawn_host.specs.Common.{reply_text, Refusal}
use Rattle.pawn_host.specs.Keeps.{service_operator, start_of}
use Rattle.std.proofs.Common.{◌∙◌, ℕ, ap, Vec, Global}
use Rattle.pawn_host.proofs.service.Service.show_receipts.Goals as goal

pub returns-clause-acted : goal.returns-clause-acted
returns-clause-acted g c = λ honest h sound at bytes read.
    let start = start_of g.K.Keep.keeping c.args.self.now h in
    let goes = goes_read c.show_presented-shown.ensures.shows honest h at sound in
    let shows = rw c.as_slice.ensures.list at (c.show_presented-shown.ensures.shows.states honest h at sound) in
    view_acted start c.args.stamp.now bytes c.view_answer.result _ (present_request c.args.book c.args.receipts.now) Refusal.NoSuchReceipt (reply_text 200 plain
    c.into_inner.result.items) c.show_presented-shown.result read c.view_answer.ensures.states goes (λ store. cc) (λ u is states. let whole = rw is at shows in
    acted_shown start c.args.stamp.now bytes c.view_answer.result _ c.args.book c.day-day.result c.args.receipts.now
    whole.0 c.into_inner.result.items read c.day-day.ensures.value whole.1
    (all_written c.new-writer.result.inner.items c.show_presented-shown.new.writer.inner.items c.into_inner.result.items whole.0 (ap (λ (v : Vec ℕ Global).
    v.items) c.into_inner.ensures.answer) whole.2.0 (ap (λ (v : Vec ℕ Global). v.items) c.new-writer.ensures.inner ∙ c.new.ensures.items))
    states goes) (λ is. let none = rw is at shows in nothing_shown h (service_operator c.args.self.now) c.args.stamp.now c.args.book c.day-day.result
    c.args.receipts.now none.0) (λ steady is. c.show_presented-shown.ensures.steady steady is)
