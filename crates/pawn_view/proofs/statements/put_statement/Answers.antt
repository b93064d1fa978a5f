use Rattle.pawn_book.proofs.Reading.{reads_as, reads_then}
use Rattle.pawn_view.proofs.SoundLemmas.{told_of_sound}
use Rattle.pawn_view.proofs.StatementLemmas.{elements_put, elements_writer, statement_cut, statement_whole}
use Rattle.pawn_view.specs.Common.{Front, Whole, PutsShare, Writing, call_end, entries_of, extensions_of}
use Rattle.pawn_view.specs.Shown.{pledge_at}
use Rattle.pawn_view.specs.Text.{entry_line, extended_line, statement_text}
use Rattle.std.proofs.Common.{rules, sym, subst, ◌≡◌, Err}
use Rattle.pawn_view.proofs.statements.put_statement.Goals as goal

pub returns-in_err-visit_extensions-clause-shares : goal.returns-in_err-visit_extensions-clause-shares
returns-in_err-visit_extensions-clause-shares g c =
    let (given, flow, handed, reads) = c.in_err-visit_extensions.ensures.reads in
    let now : c.from_residual.result ≡ Err c.in_err-visit_extensions.field-0.0 = search rules in
    let own = elements_writer g.W.Write.contents extended_line _ _ given flow handed in
    let same : c.in_err-visit_extensions.writer-1-own.given.0 ≡ c.visit_extensions.new.visitor.writer.now = search rules in
    reads_as reads (λ h share sound p at is.
    rw now (subst (λ (w : Writing _). PutsShare g.W.Write.contents c.args.writer.now (statement_text c.args.day p) Front w) (sym same)
    (statement_cut g.W.Write.contents c.args.writer.now c.put_first.new.writer c.visit_extensions.new.visitor.writer.now c.args.day p c.args.brief.now is
    c.put_first.ensures.puts
    (elements_put g.W.Write.contents extended_line _ _ extensions_of (pledge_at h c.args.book c.args.number) p given flow Front handed at (share p at is)))))

pub returns-clause-shares : goal.returns-clause-shares
returns-clause-shares g c =
    let (given, flow, handed, reads) = c.in_ok-visit_extensions.ensures.reads in
    let (given', flow', handed', reads') = c.visit_entries.ensures.reads in
    let first_own = elements_writer g.W.Write.contents extended_line _ _ given flow handed in
    let own = elements_writer g.W.Write.contents entry_line _ _ given' flow' handed' in
    let same : c.writer-2-1.given.0 ≡ c.visit_entries.new.visitor.writer.now = search rules in
    reads_then reads reads' (λ h share share' sound p at is.
    let found = pledge_at h c.args.book c.args.number in
    subst (λ (w : Writing _). PutsShare g.W.Write.contents c.args.writer.now (statement_text c.args.day p) (call_end c.visit_entries.result) w) (sym same)
    (statement_whole g.W.Write.contents c.args.writer.now c.put_first.new.writer c.visit_extensions.new.visitor.writer.now c.put_state.new.writer
    c.visit_entries.new.visitor.writer.now c.args.day c.shown_day.result p c.args.brief.now (call_end c.visit_entries.result) is
    (told_of_sound h sound c.args.book c.args.number p at) c.shown_day.ensures.answer c.put_first.ensures.puts
    (elements_put g.W.Write.contents extended_line _ _ extensions_of found p given flow Whole handed at (share p at is)) c.put_state.ensures.puts
    (elements_put g.W.Write.contents entry_line _ _ entries_of found p given' flow' _ handed' at (share' p at is))))
