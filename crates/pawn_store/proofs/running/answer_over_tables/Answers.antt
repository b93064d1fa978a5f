use Rattle.pawn_host.specs.Ends.{left_of}
use Rattle.pawn_store.proofs.Runs.{session_over_tables}
use Rattle.pawn_writing.specs.Ends.{written_bytes}
use Rattle.pawn_store.proofs.running.answer_over_tables.Goals as goal

pub returns-clause-session : goal.returns-clause-session
returns-clause-session g c = λ h before was clean. session_over_tables g.I.Iterator.next_gives _ _ h _ before c.args.stamps.now (left_of g.R.Read.remaining
    c.args.reader.now) (written_bytes g.W.Write.contents c.args.writer.now) c.answer_all.new.stamps (written_bytes g.W.Write.contents c.answer_all.new.writer)
    c.answer_all.result was (c.answer_all.ensures.stays.on.whole clean) (c.answer_all.ensures.session clean _ was.sound was.keeps)
