use Rattle.pawn_host.proofs.RunLemmas.{read_view}
use Rattle.pawn_host.proofs.service.Service.answer_request.Goals as goal

pub returns-in-Viewer-clause-acted : goal.returns-in-Viewer-clause-acted
returns-in-Viewer-clause-acted g c = λ honest h sound at bytes read. c.gate_and_show.ensures.acted honest h sound at bytes
    (read_view bytes c.args.request.now c.in-Viewer.key c.in-Viewer.view c.in-Viewer.is read)
