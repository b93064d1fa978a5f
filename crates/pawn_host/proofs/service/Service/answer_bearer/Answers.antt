use Rattle.pawn_host.proofs.RunLemmas.{read_present}
use Rattle.pawn_host.proofs.service.Service.answer_bearer.Goals as goal

pub returns-in-Present-clause-acted : goal.returns-in-Present-clause-acted
returns-in-Present-clause-acted g c = λ honest h sound at bytes read. c.show_receipts.ensures.acted honest h sound at bytes
    (read_present bytes c.args.request.now c.args.asked.now c.in-Present.receipts c.requires.asks c.in-Present.is read)
