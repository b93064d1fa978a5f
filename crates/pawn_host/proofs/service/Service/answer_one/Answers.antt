use Rattle.pawn_host.proofs.CrashLemmas.{goes_none}
use Rattle.pawn_host.proofs.RunLemmas.{acted_fault}
use Rattle.pawn_host.specs.Keeps.{service_keep, start_of}
use Rattle.pawn_host.proofs.service.Service.answer_one.Goals as goal

pub returns-in-Err-clause-acted : goal.returns-in-Err-clause-acted
returns-in-Err-clause-acted g c = λ honest h sound at. acted_fault (start_of g.K.Keep.keeping c.args.self.now h) c.args.stamp.now c.args.bytes.now
    c.contents_answer.result
    _ c.in-Err.fault (rw c.in-Err.is at c.read_request.ensures.read) c.contents_answer.ensures.states (goes_none g.K.Keep.keeping (service_keep
    c.args.self.now) h at sound)

pub returns-clause-acted : goal.returns-clause-acted
returns-clause-acted g c = λ honest h sound at. c.answer_request.ensures.acted honest h sound at c.args.bytes.now (rw c.in-Ok.is at c.read_request.ensures.read)
