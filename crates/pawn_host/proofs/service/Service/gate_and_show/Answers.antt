use Rattle.pawn_host.proofs.CrashLemmas.{goes_read}
use Rattle.pawn_host.proofs.RunLemmas.{acted_refused, view_request, err_is, gate_refused}
use Rattle.pawn_host.proofs.SessionLemmas.{acted_at}
use Rattle.pawn_host.specs.Keeps.{service_operator, start_of}
use Rattle.std.proofs.Common.{refl}
use Rattle.pawn_host.proofs.service.Service.gate_and_show.Goals as goal

pub returns-clause-acted : goal.returns-clause-acted
returns-clause-acted g c = λ honest h sound at bytes read.
    let before = c.show_past_gate.ensures.stays.on.was_honest honest in
    let gates = rw c.in-Ok.is at (c.gate.ensures.reads.states before h at) in
    let acted = c.show_past_gate.ensures.acted honest h sound (c.gate.ensures.reads.same before h at) (gates.0, gates.1, gates.3) bytes read in
    acted_at _ (start_of g.K.Keep.keeping c.args.self.now h) c.args.stamp.now bytes bytes _ _ _ acted c.gate.ensures.reads.on.stays refl
    (c.gate.ensures.reads.crash before) refl refl

pub returns-in-Err-clause-acted : goal.returns-in-Err-clause-acted
returns-in-Err-clause-acted g c = λ honest h sound at bytes read.
    let operator = service_operator c.args.self.now in
    let why = c.in-Err.refusal in
    let gates = rw c.in-Err.is at (c.gate.ensures.reads.states honest h at) in
    acted_refused (start_of g.K.Keep.keeping c.args.self.now h) c.args.stamp.now bytes c.refuse.result _ (view_request c.args.book c.args.key
    c.args.view) why read c.refuse.ensures.states (goes_read c.gate.ensures.reads honest h at sound) (gate_refused h operator c.args.stamp.now
    c.args.book c.args.key c.args.view why gates) (λ steady store. c.gate.ensures.steady steady (err_is c.gate.result why c.in-Err.is store))
