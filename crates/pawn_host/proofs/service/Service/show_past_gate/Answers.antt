use Rattle.pawn_host.proofs.service.Service.show_past_gate.Goals as goal

pub returns-in-Pledge-clause-acted : goal.returns-in-Pledge-clause-acted
returns-in-Pledge-clause-acted g c = rw c.in-Pledge.is c.show_pledge.ensures.acted

pub returns-in-Sheet-clause-acted : goal.returns-in-Sheet-clause-acted
returns-in-Sheet-clause-acted g c = rw c.in-Sheet.is c.show_sheet.ensures.acted

pub returns-in-Rows-clause-acted : goal.returns-in-Rows-clause-acted
returns-in-Rows-clause-acted g c = rw c.in-Rows.is c.show_rows.ensures.acted
