use Rattle.pawn_saving.proofs.import_writes.put_pledge.Goals as goal

pub returns-clause-wrote : goal.returns-clause-wrote
returns-clause-wrote g c = rw (c.get.ensures.value, c.agreement.ensures.value) at c.put_whole.ensures.wrote
