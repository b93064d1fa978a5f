use Rattle.pawn_opening.proofs.Found.{closes, unclosed}
use Rattle.pawn_opening.proofs.opening.close_files.Goals as goal

pub returns-in-Ok-clause-kept : goal.returns-in-Ok-clause-kept
returns-in-Ok-clause-kept g c clean h committed = closes c.args.conn c.in-Ok.files h (c.in-Ok.ensures.copied clean) committed

pub returns-in-Err-clause-refused : goal.returns-in-Err-clause-refused
returns-in-Err-clause-refused g c = unclosed c.args.conn c.in-Err.store c.in-Err.error c.opening_fault.result c.opening_fault.ensures.store
    c.opening_fault.ensures.out_of_memory
    c.in-Err.ensures.err.0 c.in-Err.ensures.err.1
