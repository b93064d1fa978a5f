use Rattle.pawn_book.proofs.Reading.{reads_as}
use Rattle.pawn_book.specs.BookStep.{only_live}
use Rattle.std.proofs.Common.{◌∙◌, ap}
use Rattle.pawn_book.proofs.gates.find_live.Goals as goal

pub returns-clause-reads : goal.returns-clause-reads
returns-clause-reads g c = reads_as c.in_ok-pledge.ensures.reads (λ h said. c.live_pledge.ensures.live ∙ ap (only_live c.args.receipt.now.secret) said)
