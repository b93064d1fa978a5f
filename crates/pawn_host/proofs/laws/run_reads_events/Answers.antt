use Rattle.pawn_host.proofs.LawLemmas.{run_events}
use Rattle.pawn_host.proofs.laws.run_reads_events.Goals as goal

pub returns : goal.returns
returns c = record { law = run_events }
