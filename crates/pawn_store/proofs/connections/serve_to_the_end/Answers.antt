use Rattle.std.proofs.Common.{rules}
use Rattle.pawn_store.proofs.connections.serve_to_the_end.Goals as goal

pub returns-clause-counted : goal.returns-clause-counted
returns-clause-counted g c = search rules
