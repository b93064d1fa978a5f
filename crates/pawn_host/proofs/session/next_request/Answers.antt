use Rattle.pawn_host.proofs.ReadLemmas.{fetched_then}
use Rattle.pawn_host.proofs.session.next_request.Goals as goal

pub returns-in-Ok-clause-fetched : goal.returns-in-Ok-clause-fetched
returns-in-Ok-clause-fetched g c = fetched_then c.await_body.result c.in-Ok.head _ _ _ _ _ _ _ _ _ c.in-Ok.ensures.fetched c.await_body.ensures.fetched
