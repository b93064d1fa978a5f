use Rattle.pawn_csv.proofs.Basics.{reads_as}
use Rattle.pawn_csv.proofs.ItemLemmas.{pledges_share}
use Rattle.pawn_csv.specs.Common.{get, pledges_of}
use Rattle.pawn_csv.proofs.exporting.put_pledges.Goals as goal

pub returns-clause-shares : goal.returns-clause-shares
returns-clause-shares g c = let (given, flow, handed, reads) = c.rows_each.ensures.reads in
    reads_as reads (λ h share. pledges_share _ _ _ given (pledges_of (get h.books c.args.book)) flow _ handed share)
