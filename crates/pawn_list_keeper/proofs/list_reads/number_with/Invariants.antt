use Rattle.pawn_list_keeper.specs.Common.{with_reference}
use Rattle.std.proofs.Common.{◌≡◌, drop}
use Rattle.pawn_list_keeper.proofs.list_reads.number_with.Given as goal

abbrev pub invariant-loop-pledge : goal.invariant-loop-pledge
invariant-loop-pledge l = with_reference (drop l.pledge-index l.pledges) l.reference ≡ with_reference l.pledges l.reference
