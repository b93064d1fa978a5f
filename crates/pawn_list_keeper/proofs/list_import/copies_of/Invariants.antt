use Rattle.std.proofs.Common.{◌≡◌, take}
use Rattle.pawn_list_keeper.proofs.list_import.copies_of.Given as goal

abbrev pub invariant-loop-pledge : goal.invariant-loop-pledge
invariant-loop-pledge l = l.copies.items ≡ take l.pledge-index l.pledges
