use Rattle.pawn_list_keeper.proofs.ListSaves.{kept_empty}
use Rattle.pawn_list_keeper.specs.Listed.{IsListed, listed_book}
use Rattle.std.proofs.Common.{map, subst, sym}
use Rattle.pawn_list_keeper.proofs.list.ListKeep.new.Goals as goal

pub invariant_of-result : goal.invariant_of-result
invariant_of-result c =
    subst (λ ks. IsListed (record { books = map listed_book ks; limit = c.args.limit }) 0) (sym c.new.ensures.items) (kept_empty c.args.limit c.requires.few)
