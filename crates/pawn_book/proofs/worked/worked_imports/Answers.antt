use Rattle.std.proofs.Common.{refl}
use Rattle.pawn_book.proofs.worked.worked_imports.Goals as goal

pub returns : goal.returns
returns c = record {
  imports = record {
    first = refl;
    fills = refl;
    again = refl;
    again_without = refl;
    another = refl;
    with_terms = refl;
    nothing = refl;
    after_nothing = refl;
    other_broker = refl;
  };
}
