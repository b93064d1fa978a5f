use Rattle.std.proofs.Common.{refl}
use Rattle.pawn_book.proofs.worked.worked_takings.Goals as goal

pub returns : goal.returns
returns c = record {
  takings = record {
    first = refl;
    last = refl;
    full = refl;
    terms_when_full = refl;
    amount_when_full = refl;
  };
}
