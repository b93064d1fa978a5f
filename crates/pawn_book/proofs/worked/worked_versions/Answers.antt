use Rattle.std.proofs.Common.{refl}
use Rattle.pawn_book.proofs.worked.worked_versions.Goals as goal

pub returns : goal.returns
returns c = record {
  versions = record {
    first = refl;
    none = refl;
    gap = refl;
    last = refl;
    full = refl;
    gap_when_full = refl;
    rate_when_full = refl;
    rate = refl;
  };
}
