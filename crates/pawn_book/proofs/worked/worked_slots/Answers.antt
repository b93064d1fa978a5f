use Rattle.pawn_debt.specs.Due.{due_after}
use Rattle.pawn_terms.specs.Calendar.{civil_after, days_of_months, days_of_years}
use Rattle.std.proofs.Common.{refl}
use Rattle.pawn_book.proofs.worked.worked_slots.Goals as goal

pub returns : goal.returns
unfolding civil_after days_of_years days_of_months due_after
returns c = record {
  slots = record {
    first = refl;
    second = refl;
    first_and_third = refl;
    first_and_second = refl;
    first_left = refl;
    both_left = refl;
    third_is_in = refl;
    first_unknown = refl;
  };
}
