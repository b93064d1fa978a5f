use Rattle.pawn_view.specs.Common.{civil_after, days_of_months, days_of_years, digits, due_after}
use Rattle.pawn_view.specs.Text.{date_text}
use Rattle.std.proofs.Common.{refl}
use Rattle.pawn_view.proofs.worked.worked_lines.Goals as goal

pub returns-clause-lines : goal.returns-clause-lines
unfolding civil_after days_of_years days_of_months due_after date_text digits
returns-clause-lines c = (refl, refl, refl, refl, refl)

pub returns-clause-bookings : goal.returns-clause-bookings
unfolding civil_after days_of_years days_of_months due_after date_text digits
returns-clause-bookings c = (refl, refl, refl, refl, refl)

pub returns-clause-closings : goal.returns-clause-closings
unfolding civil_after days_of_years days_of_months due_after date_text digits
returns-clause-closings c = (refl, refl, refl, refl)
