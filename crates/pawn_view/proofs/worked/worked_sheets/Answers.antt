use Rattle.pawn_view.specs.Common.{civil_after, days_of_months, days_of_years, digits, due_after}
use Rattle.pawn_view.specs.Text.{date_text}
use Rattle.std.proofs.Common.{refl}
use Rattle.pawn_view.proofs.worked.worked_sheets.Goals as goal

pub returns-clause-lines : goal.returns-clause-lines
unfolding civil_after days_of_years days_of_months due_after date_text digits
returns-clause-lines c = (refl, refl, refl, refl, refl, refl)

pub returns-clause-sheets : goal.returns-clause-sheets
unfolding civil_after days_of_years days_of_months due_after date_text digits
returns-clause-sheets c = (refl, refl)

pub returns-clause-windows : goal.returns-clause-windows
unfolding civil_after days_of_years days_of_months due_after date_text digits
returns-clause-windows c = refl

pub returns-clause-ends : goal.returns-clause-ends
unfolding civil_after days_of_years days_of_months due_after date_text digits
returns-clause-ends c = (refl, refl, refl)
