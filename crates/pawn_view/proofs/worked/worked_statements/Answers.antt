use Rattle.pawn_view.specs.Common.{civil_after, days_of_months, days_of_years, digits, due_after}
use Rattle.pawn_view.specs.Text.{date_text}
use Rattle.std.proofs.Common.{refl}
use Rattle.pawn_view.proofs.worked.worked_statements.Goals as goal

pub returns-clause-statements : goal.returns-clause-statements
unfolding civil_after days_of_years days_of_months due_after date_text digits
returns-clause-statements c = (refl, refl, refl)

pub returns-clause-charges : goal.returns-clause-charges
unfolding civil_after days_of_years days_of_months due_after date_text digits
returns-clause-charges c = (refl, refl)

pub returns-clause-endings : goal.returns-clause-endings
unfolding civil_after days_of_years days_of_months due_after date_text digits
returns-clause-endings c = (refl, refl)

pub returns-clause-receipts : goal.returns-clause-receipts
unfolding civil_after days_of_years days_of_months due_after date_text digits
returns-clause-receipts c = (refl, refl)
