use Rattle.pawn_view.specs.Common.{civil_after, days_of_months, days_of_years, digits, due_after}
use Rattle.pawn_view.specs.Text.{date_text}
use Rattle.std.proofs.Common.{refl}
use Rattle.pawn_view.proofs.worked.worked_words.Goals as goal

pub returns-clause-amounts : goal.returns-clause-amounts
unfolding civil_after days_of_years days_of_months due_after date_text digits
returns-clause-amounts c = (refl, refl, refl, refl, refl, refl, refl)

pub returns-clause-days : goal.returns-clause-days
unfolding civil_after days_of_years days_of_months due_after date_text digits
returns-clause-days c = (refl, refl, refl)
