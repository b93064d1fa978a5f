use Rattle.pawn_terms.proofs.AgreementLemmas.{agrees}
use Rattle.pawn_terms.proofs.laws.law_of_calendars.Goals as goal

pub returns : goal.returns
returns c = record { agrees = agrees }
