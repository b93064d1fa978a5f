use Rattle.pawn_debt.proofs.EntryLemmas.{due-from-last}
use Rattle.pawn_pledge.proofs.Briefs.{brief_is_within}
use Rattle.pawn_pledge.specs.Common.{Due, owing_of}
use Rattle.pawn_pledge.specs.Pledge.{debt_of}
use Rattle.std.proofs.Common.{ap, refl}
use Rattle.pawn_pledge.proofs.laws.laws_of_briefs.Goals as goal

pub returns-clause-owes : goal.returns-clause-owes
returns-clause-owes c p x h late = ap (λ (o : Due). owing_of o) (due-from-last (debt_of p) x h.entered.ordered late)

pub returns-clause-status : goal.returns-clause-status
returns-clause-status c p x = refl

pub returns-clause-within : goal.returns-clause-within
returns-clause-within c = brief_is_within
