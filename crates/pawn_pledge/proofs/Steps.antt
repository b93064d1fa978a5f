-- What each step that changes a pledge keeps, by its move.
use Rattle.pawn_pledge.proofs.Growth.{ListsMoved, lists-moved}
use Rattle.pawn_pledge.proofs.Moves.{Move, pledge_moves, Entering, Declaring, Extending, Settling}
use Rattle.pawn_pledge.proofs.Replays.{stays-moved, within-moved, differs-moved}
use Rattle.pawn_pledge.specs.Common.{IsChecked}
use Rattle.pawn_pledge.specs.Laws.{AgreementStays, ChangesDiffer, StaysReplayable, StaysReachable, StaysWithin}
use Rattle.pawn_pledge.specs.Pledge.{PledgeValue}
use Rattle.pawn_pledge.specs.Step.{Changed, pledge_step}
use Rattle.pawn_pledge.specs.declared.command.Command.{Command}
use Rattle.pawn_pledge.specs.declared.command.Done.{Done}
use Rattle.pawn_pledge.specs.declared.command.Stamp.{Stamp}
use Rattle.pawn_pledge.specs.declared.record.Agreement.{Agreement}
use Rattle.std.proofs.Common.{◌≡◌, ap, sym, subst}

pub agreement_stays : AgreementStays
agreement_stays p next stamp command done step = of (pledge_moves p next stamp command done step).1 where
  of : Move p stamp.day stamp.word command next → next.agreement ≡ p.agreement
  of (Entering sort pence ok late few drawn is) = ap (λ (v : PledgeValue). v.agreement) is
  of (Declaring paper ok is) = ap (λ (v : PledgeValue). v.agreement) is
  of (Settling s to is) = ap (λ (v : PledgeValue). v.agreement) is
  of (Extending until inside longer few named is) = ap (λ (v : PledgeValue). v.agreement) is

pub stays_replayable : StaysReplayable
stays_replayable p next stamp command done h step =
    let g = pledge_moves p next stamp command done step in
    stays-moved p next command stamp.word stamp.day h g.0 g.1

pub stays_within : StaysWithin
stays_within p next stamp command done day given h step =
    within-moved p next command stamp.word stamp.day day.1 given h (pledge_moves p next stamp command done step).1

pub stays_reachable : StaysReachable
stays_reachable p next stamp command done day given h step = record {
  terms = subst (λ (a : Agreement). IsChecked a.terms) (sym (agreement_stays p next stamp command done step)) h.terms;
  replayable = stays_replayable p next stamp command done h.replayable step;
  within = stays_within p next stamp command done day given h.within step;
}

pub changes_differ : ChangesDiffer
changes_differ p next stamp command done step =
    let g = pledge_moves p next stamp command done step in
    differs-moved p next command stamp.word stamp.day g.0 g.1

-- how its lists move
pub lists_of_step : (p next : PledgeValue) (stamp : Stamp) (command : Command) (done : Done) → pledge_step p stamp command ≡ Changed next done
    → ListsMoved p next stamp.word stamp.day
lists_of_step p next stamp command done step =
    lists-moved p next command stamp.word stamp.day (pledge_moves p next stamp command done step).1
