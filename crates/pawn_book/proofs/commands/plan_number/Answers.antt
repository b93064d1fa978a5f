use Rattle.pawn_book.proofs.CommandPlans.{number_plans, number_refused}
use Rattle.pawn_book.proofs.Reading.{ok_is, reads_then}
use Rattle.pawn_book.specs.BookStep.{broker_commands, outcome_of_step, pledge_from}
use Rattle.pawn_book.specs.Common.{pledge_step}
use Rattle.pawn_book.specs.Plans.{FindsRoom, IsOutcome, Plans, outcome_of}
use Rattle.std.proofs.Common.{◌≡◌, ◌∙◌, ap, Err, Ok, rules, subst, sym}
use Rattle.pawn_book.proofs.commands.plan_number.Goals as goal

pub returns-clause-reads : goal.returns-clause-reads
returns-clause-reads g c = reads_then c.pledge.ensures.reads c.find_room.ensures.reads (λ h told roomed sound at is heads.
    number_plans h c.args.book c.args.number at c.in-Ok-Some.pledge c.args.stamp.now c.args.command.now c.in_ok-planned.planned sound is
    (ok_is (c.in-Ok-Some.is ∙ ap Ok c.in-Ok-Some.field-0-is) told) c.plan_command.ensures.day c.plan_command.ensures.word c.requires.within
    (subst (IsOutcome (outcome_of_step c.args.book c.args.number (pledge_step c.in-Ok-Some.pledge c.args.stamp.now c.args.command.now))) c.in_ok-planned.was
    c.plan_command.ensures.outcome) (subst (FindsRoom at (outcome_of c.in_ok-planned.planned.change c.in_ok-planned.planned.reply)) c.in_ok-find_room.was
    (roomed at is heads)))

pub returns-in_err-find_room-clause-reads : goal.returns-in_err-find_room-clause-reads
returns-in_err-find_room-clause-reads g c = reads_then c.pledge.ensures.reads c.find_room.ensures.reads (λ h told roomed sound at is heads.
    let said : c.from_residual-in_err-find_room.result ≡ Err c.in_err-find_room.field-0.0 = search rules in
    subst (Plans h c.args.book (broker_commands at c.args.book c.args.number c.args.stamp.now c.args.command.now (pledge_from 1 at.pledges c.args.number)))
    (sym said) (number_refused h c.args.book c.args.number at c.in-Ok-Some.pledge c.args.stamp.now c.args.command.now c.in_ok-planned.planned
    c.in_err-find_room.field-0.0 is (ok_is (c.in-Ok-Some.is ∙ ap Ok c.in-Ok-Some.field-0-is) told)
    (subst (IsOutcome (outcome_of_step c.args.book c.args.number (pledge_step c.in-Ok-Some.pledge c.args.stamp.now c.args.command.now))) c.in_ok-planned.was
    c.plan_command.ensures.outcome) (subst (FindsRoom at (outcome_of c.in_ok-planned.planned.change c.in_ok-planned.planned.reply)) c.in_err-find_room.was
    (roomed at is heads))))
