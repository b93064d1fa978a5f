use Rattle.pawn_book.proofs.CommandPlans.{receipt_plans}
use Rattle.pawn_book.proofs.Reading.{ok_is, reads_as}
use Rattle.std.proofs.Common.{rules, ◌∙◌, ap, Ok}
use Rattle.pawn_book.proofs.commands.plan_receipt.Goals as goal

pub returns-in-Ok-Some-clause-reads : goal.returns-in-Ok-Some-clause-reads
returns-in-Ok-Some-clause-reads g c = reads_as c.find_live.ensures.reads (λ h told sound. receipt_plans h c.args.book c.args.receipt.now c.in-Ok-Some.pledge
    c.args.stamp.now c.args.command.now c.plan_command.result sound (ok_is (c.in-Ok-Some.is ∙ ap Ok c.in-Ok-Some.field-0-is) told) c.plan_command.ensures.day
    c.plan_command.ensures.word c.requires.within c.plan_command.ensures.outcome)

pub returns-in-Ok-None-clause-reads : goal.returns-in-Ok-None-clause-reads
returns-in-Ok-None-clause-reads g c = search rules
