use Rattle.pawn_book.proofs.Plans.{import_plans, planned_so}
use Rattle.std.proofs.Common.{rules, ◌∙◌, sym}
use Rattle.pawn_book.proofs.import_plans.plan_import.Goals as goal

pub returns-else-not-is_empty-clause-plans : goal.returns-else-not-is_empty-clause-plans
returns-else-not-is_empty-clause-plans c = λ h at sound is heads. planned_so h c.args.book _ _ c.fill_book.result c.fill_book.ensures.planned
    c.fill_book.ensures.memory (import_plans h c.args.book c.args.key at c.args.head.now c.args.rows.now sound is heads c.in-None.is
    (sym c.is_empty.ensures.value ∙ c.if-not-is_empty.false) c.fill_book.ensures.key c.fill_book.ensures.replayable c.fill_book.ensures.texts_and_words)

pub returns-else-ne-clause-plans : goal.returns-else-ne-clause-plans
returns-else-ne-clause-plans c = search rules
