use Rattle.pawn_book.proofs.ActLemmas.{refused_left, saved_left}
use Rattle.std.proofs.Common.{inl, inr, refl}
use Rattle.pawn_book.specs.declared.refusal.Refusal.TheVariants as no
use Rattle.pawn_book.proofs.acting.commit.Goals as goal

pub returns-in-Ok-clause-crash : goal.returns-in-Ok-clause-crash
returns-in-Ok-clause-crash g c = λ honest h sound at left by. saved_left h c.args.planned.now.change c.in-Some.change _ c.save.result c.in-Ok.field-0 left
    c.in-Some.is c.in-Ok.is (c.save.ensures.saves.crash honest h sound at left by)

pub returns-in-Err-Full-clause-crash : goal.returns-in-Err-Full-clause-crash
returns-in-Err-Full-clause-crash g c = λ honest h sound at left by. refused_left h c.args.planned.now.change c.in-Some.change _ c.save.result
    c.in-Err-Full.field-0 no.Full left c.in-Some.is c.in-Err-Full.is (rw c.in-Err-Full.field-0-is refl) (c.save.ensures.saves.crash honest h sound at left by)

pub returns-in-Err-Memory-clause-crash : goal.returns-in-Err-Memory-clause-crash
returns-in-Err-Memory-clause-crash g c =
    λ honest h sound at left by. refused_left h c.args.planned.now.change c.in-Some.change _ c.save.result c.in-Err-Memory.field-0 no.Memory left c.in-Some.is
    c.in-Err-Memory.is (rw c.in-Err-Memory.field-0-is (inl refl)) (c.save.ensures.saves.crash honest h sound at left by)

pub returns-in-Err-Store-clause-crash : goal.returns-in-Err-Store-clause-crash
returns-in-Err-Store-clause-crash g c =
    λ honest h sound at left by. refused_left h c.args.planned.now.change c.in-Some.change _ c.save.result c.in-Err-Store.field-0 no.Store left c.in-Some.is
    c.in-Err-Store.is (rw c.in-Err-Store.field-0-is (inr refl)) (c.save.ensures.saves.crash honest h sound at left by)
