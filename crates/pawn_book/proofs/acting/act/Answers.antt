use Rattle.pawn_book.proofs.ActLemmas.{made_acts, made_left, refused_acts, step_of, unmade_acts, unmade_left}
use Rattle.pawn_book.specs.Plans.{Acts, Commits, IsLeftByAct, IsLeftByCommit, Plans}
use Rattle.std.proofs.Common.{rules, ◌≡◌, Err, subst, sym}
use Rattle.pawn_book.proofs.acting.act.Goals as goal

pub returns-in_err-planned-clause-acts : goal.returns-in_err-planned-clause-acts
returns-in_err-planned-clause-acts g c = λ honest h sound at.
    let told = c.plan.ensures.reads.states honest h at sound in
    let plans = subst (Plans h c.args.request.now.book (step_of h c.args.operator c.args.stamp.now c.args.request.now)) c.in_err-planned.was told in
    let said : c.from_residual.result ≡ Err c.in_err-planned.field-0.0 = search rules in
    subst (λ r. Acts h c.args.operator c.args.stamp.now c.args.request.now r (g.K.Keep.keeping.stands c.plan.new.keep)) (sym said)
    (refused_acts h c.args.operator c.args.stamp.now c.args.request.now (g.K.Keep.keeping.stands c.plan.new.keep) c.in_err-planned.field-0.0 plans
    (c.plan.ensures.reads.same honest h at))

pub returns-in_err-done-clause-acts : goal.returns-in_err-done-clause-acts
returns-in_err-done-clause-acts g c = λ honest h sound at.
    let was = c.commit.ensures.on.was_honest honest in
    let told = c.plan.ensures.reads.states was h at sound in
    let plans = subst (Plans h c.args.request.now.book (step_of h c.args.operator c.args.stamp.now c.args.request.now)) c.in_ok-planned.was told in
    let made = c.commit.ensures.commits honest h sound (c.plan.ensures.reads.same was h at) in
    let said : c.from_residual-in_err-done.result ≡ Err c.in_err-done.field-0.0 = search rules in
    subst (λ r. Acts h c.args.operator c.args.stamp.now c.args.request.now r (g.K.Keep.keeping.stands c.commit.new.keep)) (sym said)
    (unmade_acts h c.args.operator c.args.stamp.now c.args.request.now
    (g.K.Keep.keeping.stands c.commit.new.keep) c.in_ok-planned.planned.change c.in_ok-planned.planned.reply c.in_err-done.field-0.0 plans
    (subst (λ r. Commits h c.in_ok-planned.planned.change r (g.K.Keep.keeping.stands c.commit.new.keep)) c.in_err-done.was made))

pub returns-clause-acts : goal.returns-clause-acts
returns-clause-acts g c = λ honest h sound at.
    let was = c.commit.ensures.on.was_honest honest in
    let told = c.plan.ensures.reads.states was h at sound in
    let plans = subst (Plans h c.args.request.now.book (step_of h c.args.operator c.args.stamp.now c.args.request.now)) c.in_ok-planned.was told in
    let made = c.commit.ensures.commits honest h sound (c.plan.ensures.reads.same was h at) in
    made_acts h c.args.operator c.args.stamp.now c.args.request.now
    (g.K.Keep.keeping.stands c.commit.new.keep) c.in_ok-planned.planned.change c.in_ok-planned.planned.reply sound plans
    (subst (λ r. Commits h c.in_ok-planned.planned.change r (g.K.Keep.keeping.stands c.commit.new.keep)) c.in_ok-done.was made)

pub returns-in_err-done-clause-crash : goal.returns-in_err-done-clause-crash
returns-in_err-done-clause-crash g c = λ honest h sound at left by.
    let was = c.commit.ensures.on.was_honest honest in
    let told = c.plan.ensures.reads.states was h at sound in
    let plans = subst (Plans h c.args.request.now.book (step_of h c.args.operator c.args.stamp.now c.args.request.now)) c.in_ok-planned.was told in
    let made = c.commit.ensures.crash honest h sound (c.plan.ensures.reads.same was h at) left by in
    let said : c.from_residual-in_err-done.result ≡ Err c.in_err-done.field-0.0 = search rules in
    subst (λ r. IsLeftByAct h c.args.operator c.args.stamp.now c.args.request.now (g.K.Keep.keeping.leaves c.args.keep.now) r left) (sym said)
    (unmade_left h c.args.operator c.args.stamp.now c.args.request.now c.in_ok-planned.planned.change c.in_ok-planned.planned.reply c.in_err-done.field-0.0 _
    (g.K.Keep.keeping.leaves c.plan.new.keep) left plans (c.plan.ensures.reads.crash was)
    (subst (λ r. IsLeftByCommit h c.in_ok-planned.planned.change (g.K.Keep.keeping.leaves c.plan.new.keep) r left) c.in_err-done.was made))

pub returns-clause-crash : goal.returns-clause-crash
returns-clause-crash g c = λ honest h sound at left by.
    let was = c.commit.ensures.on.was_honest honest in
    let told = c.plan.ensures.reads.states was h at sound in
    let plans = subst (Plans h c.args.request.now.book (step_of h c.args.operator c.args.stamp.now c.args.request.now)) c.in_ok-planned.was told in
    let stood = c.plan.ensures.reads.same was h at in
    let made = subst (λ r. Commits h c.in_ok-planned.planned.change r (g.K.Keep.keeping.stands c.commit.new.keep)) c.in_ok-done.was
    (c.commit.ensures.commits honest h sound stood) in
    made_left h c.args.operator c.args.stamp.now c.args.request.now c.in_ok-planned.planned.change c.in_ok-planned.planned.reply (g.K.Keep.keeping.stands
    c.commit.new.keep) _ (g.K.Keep.keeping.leaves c.plan.new.keep) left plans made (c.plan.ensures.reads.crash was) (subst (λ r. IsLeftByCommit h
    c.in_ok-planned.planned.change (g.K.Keep.keeping.leaves c.plan.new.keep) r left) c.in_ok-done.was (c.commit.ensures.crash honest h sound stood left by))
