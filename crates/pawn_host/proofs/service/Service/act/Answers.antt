use Rattle.pawn_book.proofs.ActLemmas.{refused_acts, made_acts, unmade_acts, made_left, unmade_left}
use Rattle.pawn_host.proofs.CrashLemmas.{goes_read}
use Rattle.pawn_host.proofs.RunLemmas.{acted_refused, acted_unmade, acted_done, goes_unmade, err_is}
use Rattle.pawn_host.specs.Keeps.{service_operator, start_of}
use Rattle.pawn_host.proofs.service.Service.act.Goals as goal

pub returns-in-Err-clause-acted : goal.returns-in-Err-clause-acted
returns-in-Err-clause-acted g c = λ honest h sound at bytes read.
    let operator = service_operator c.args.self.now in
    let stands = g.K.Keep.keeping.stands c.plan.new.keep in
    let why = c.in-Err.refusal in
    let plans = rw c.in-Err.is at (c.plan.ensures.reads.states honest h at sound) in
    let acts = refused_acts h operator c.args.stamp.now c.args.request.now stands why plans (c.plan.ensures.reads.same honest h at) in
    acted_refused (start_of g.K.Keep.keeping c.args.self.now h) c.args.stamp.now bytes c.refuse.result _ c.args.request.now why read c.refuse.ensures.states
    (goes_read c.plan.ensures.reads honest h at sound) acts.1 (λ steady store. c.plan.ensures.steady steady (err_is c.plan.result why c.in-Err.is store))

pub returns-in-Ok-done-clause-acted : goal.returns-in-Ok-done-clause-acted
returns-in-Ok-done-clause-acted g c = λ honest h sound at bytes read.
    let operator = service_operator c.args.self.now in
    let stands = g.K.Keep.keeping.stands c.commit.new.keep in
    let leaves = g.K.Keep.keeping.leaves in
    let before = c.commit.ensures.on.was_honest honest in
    let made = c.in-Ok.planned in
    let plans = rw c.in-Ok.is at (c.plan.ensures.reads.states before h at sound) in
    let stood = c.plan.ensures.reads.same before h at in
    let commits = rw c.in-Ok-done.is at (c.commit.ensures.commits honest h sound stood) in
    let acts = made_acts h operator c.args.stamp.now c.args.request.now stands made.change made.reply sound plans commits in
    acted_done (start_of g.K.Keep.keeping c.args.self.now h) c.args.stamp.now bytes c.in-Ok-write_done.reply.items _ c.args.request.now made.reply read
    (rw c.in-Ok-write_done.is at c.write_done.ensures.text) acts
    (λ left by. made_left h operator c.args.stamp.now c.args.request.now made.change made.reply stands (leaves c.args.self.now.keep) (leaves c.plan.new.keep)
    left plans commits (c.plan.ensures.reads.crash before) (rw c.in-Ok-done.is at (c.commit.ensures.crash honest h sound stood left by)))

pub returns-in-Err-done-clause-acted : goal.returns-in-Err-done-clause-acted
returns-in-Err-done-clause-acted g c = λ honest h sound at bytes read.
    let operator = service_operator c.args.self.now in
    let stands = g.K.Keep.keeping.stands c.commit.new.keep in
    let leaves = g.K.Keep.keeping.leaves in
    let before = c.commit.ensures.on.was_honest honest in
    let why = c.in-Err-done.refusal in
    let made = c.in-Ok.planned in
    let plans = rw c.in-Ok.is at (c.plan.ensures.reads.states before h at sound) in
    let stood = c.plan.ensures.reads.same before h at in
    let commits = rw c.in-Err-done.is at (c.commit.ensures.commits honest h sound stood) in
    let acts = unmade_acts h operator c.args.stamp.now c.args.request.now stands made.change made.reply why plans commits in
    let start = start_of g.K.Keep.keeping c.args.self.now h in
    let goes = goes_unmade start c.args.stamp.now c.args.request.now _ made.change why sound commits acts
    (λ left by. unmade_left h operator c.args.stamp.now c.args.request.now made.change made.reply why (leaves c.args.self.now.keep) (leaves c.plan.new.keep)
    left plans (c.plan.ensures.reads.crash before) (rw c.in-Err-done.is at (c.commit.ensures.crash honest h sound stood left by))) in
    acted_unmade start c.args.stamp.now bytes c.refuse-in-Err-done.result _ c.args.request.now why read c.refuse-in-Err-done.ensures.states goes
    (λ steady store. c.commit.ensures.steady (c.plan.ensures.reads.on.stays steady) (err_is c.commit.result why c.in-Err-done.is store))
