use Rattle.pawn_store.proofs.Runs.{acts_over_tables}
use Rattle.std.proofs.Common.{refl}
use Rattle.std.proofs.lemmas.Result.{IfOk-weaker}
use Rattle.pawn_store.proofs.running.run_over_tables.Goals as goal

pub returns-clause-headline : goal.returns-clause-headline
returns-clause-headline g c = IfOk-weaker c.run.result _ _ (λ answers said h before was clean.
    let run = said clean _ was.sound was.keeps in
    acts_over_tables _ _ h _ before _ run.items was (c.run.ensures.stays.on.whole clean) run.marked run.goes (run, refl)) c.run.ensures.run
