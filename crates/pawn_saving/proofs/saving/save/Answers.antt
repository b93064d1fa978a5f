use Rattle.pawn_saving.proofs.Saved.{begins, given_back, saves_committed, saves_refused, saves_undone}
use Rattle.pawn_tables.proofs.OneHost.{tables_stand_for_one_host}
use Rattle.pawn_tables.specs.Common.{state}
use Rattle.std.proofs.Common.{Err, Ok, rules}
use Rattle.pawn_saving.proofs.saving.save.Goals as goal

pub returns-in-Ok-commit-clause-saves : goal.returns-in-Ok-commit-clause-saves
returns-in-Ok-commit-clause-saves g c =
    let was = begins g.S.Store c.args.conn.now c.transaction-tx.result.conn.now c.transaction-tx.ensures.begun (search rules) (search rules) in
    given_back (λ c'. state g.S.Store c') (Unit {0}) c.args.conn.now c.commit.new.self.0 c.args.change.now (Ok tt) (saves_committed (λ c'. state g.S.Store c')
    c.args.conn.now c.commit.new.self.0 (state g.S.Store c.transaction-tx.result.conn.now) (state g.S.Store c.write_change.new.tx.conn.now) c.args.change.now
    was c.requires.can_save (Unit {0}) tt tables_stand_for_one_host c.in-Ok.ensures.lent.leaves c.in-Ok.ensures.wrote c.commit.ensures.ended
    c.commit.ensures.survives (λ clean. (c.in-Ok-commit.ensures.ok clean).1) (λ now trees left. g.met.S.Store.settled _ trees now left)) _ (search rules)

pub returns-in-Err-commit-clause-saves : goal.returns-in-Err-commit-clause-saves
returns-in-Err-commit-clause-saves g c =
    let was = begins g.S.Store c.args.conn.now c.transaction-tx.result.conn.now c.transaction-tx.ensures.begun (search rules) (search rules) in
    given_back (λ c'. state g.S.Store c') (Unit {0}) c.args.conn.now c.commit.new.self.0 c.args.change.now (Err c.unsaved.result) (saves_refused (λ c'. state
    g.S.Store c') c.args.conn.now c.commit.new.self.0 (state g.S.Store c.transaction-tx.result.conn.now) (state g.S.Store c.write_change.new.tx.conn.now)
    c.args.change.now was c.requires.can_save (Unit {0}) tt tables_stand_for_one_host c.in-Ok.ensures.lent.leaves c.in-Ok.ensures.wrote c.commit.ensures.ended
    c.commit.ensures.survives c.unsaved.result c.unsaved.ensures.not_full c.in-Err-commit.error c.in-Err-commit.ensures.err) _ (search rules)

pub returns-in-Err-clause-saves : goal.returns-in-Err-clause-saves
returns-in-Err-clause-saves g c =
    let was = begins g.S.Store c.args.conn.now c.transaction-tx.result.conn.now c.transaction-tx.ensures.begun (search rules) (search rules) in
    given_back (λ c'. state g.S.Store c') (Unit {0}) c.args.conn.now c.rollback.new.self.0 c.args.change.now (Err c.in-Err.error)
    (saves_undone (λ c'. state g.S.Store c') c.args.conn.now c.rollback.new.self.0 (state g.S.Store c.transaction-tx.result.conn.now)
    (state g.S.Store c.write_change.new.tx.conn.now) c.args.change.now was c.requires.can_save
    (Unit {0}) c.in-Err.error c.in-Err.ensures.lent.leaves c.in-Err.ensures.wrote c.rollback.ensures.undone c.rollback.ensures.survives) _ (search rules)
