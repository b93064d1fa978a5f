use Rattle.pawn_opening.proofs.Begun.{is_begun}
use Rattle.pawn_opening.proofs.LaidOut.{laid_out, not_committed, not_filled}
use Rattle.pawn_opening.specs.Common.{state}
use Rattle.pawn_opening.specs.Opened.{LaysOut}
use Rattle.pawn_tables.proofs.OneHost.{tables_stand_for_one_host}
use Rattle.std.proofs.Common.{Err, Ok, rules, subst, ◌≡◌}
use Rattle.pawn_opening.proofs.preparing.lay_out.Goals as goal

pub returns-in-Ok : goal.returns-in-Ok
returns-in-Ok g c = record {
  laid_out = let was = is_begun g.S.Store c.args.conn.now _ c.transaction-tx.ensures.begun c.requires.rests (search rules) c.know_settled.ensures.live in
      let same : c.commit.new.self.0 ≡ c.conn-2-1.given.0 = search rules in
      subst (λ n. LaysOut (state g.S.Store c.args.conn.now) (state g.S.Store n) c.args.limit (Ok tt)) same
      (laid_out (state g.S.Store c.args.conn.now) (state g.S.Store c.commit.new.self.0) (state g.S.Store c.transaction-tx.result.conn.now)
      (state g.S.Store c.make_first_content.new.tx.conn.now) c.args.limit was c.commit.ensures.ended c.in_default.ensures.lent.leaves
      c.in_default.ensures.made
      c.commit.ensures.survives tables_stand_for_one_host (λ clean. (c.in-Ok.ensures.ok clean).1) (λ now trees left. g.met.S.Store.settled _ trees now left));
}

pub returns-in-Err-commit : goal.returns-in-Err-commit
returns-in-Err-commit g c = record {
  laid_out = let was = is_begun g.S.Store c.args.conn.now _ c.transaction-tx.ensures.begun c.requires.rests (search rules) c.know_settled.ensures.live in
      let same : c.commit.new.self.0 ≡ c.conn-2-1.given.0 = search rules in
      subst (λ n. LaysOut (state g.S.Store c.args.conn.now) (state g.S.Store n) c.args.limit (Err c.opening_fault-in-Err-commit.result)) same
      (not_committed (state g.S.Store c.args.conn.now) (state g.S.Store c.commit.new.self.0) (state g.S.Store c.transaction-tx.result.conn.now)
      (state g.S.Store c.make_first_content.new.tx.conn.now) c.args.limit was c.commit.ensures.ended c.in_default.ensures.lent.leaves
      c.in_default.ensures.made
      c.commit.ensures.survives c.opening_fault-in-Err-commit.result c.opening_fault-in-Err-commit.ensures.store c.in-Err-commit.error
      c.in-Err-commit.ensures.err);
}

pub returns-in-Err : goal.returns-in-Err
returns-in-Err g c = record {
  laid_out = let was = is_begun g.S.Store c.args.conn.now _ c.transaction-tx.ensures.begun c.requires.rests (search rules) c.know_settled.ensures.live in
      let same : c.rollback.new.self.0 ≡ c.conn-1.given.0 = search rules in
      subst (λ n. LaysOut (state g.S.Store c.args.conn.now) (state g.S.Store n) c.args.limit (Err c.opening_fault.result)) same
      (not_filled (state g.S.Store c.args.conn.now) (state g.S.Store c.rollback.new.self.0) (state g.S.Store c.transaction-tx.result.conn.now)
      (state g.S.Store c.make_first_content.new.tx.conn.now) c.args.limit was c.rollback.ensures.ended
      c.opening_fault.result c.opening_fault.ensures.store c.in-Err.ensures.lent.leaves c.rollback.ensures.undone c.rollback.ensures.survives);
}
