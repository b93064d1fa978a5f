use Rattle.pawn_opening.proofs.Begun.{is_begun}
use Rattle.pawn_opening.proofs.IndexedStore.{indexed, not_committed, not_indexed, not_lacking}
use Rattle.pawn_opening.specs.Common.{state}
use Rattle.pawn_opening.specs.Opened.{IndexesStore}
use Rattle.std.proofs.Common.{Err, Ok, rules, subst, ◌≡◌}
use Rattle.pawn_opening.proofs.indexing.add_indexes.Goals as goal

pub returns-in_default : goal.returns-in_default
returns-in_default g c = record {
  indexed = not_lacking (state g.S.Store c.args.conn.now) (search rules) c.requires.rests (search rules) c.know_settled.ensures.live;
}

pub returns-in-Ok : goal.returns-in-Ok
returns-in-Ok g c = record {
  indexed = let was = is_begun g.S.Store c.args.conn.now _ c.transaction-tx.ensures.begun c.requires.rests (search rules) c.know_settled.ensures.live in
      let same : c.commit.new.self.0 ≡ c.conn-2-1.given.0 = search rules in
      subst (λ n. IndexesStore (state g.S.Store c.args.conn.now) (state g.S.Store n) (Ok tt)) same (indexed (state g.S.Store c.args.conn.now) (state g.S.Store
      c.commit.new.self.0) (state g.S.Store c.transaction-tx.result.conn.now) (state g.S.Store c.make_indexes.new.tx.conn.now) was c.commit.ensures.ended
      c.in-Some.which (search rules) c.in_default-make_indexes.ensures.lent.leaves c.in_default-make_indexes.ensures.adds c.commit.ensures.survives
      (λ clean. (c.in-Ok.ensures.ok clean).1));
}

pub returns-in-Err-commit : goal.returns-in-Err-commit
returns-in-Err-commit g c = record {
  indexed = let was = is_begun g.S.Store c.args.conn.now _ c.transaction-tx.ensures.begun c.requires.rests (search rules) c.know_settled.ensures.live in
      let same : c.commit.new.self.0 ≡ c.conn-2-1.given.0 = search rules in
      subst (λ n. IndexesStore (state g.S.Store c.args.conn.now) (state g.S.Store n) (Err c.opening_fault-in-Err-commit.result)) same
      (not_committed (state g.S.Store c.args.conn.now) (state g.S.Store c.commit.new.self.0) (state g.S.Store c.transaction-tx.result.conn.now) (state g.S.Store
      c.make_indexes.new.tx.conn.now) was c.commit.ensures.ended c.in-Some.which (search rules)
      c.in_default-make_indexes.ensures.lent.leaves c.in_default-make_indexes.ensures.adds c.commit.ensures.survives
      c.opening_fault-in-Err-commit.result c.opening_fault-in-Err-commit.ensures.store c.in-Err-commit.error c.in-Err-commit.ensures.err);
}

pub returns-in-Err : goal.returns-in-Err
returns-in-Err g c = record {
  indexed = let was = is_begun g.S.Store c.args.conn.now _ c.transaction-tx.ensures.begun c.requires.rests (search rules) c.know_settled.ensures.live in
      let same : c.rollback.new.self.0 ≡ c.conn-1.given.0 = search rules in
      subst (λ n. IndexesStore (state g.S.Store c.args.conn.now) (state g.S.Store n) (Err c.opening_fault.result)) same (not_indexed (state g.S.Store
      c.args.conn.now)
      (state g.S.Store c.rollback.new.self.0) (state g.S.Store c.transaction-tx.result.conn.now) (state g.S.Store c.make_indexes.new.tx.conn.now) was
      c.rollback.ensures.ended c.opening_fault.result c.opening_fault.ensures.store c.in-Err.ensures.lent.leaves c.rollback.ensures.undone
      c.rollback.ensures.survives);
}
