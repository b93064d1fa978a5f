use Rattle.pawn_move.proofs.Migrates.{failed, not_indexed, not_told, older, stays, stays_indexed, stays_owed, went, went_indexed}
use Rattle.pawn_move.proofs.Migrates.{went_owed}
use Rattle.pawn_opening.specs.Common.{state}
use Rattle.pawn_tables.proofs.OneHost.{tables_stand_for_one_host}
use Rattle.std.proofs.Common.{Err, Ok, rules, ◌≡◌}
use Rattle.pawn_move.proofs.migrating.migrate.Goals as goal

pub returns-in_err-from-clause-migrates : goal.returns-in_err-from-clause-migrates
returns-in_err-from-clause-migrates g c = let failed : c.from_residual.result ≡ Err c.in_err-from.field-0.0 = search rules in
    rw failed (not_told (state g.S.Store c.args.conn.now) (state g.S.Store c.schema_of.new.conn)
    (λ now trees left. g.met.S.Store.settled _ trees now left) c.in_err-from.field-0.0 c.in_err-from.ensures.states)

pub returns-then-from-eq-SCHEMA-clause-migrates : goal.returns-then-from-eq-SCHEMA-clause-migrates
returns-then-from-eq-SCHEMA-clause-migrates g c = let three : c.in_ok-from.from ≡ 3 = search rules in
    stays (state g.S.Store c.args.conn.now) (state g.S.Store c.schema_of.new.conn)
    (λ now trees left. g.met.S.Store.settled _ trees now left) tables_stand_for_one_host (state g.S.Store c.add_indexes.new.conn)
    (λ now trees left. g.met.S.Store.settled _ trees now left) c.in_ok-from.from three c.in_ok-from.ensures.states c.in_default.ensures.indexed

pub returns-in-Err-clause-migrates : goal.returns-in-Err-clause-migrates
returns-in-Err-clause-migrates g c = let three : c.in_ok-from.from ≡ 3 = search rules in
    not_indexed (state g.S.Store c.args.conn.now) (state g.S.Store c.schema_of.new.conn) (λ now trees left. g.met.S.Store.settled _ trees now left)
    (state g.S.Store c.add_indexes.new.conn)
    c.in_ok-from.from three c.in_ok-from.ensures.states c.in-Err.why c.in-Err.ensures.indexed c.of_opening.result c.of_opening.ensures.failure

pub move_store-requires-clause-older : goal.move_store-requires-clause-older
move_store-requires-clause-older g c = older c.in_ok-from.from c.in_ok-from.ensures.states.known c.if-from-eq-SCHEMA.false

pub returns-in-Ok-clause-migrates : goal.returns-in-Ok-clause-migrates
returns-in-Ok-clause-migrates g c = went (state g.S.Store c.args.conn.now) (state g.S.Store c.schema_of.new.conn) (λ now trees left. g.met.S.Store.settled _
    trees now left) (state g.S.Store c.move_store.new.conn) c.in_ok-from.from c.in_ok-from.ensures.states c.in-Ok.ensures.moves

pub returns-in-Err-move_store-clause-migrates : goal.returns-in-Err-move_store-clause-migrates
returns-in-Err-move_store-clause-migrates g c =
    rw c.unmoved.ensures.value (failed (state g.S.Store c.args.conn.now) (state g.S.Store c.schema_of.new.conn) (λ now trees left. g.met.S.Store.settled _ trees
    now left) (state g.S.Store c.move_store.new.conn) c.in_ok-from.from c.in-Err-move_store.error c.in_ok-from.ensures.states c.in-Err-move_store.ensures.moves)

pub returns-then-from-eq-SCHEMA-clause-checks : goal.returns-then-from-eq-SCHEMA-clause-checks
returns-then-from-eq-SCHEMA-clause-checks g c = let three : c.in_ok-from.from ≡ 3 = search rules in
    stays_owed (state g.S.Store c.args.conn.now) (state g.S.Store c.schema_of.new.conn) (λ now trees left. g.met.S.Store.settled _ trees now left)
    (state g.S.Store c.add_indexes.new.conn) c.in_ok-from.from three c.in_ok-from.ensures.states (Ok tt) c.in_default.ensures.indexed

pub returns-in-Ok-clause-checks : goal.returns-in-Ok-clause-checks
returns-in-Ok-clause-checks g c =
    went_owed (state g.S.Store c.args.conn.now) (state g.S.Store c.schema_of.new.conn) (λ now trees left. g.met.S.Store.settled _ trees now left)
    (state g.S.Store c.move_store.new.conn) c.in_ok-from.from c.in_ok-from.ensures.states c.in-Ok.ensures.moves c.in-Ok.ensures.checks

pub returns-then-from-eq-SCHEMA-clause-indexed : goal.returns-then-from-eq-SCHEMA-clause-indexed
returns-then-from-eq-SCHEMA-clause-indexed g c = let three : c.in_ok-from.from ≡ 3 = search rules in
    stays_indexed (state g.S.Store c.args.conn.now) (state g.S.Store c.schema_of.new.conn) (λ now trees left. g.met.S.Store.settled _ trees now left)
    (state g.S.Store c.add_indexes.new.conn) c.in_ok-from.from three c.in_ok-from.ensures.states c.in_default.ensures.indexed

pub returns-in-Ok-clause-indexed : goal.returns-in-Ok-clause-indexed
returns-in-Ok-clause-indexed g c =
    went_indexed (state g.S.Store c.args.conn.now) (state g.S.Store c.schema_of.new.conn) (λ now trees left. g.met.S.Store.settled _ trees now left)
    (state g.S.Store c.move_store.new.conn) c.in_ok-from.from c.if-from-eq-SCHEMA.false c.in_ok-from.ensures.states c.in-Ok.ensures.moves
    c.in-Ok.ensures.indexed
