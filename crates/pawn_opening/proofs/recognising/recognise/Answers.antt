use Rattle.pawn_opening.proofs.Recognised.{accepted_schema, unaccepted}
use Rattle.pawn_opening.specs.Common.{state}
use Rattle.pawn_opening.proofs.recognising.recognise.Goals as goal

pub returns-in-Ok : goal.returns-in-Ok
returns-in-Ok g c = record {
  recognised = accepted_schema (state g.S.Store c.args.conn.now)
      (state g.S.Store c.schema_noted.new.conn) c.in-Ok.noted c.expect_ours.result c.in-Ok.ensures.states c.expect_ours.ensures.accepts;
}

pub returns-in-Err : goal.returns-in-Err
returns-in-Err g c =
    record { recognised = unaccepted (state g.S.Store c.args.conn.now) (state g.S.Store c.schema_noted.new.conn) c.in-Err.why c.in-Err.ensures.states }
