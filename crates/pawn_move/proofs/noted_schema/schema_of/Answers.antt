use Rattle.pawn_move.proofs.SchemaNumbers.{not_told, told}
use Rattle.pawn_opening.specs.Common.{state}
use Rattle.pawn_move.proofs.noted_schema.schema_of.Goals as goal

pub returns-in-Ok : goal.returns-in-Ok
returns-in-Ok g c = record {
  states = told (state g.S.Store c.args.conn.now)
      (state g.S.Store c.schema_noted.new.conn) c.in-Ok.noted c.known_schema.result c.in-Ok.ensures.states c.known_schema.ensures.knows;
}

pub returns-in-Err : goal.returns-in-Err
returns-in-Err g c = record {
  states = not_told (state g.S.Store c.args.conn.now)
      (state g.S.Store c.schema_noted.new.conn) c.in-Err.why c.of_opening.result c.in-Err.ensures.states c.of_opening.ensures.failure;
}
