use Rattle.pawn_opening.proofs.Recognised.{failed, told, untold}
use Rattle.pawn_opening.specs.Common.{state}
use Rattle.pawn_opening.specs.Refusing.{IsNumberRead}
use Rattle.std.proofs.Common.{rules, subst}
use Rattle.pawn_opening.proofs.recognising.schema_noted.Goals as goal

pub returns-in-Ok : goal.returns-in-Ok
returns-in-Ok g c = record {
  states = told (state g.S.Store c.args.conn.now) (state g.S.Store c.query_all.new.self)
      (c.query_all.ensures.mode c.requires.rests) c.query_all.ensures.survives c.in-Ok.rows.items c.number_of.result c.in-Ok.ensures.ok
      (subst (λ rows. IsNumberRead rows c.number_of.result) c.deref.ensures.value c.number_of.ensures.read);
}

pub returns-in-Err : goal.returns-in-Err
returns-in-Err g c = record {
  states = failed (state g.S.Store c.args.conn.now) (state g.S.Store c.query_all.new.self) (c.query_all.ensures.mode c.requires.rests)
      c.query_all.ensures.survives (search rules) c.in-Err.error c.in-Err.ensures.err c.opening_fault.result c.opening_fault.ensures.store;
}

pub returns-in-Err-SqlInputError : goal.returns-in-Err-SqlInputError
returns-in-Err-SqlInputError g c = record {
  states = untold (state g.S.Store c.args.conn.now) (state g.S.Store c.query_all.new.self) (c.query_all.ensures.mode c.requires.rests)
      c.query_all.ensures.survives (search rules) _ c.in-Err-SqlInputError.ensures.err c.in-Err-SqlInputError.field-0-0 c.in-Err-SqlInputError.field-0-is;
}
