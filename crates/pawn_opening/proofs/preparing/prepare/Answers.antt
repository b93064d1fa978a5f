use Rattle.pawn_opening.proofs.Prepared.{when_empty, when_other, when_ours}
use Rattle.pawn_opening.specs.Common.{state}
use Rattle.pawn_opening.specs.Opened.{Recognises}
use Rattle.pawn_tables.proofs.OneHost.{tables_stand_for_one_host}
use Rattle.std.proofs.Common.{Err, rules, subst, sym, ◌≡◌}
use Rattle.pawn_opening.proofs.preparing.prepare.Goals as goal

pub returns-then-is_empty : goal.returns-then-is_empty
returns-then-is_empty g c = record {
  prepared = when_empty (state g.S.Store c.args.conn.now) (state g.S.Store c.lay_out.new.conn) c.args.limit c.lay_out.result
      (λ now trees left. g.met.S.Store.settled _ trees now left) (search rules) c.lay_out.ensures.laid_out;
}

pub returns-in_ok-recognise : goal.returns-in_ok-recognise
returns-in_ok-recognise g c = record {
  prepared = when_ours (state g.S.Store c.args.conn.now) (state g.S.Store c.add_indexes.new.conn) c.args.limit c.add_indexes.result
      (λ now trees left. g.met.S.Store.settled _ trees now left) (state g.S.Store c.recognise.new.conn) (search rules) c.in_ok-recognise.ensures.recognised
      c.add_indexes.ensures.indexed tables_stand_for_one_host (λ now trees left. g.met.S.Store.settled _ trees now left);
}

pub returns-in_err-recognise : goal.returns-in_err-recognise
returns-in_err-recognise g c = record {
  prepared = let old = state g.S.Store c.args.conn.now in
      let new = state g.S.Store c.recognise.new.conn in let why = c.in_err-recognise.field-0.0 in
      let now : c.from_residual.result ≡ Err why = search rules in
      when_other old new c.args.limit c.from_residual.result (λ now trees left. g.met.S.Store.settled _ trees now left) (search rules) why now
      (subst (Recognises old new) (sym now) c.in_err-recognise.ensures.recognised);
}
