use Rattle.pawn_host.proofs.CrashLemmas.{goes_none}
use Rattle.pawn_host.specs.Keeps.{service_keep}
use Rattle.pawn_program.proofs.ServingLemmas.{served_none}
use Rattle.pawn_program.specs.Serving.{items_of}
use Rattle.pawn_store.proofs.Runs.{acts_over_tables}
use Rattle.pawn_store.proofs.Turns.{on_turn, served_turn}
use Rattle.pawn_tables.specs.Keeps.{keeping_by}
use Rattle.sqlite.specs.Held.{state}
use Rattle.std.proofs.Common.{◌∙◌, arith, refl}
use Rattle.pawn_store.proofs.running.serve_over_tables.Goals as goal

pub loop-turn-init : goal.loop-turn-init
loop-turn-init g c = record {
  counted = refl;
  stays = record {
    on = record { was_honest = λ honest. honest; was_usable = λ honest usable. usable; stays = λ steady. steady; whole = λ honest whole. whole };
    operator = refl;
  };
  served = λ honest h sound at. served_none (goes_none (keeping_by (λ k. state g.S.Store k.conn)) (service_keep c.args.service.now) h at sound);
}

pub loop-turn-preserved : goal.loop-turn-preserved
loop-turn-preserved g c = record {
  counted = omega (arith, c.loop-turn.invariant.counted, c.serve_connections-one.ensures.counted);
  stays = record {
    on = on_turn (keeping_by (λ k. state g.S.Store k.conn)) c.loop-turn.invariant.stays c.serve_connections-one.ensures.stays c.is_shut.ensures.reads;
    operator = c.serve_connections-one.ensures.stays.operator ∙ c.loop-turn.invariant.stays.operator;
  };
  served = served_turn (keeping_by (λ k. state g.S.Store k.conn)) c.loop-turn.invariant.stays c.serve_connections-one.ensures.stays c.is_shut.ensures.reads _
      _ _ _ _ _
      c.loop-turn.invariant.served c.serve_connections-one.ensures.served;
}

pub returns-then-is_shut-clause-served : goal.returns-then-is_shut-clause-served
returns-then-is_shut-clause-served g c = λ h before was clean.
    let on = on_turn (keeping_by (λ k. state g.S.Store k.conn)) c.loop-turn.invariant.stays c.serve_connections-one.ensures.stays c.is_shut.ensures.reads in
    let served = served_turn (keeping_by (λ k. state g.S.Store k.conn)) c.loop-turn.invariant.stays c.serve_connections-one.ensures.stays
    c.is_shut.ensures.reads _ _ _ _
    _ _ c.loop-turn.invariant.served c.serve_connections-one.ensures.served clean _ was.sound was.keeps in
    acts_over_tables _ _ h _ before _ (items_of served.sessions) was (on.whole clean) served.marked served.goes (served, refl)

pub returns-clause-served : goal.returns-clause-served
returns-clause-served g c = λ h before was clean.
    let served = c.loop-turn.invariant.served clean _ was.sound was.keeps in
    acts_over_tables _ _ h _ before _ (items_of served.sessions) was (c.loop-turn.invariant.stays.on.whole clean) served.marked served.goes (served, refl)
