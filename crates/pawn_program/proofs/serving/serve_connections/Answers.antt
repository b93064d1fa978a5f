use Rattle.pawn_host.proofs.CrashLemmas.{goes_none}
use Rattle.pawn_host.proofs.SessionLemmas.{open_then, within_most}
use Rattle.pawn_host.specs.Keeps.{service_keep, start_of}
use Rattle.pawn_program.proofs.ServingLemmas.{served_none, served_more}
use Rattle.pawn_program.proofs.serving.serve_connections.Goals.{in-Ok, in-Err}
use Rattle.std.proofs.Common.{arith, refl}
use Rattle.pawn_program.proofs.serving.serve_connections.Goals as goal

pub loop-turn-init : goal.loop-turn-init
loop-turn-init g c = record {
  counted = refl;
  stays = record {
    on = record { was_honest = λ honest. honest; was_usable = λ honest usable. usable; stays = λ steady. steady; whole = λ honest whole. whole };
    operator = refl;
  };
  served = λ honest h sound at. served_none (goes_none g.K.Keep.keeping (service_keep c.args.service.now) h at sound);
}

pub loop-turn-preserved : goal.loop-turn-preserved
loop-turn-preserved g c =
    elim c.match-accept.branch [
      | in-Ok w ↦ rw (w.service-is, w.stamps-is, w.served-is) record {
        counted = omega (arith, c.loop-turn.invariant.counted);
        stays = open_then c.loop-turn.invariant.stays w.answer_connection.ensures.stays;
        served = λ honest h sound at.
            let so = c.loop-turn.invariant.served (w.answer_connection.ensures.stays.on.was_honest honest) h sound at in
            served_more _ _ (start_of g.K.Keep.keeping c.args.service.now h) c.loop-turn.served.answered _ _ _ _ _ w.answer_connection.result so
            c.loop-turn.invariant.stays.on.stays c.loop-turn.invariant.stays.operator so.goes.crash refl
            (within_most w.answer_connection.result w.answer_connection.ensures.room) (w.answer_connection.ensures.session honest _ so.goes.sound
            so.goes.stands_for);
      }
      | in-Err w ↦ rw (w.service-is, w.stamps-is, w.served-is) record {
        counted = omega (arith, c.loop-turn.invariant.counted);
        stays = c.loop-turn.invariant.stays;
        served = c.loop-turn.invariant.served;
      }
    ]
