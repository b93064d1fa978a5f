use Rattle.pawn_host.specs.Keeps.{ForEachStart, StaysOpen}
use Rattle.pawn_program.specs.Clock.{GivesDated}
use Rattle.pawn_program.specs.Serving.{AreServed}
use Rattle.pawn_tables.specs.Keeps.{keeping_by}
use Rattle.sqlite.specs.Held.{state}
use Rattle.std.proofs.Common.{◌≡◌, ◌+◌}
use Rattle.pawn_store.proofs.running.serve_over_tables.Given as goal

abbrev pub invariant-loop-turn : goal.invariant-loop-turn
invariant-loop-turn g l = record {
  counted : l.served.answered + l.served.failed ≡ l.turn;
  stays : StaysOpen (keeping_by (λ k. state g.S.Store k.conn)) l.fn.service l.service;
  served : ForEachStart (keeping_by (λ k. state g.S.Store k.conn)) l.fn.service l.service
      (λ start. AreServed (GivesDated g.C.SecondsClock.reads) l.fn.stamps l.stamps start l.served.answered);
}
