use Rattle.pawn_host.specs.Keeps.{StaysOpen, ForEachStart}
use Rattle.pawn_program.specs.Clock.{GivesDated}
use Rattle.pawn_program.specs.Serving.{AreServed}
use Rattle.std.proofs.Common.{◌≡◌, ◌+◌}
use Rattle.pawn_program.proofs.serving.serve_connections.Given as goal

abbrev pub invariant-loop-turn : goal.invariant-loop-turn
invariant-loop-turn g l = record {
  counted : l.served.answered + l.served.failed ≡ l.turn;
  stays : StaysOpen g.K.Keep.keeping l.fn.service l.service;
  served : ForEachStart g.K.Keep.keeping l.fn.service l.service
      (λ start. AreServed (GivesDated g.C.SecondsClock.reads) l.fn.stamps l.stamps start l.served.answered);
}
