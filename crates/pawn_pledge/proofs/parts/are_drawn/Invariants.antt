use Rattle.pawn_pledge.specs.Common.{Each, Entry}
use Rattle.pawn_pledge.specs.Replayable.{IsDrawnBy}
use Rattle.std.proofs.Common.{drop}
use Rattle.pawn_pledge.proofs.parts.are_drawn.Given as goal

abbrev pub invariant-loop-e : goal.invariant-loop-e
invariant-loop-e l = record {
  down : Each {X = Entry} (λ e. IsDrawnBy l.ends e.sort e.day) l.entries → Each {X = Entry} (λ e. IsDrawnBy l.ends e.sort e.day) (drop l.e-index l.entries);
  back : Each {X = Entry} (λ e. IsDrawnBy l.ends e.sort e.day) (drop l.e-index l.entries) → Each {X = Entry} (λ e. IsDrawnBy l.ends e.sort e.day) l.entries;
}
