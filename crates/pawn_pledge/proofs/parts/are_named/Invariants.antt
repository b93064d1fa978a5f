use Rattle.pawn_pledge.specs.Common.{Each, last_request_day}
use Rattle.pawn_pledge.specs.declared.record.Extension.{Extension}
use Rattle.std.proofs.Common.{◌≤◌, drop}
use Rattle.pawn_pledge.proofs.parts.are_named.Given as goal

abbrev pub invariant-loop-extension : goal.invariant-loop-extension
invariant-loop-extension l = record {
  down : Each {X = Extension} (λ e. e.until ≤ last_request_day) l.extensions
      → Each {X = Extension} (λ e. e.until ≤ last_request_day) (drop l.extension-index l.extensions);
  back : Each {X = Extension} (λ e. e.until ≤ last_request_day) (drop l.extension-index l.extensions)
      → Each {X = Extension} (λ e. e.until ≤ last_request_day) l.extensions;
}
