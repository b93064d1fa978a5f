use Rattle.pawn_wire.specs.Route.{with_routes, plain}
use Rattle.std.proofs.Common.{◌≡◌, map, take}
use Rattle.pawn_wire.proofs.router.add_all.Given as goal

abbrev pub invariant-loop-text : goal.invariant-loop-text
invariant-loop-text l = l.routes ≡ with_routes (map plain (take l.text-index l.table)) l.fn.routes
