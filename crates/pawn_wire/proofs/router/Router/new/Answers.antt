use Rattle.pawn_wire.specs.Route.{with_routes, table_rows, table}
use Rattle.std.proofs.Common.{◌∙◌, ap}
use Rattle.pawn_wire.proofs.router.Router.new.Goals as goal

pub returns-in-Ok : goal.returns-in-Ok
unfolding table_rows
returns-in-Ok c = record { table = c.in-Ok.ensures.rows ∙ ap (with_routes table) c.new-routes.ensures }

pub invariant_of-result : goal.invariant_of-result
unfolding table_rows
invariant_of-result c = c.in-Ok.ensures.rows ∙ ap (with_routes table) c.new-routes.ensures
