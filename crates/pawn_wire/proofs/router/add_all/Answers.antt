use Rattle.pawn_wire.proofs.RouteLemmas.{with_routes_more}
use Rattle.pawn_wire.proofs.router.add_all.Goals as goal

pub loop-text-preserved : goal.loop-text-preserved
loop-text-preserved c = with_routes_more c.args.table.now c.loop-text.text-index _ c.args.routes.now c.loop-text.routes c.insert.new.self c.loop-text-test.true
    c.loop-text.invariant c.in_ok-insert.ensures
