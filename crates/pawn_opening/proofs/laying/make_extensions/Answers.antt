use Rattle.pawn_opening.proofs.Creating.{adds_extensions}
use Rattle.pawn_opening.specs.Common.{state}
use Rattle.pawn_opening.proofs.laying.make_extensions.Goals as goal

pub returns-clause-made : goal.returns-clause-made
returns-clause-made g c = adds_extensions (state g.S.Store c.args.tx.now.conn.now) (state g.S.Store c.run.new.tx.conn.now) c.run.result c.run.ensures.ran
