use Rattle.pawn_tables.proofs.OneHost.{tables_stand_for_one_host}
use Rattle.pawn_tables.proofs.laws.tables_stand_for_one.Goals as goal

pub returns : goal.returns
returns c = record { law = tables_stand_for_one_host }
