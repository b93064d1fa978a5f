use Rattle.pawn_opening.proofs.Creating.{all_made}
use Rattle.pawn_opening.proofs.laying.make_tables.Goals as goal

pub returns-clause-made : goal.returns-clause-made
returns-clause-made g c = all_made c.make_extensions.result c.in_ok-make_first_tables.ensures.lent.leaves c.in_ok-make_totals.ensures.lent.leaves
    c.make_extensions.ensures.lent.leaves c.in_ok-make_first_tables.ensures.made c.in_ok-make_totals.ensures.made c.make_extensions.ensures.made
