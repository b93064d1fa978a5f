use Rattle.pawn_opening.proofs.Creating.{first_made, last_made, next_made}
use Rattle.pawn_opening.proofs.laying.make_first_tables.Goals as goal

pub returns-clause-made : goal.returns-clause-made
returns-clause-made g c = let books = first_made c.in_ok-run.ensures.lent.leaves c.in_ok-run.ensures.ran in
    let terms = next_made books c.in_ok-run-2.ensures.lent.leaves c.in_ok-run-2.ensures.ran in
    let pledges = next_made terms c.in_ok-run-3.ensures.lent.leaves c.in_ok-run-3.ensures.ran in
    let entries = next_made pledges c.in_ok-run-4.ensures.lent.leaves c.in_ok-run-4.ensures.ran in
    let secrets = next_made entries c.in_ok-run-5.ensures.lent.leaves c.in_ok-run-5.ensures.ran in
    let bookings = next_made secrets c.in_ok-run-6.ensures.lent.leaves c.in_ok-run-6.ensures.ran in
    last_made bookings c.run-7.result c.run-7.ensures.lent.leaves c.run-7.ensures.ran
