use Rattle.pawn_saving.proofs.Basics.{clean_before}
use Rattle.pawn_saving.proofs.Hosting.{recounted}
use Rattle.pawn_saving.proofs.Writing.{arith, refl, rules, subst, sym, ◌+◌, ◌<◌, ◌^◌, state}
use Rattle.pawn_saving.specs.Counted.{ListsHost}
use Rattle.pawn_saving.proofs.counting.count_within.Goals as goal
use Rattle.pawn_tables.specs.StandsFor.{listed_as}

pub returns-clause-counts : goal.returns-clause-counts
returns-clause-counts g c clean within h counted below lists = let new = state g.S.Store c.count_up.new.tx.conn.now in
    let clean1 = clean_before _ _ _ c.count_up.ensures.lent.leaves clean in
    let found = c.in_ok-limit.ensures.found clean1 within (listed_as h counted) counted h.limit refl lists in
    let lists1 = subst (λ d. ListsHost d h counted) (sym found.1.now_is) lists in let is = found.0 in let few = c.in_ok-limit.ensures.in_range in
    let by_fits = c.ranges.by.fits in let fits : counted + c.args.by < 2 ^ 63 = omega (arith, below, is, few, by_fits) in
    let two = c.in_ok-counted.ensures.wrote clean found.1.inside (listed_as h counted) counted h.limit refl fits lists1 in
    let told = two.0 in
    (search (rules, told, is), recounted new.now h counted (counted + c.args.by) _ told two.1)
