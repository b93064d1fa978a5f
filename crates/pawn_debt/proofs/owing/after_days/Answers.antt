use Rattle.pawn_debt.proofs.DueLemmas.{days_inside, after_days-is}
use Rattle.std.proofs.Common.{◌≡◌, ◌-◌, arith}
use Rattle.pawn_debt.proofs.owing.after_days.Goals as goal

pub returns-clause-owed : goal.returns-clause-owed
returns-clause-owed c =
    let days : c.count.result - c.count-start.result ≡ c.args.day - c.args.totals.now.day = omega arith in
    let inside : c.saturating_sub-inside.result ≡ days_inside c.args.ends c.args.totals.now.day (c.args.day - c.args.totals.now.day) = omega arith in
    after_days-is _ _ _ _ _ _ (rw (days, inside, c.rates-rates.ensures.value) (omega arith))
