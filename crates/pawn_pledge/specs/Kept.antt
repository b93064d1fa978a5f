-- The invariant of the fields of a pledge.
use Rattle.pawn_pledge.specs.Common.{DebtValue, last_of, last_request_day}
use Rattle.pawn_pledge.specs.Limits.{most_secrets}
use Rattle.pawn_pledge.specs.Pledge.{PledgeValue, debt_of}
use Rattle.std.specs.Prelude.{◌≡◌, ◌≤◌, length}

-- the debt is that of the record, the last change is not before the last entry, and there is at least one secret
pub record IsPledgeKept (p : PledgeValue) (d : DebtValue) : Type 0 where
  pub debt : d ≡ debt_of p
  pub taken_in : p.agreement.taken ≤ last_request_day
  pub last_in : last_of p.agreement.taken p.entries ≤ p.standing.last
  pub some : 1 ≤ length p.secrets
  pub few : length p.secrets ≤ most_secrets
