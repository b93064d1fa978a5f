-- The checks on a record before a pledge is made of it.
use Rattle.pawn_pledge.specs.Common.{DoNotFall, Each, credit_of, last_by, last_request_day, most_pence}
use Rattle.pawn_pledge.specs.Limits.{most_secrets, most_extensions}
use Rattle.pawn_pledge.specs.Number.{IsNumber}
use Rattle.pawn_pledge.specs.Pledge.{PledgeValue}
use Rattle.pawn_pledge.specs.Replayable.{IsOpening, AreIssued, AreDistinctSecrets}
use Rattle.std.specs.Prelude.{◌≤◌, length, IfSome}

-- the limits that the types of the fields keep
pub record IsTyped (p : PledgeValue) : Type 0 where
  pub number : IsNumber p.agreement.number
  pub opening : IsOpening p.agreement.opening

-- the other limits, except that on the number of entries
pub record IsLimited (p : PledgeValue) : Type 0 where
  pub some : 1 ≤ credit_of p.agreement.opening.kind
  pub credit : credit_of p.agreement.opening.kind ≤ most_pence
  pub last : p.standing.last ≤ last_request_day
  pub secrets : length p.secrets ≤ most_secrets
  pub extensions : length p.extensions ≤ most_extensions
  pub untils : Each (λ e. e.until ≤ last_request_day) p.extensions
  pub booking : IfSome p.standing.booking (λ b. b.day ≤ last_request_day)

-- secrets that commands can have issued
pub record AreIssuedIn (p : PledgeValue) : Type 0 where
  pub sorts : AreIssued p.agreement.taken (credit_of p.agreement.opening.kind) p.secrets
  pub distinct : AreDistinctSecrets p.secrets
  pub ordered : DoNotFall (λ i. i.day) p.agreement.taken p.secrets
  pub before : last_by (λ i. i.day) p.agreement.taken p.secrets ≤ p.standing.last
