-- A pledge as its record, and what is computed from it: the end of its period, its debt, its status, its live secret.
use Rattle.pawn_pledge.specs.Common.{DebtValue, credit_of, due, period_end, six_months, total_of}
use Rattle.pawn_pledge.specs.Limits.{grace_days, small_credit}
use Rattle.pawn_pledge.specs.declared.parts.Parts.{Parts}
use Rattle.pawn_pledge.specs.declared.record.Agreement.{Agreement}
use Rattle.pawn_pledge.specs.declared.record.Closing.{Closing}
use Rattle.pawn_pledge.specs.declared.record.Extension.{Extension}
use Rattle.pawn_pledge.specs.declared.record.Issued.{Issued}
use Rattle.pawn_pledge.specs.declared.record.Status.{Status}
use Rattle.std.specs.Prelude.{ℕ, ◌+◌, ◌-◌, nat_le, ◌&&◌, ◌==◌, Bool, true, false, if◌then◌else◌, List, length}
use Rattle.std.specs.Prelude.{slice_get, Option, None, option_map}

-- the last element of a list, if there is one
abbrev pub last_element : {A : Type 0} → List A → Option A
last_element xs = slice_get xs (length xs - 1)

-- the value of a pledge is its record: its agreement, its lists, and the part that later commands replace
abbrev pub PledgeValue : Type 0
PledgeValue = Parts

-- the end of the period, given the end of the last extension, if there is one
abbrev pub end_with : Agreement → Option ℕ → ℕ
end_with a extended = period_end a.taken a.opening.agreed extended

-- the end of the last extension, if there is one
abbrev pub last_until : List Extension → Option ℕ
last_until extensions = option_map (λ e. e.until) (last_element extensions)

-- the end of the period
abbrev pub end_of : PledgeValue → ℕ
end_of p = end_with p.agreement (last_until p.extensions)

-- the credit is small
abbrev pub is_small : ℕ → Bool
is_small pence = nat_le pence small_credit

-- the debt on the pledge
abbrev pub debt_of : PledgeValue → DebtValue
debt_of p =
    let a = p.agreement in
    record { kind = a.opening.kind; terms = a.terms; taken = a.taken; ends = end_of p; entries = p.entries }

-- the sum owed on a day, in whole pence
abbrev pub total_on : PledgeValue → ℕ → ℕ
total_on p x = total_of (due (debt_of p) x)

-- the status of a pledge on a day, if it is not closed, by the end of its period; the property passes if the period is
-- six months and the credit is small
abbrev pub status_by : Agreement → ℕ → ℕ → Status
status_by a ends x =
    if nat_le x ends then Status.Inside
    else if a.opening.five_days && nat_le x (ends + grace_days) then Status.Grace
    else if (ends == six_months a.taken) && is_small (credit_of a.opening.kind) then Status.Passed
    else Status.Realisable

-- the status of a pledge on a day, if it is not closed
abbrev pub open_status : PledgeValue → ℕ → Status
open_status p x = status_by p.agreement (end_of p) x

-- the property has passed to the broker
abbrev pub is_passed : Status → Bool
is_passed Status.Passed = true
is_passed other = false

-- the broker may sell the article
abbrev pub is_realisable : Status → Bool
is_realisable Status.Realisable = true
is_realisable other = false

-- the status with a closing, given the status without one
abbrev pub status_under : Closing → Status → Status
status_under Closing.Open status = status
status_under (Closing.Redeemed day paid) status = Status.Redeemed
status_under (Closing.Sold day net) status = Status.Sold

-- the status of a pledge on a day
abbrev pub status_of : PledgeValue → ℕ → Status
status_of p x = status_under p.standing.closing (open_status p x)

-- the last secret that was issued
abbrev pub last_secret : List Issued → Option ℕ
last_secret secrets = option_map (λ issued. issued.secret) (last_element secrets)

-- the live secret with a closing: none after a redemption
abbrev pub live_under : Closing → Option ℕ → Option ℕ
live_under Closing.Open secret = secret
live_under (Closing.Redeemed day paid) secret = None
live_under (Closing.Sold day net) secret = secret

-- the live secret: the last one that was issued, until the pledge is redeemed
abbrev pub live_of : PledgeValue → Option ℕ
live_of p = live_under p.standing.closing (last_secret p.secrets)
