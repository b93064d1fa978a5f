-- The brief of a reachable pledge within the limits is within its limits.
use Rattle.pawn_debt.proofs.Bounds.{accepted-bounded}
use Rattle.pawn_pledge.specs.Brief.{IsBookingWithin, IsClosingWithin}
use Rattle.pawn_pledge.specs.Common.{last_request_day}
use Rattle.pawn_pledge.specs.Laws.{BriefIsWithin}
use Rattle.pawn_pledge.specs.Pledge.{PledgeValue, debt_of}
use Rattle.pawn_pledge.specs.Replayable.{IsBooked, IsClosed}
use Rattle.pawn_pledge.specs.declared.record.Booking.{Booking}
use Rattle.pawn_pledge.specs.declared.record.Closing.{Closing}
use Rattle.std.proofs.Common.{◌≤◌, Option, Some, None, arith, IfSome}

booked-within : (p : PledgeValue) (o : Option Booking) → IsBooked p o → IfSome o (λ (b : Booking). b.day ≤ last_request_day) → IfSome o IsBookingWithin
booked-within p None booked named = tt
booked-within p (Some b) booked named = (named, booked.2)

closed-within : (p : PledgeValue) (c : Closing) → IsClosed p c → p.standing.last ≤ last_request_day → IsClosingWithin c
closed-within p Closing.Open closed last = tt
closed-within p (Closing.Redeemed day paid) closed last = omega (arith, closed.0, last)
closed-within p (Closing.Sold day net) closed last = (omega (arith, closed.0, last), closed.2)

pub brief_is_within : BriefIsWithin
brief_is_within p h =
    let r = h.replayable in
    let bounded = accepted-bounded (debt_of p) h.terms r.credit.1 r.entered.accepted in
    let last = h.within.last in
    record {
      some = r.credit.0;
      credit = r.credit.1;
      terms = h.terms;
      taken = omega (arith, r.last_in, last);
      last = last;
      entries = h.within.entries;
      secrets = h.within.secrets;
      extensions = h.within.extensions;
      booking = booked-within p p.standing.booking r.booked h.within.booking;
      closing = closed-within p p.standing.closing r.closed last;
      totals = (
        omega (arith, r.entered.before, last),
        bounded.principal,
        omega (arith, bounded.millionths, r.entered.before, last),
      );
    }
