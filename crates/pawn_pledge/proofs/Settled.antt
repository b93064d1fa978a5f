-- Changes of only the `Standing` of a pledge, and what each of them preserves.
use Rattle.pawn_pledge.specs.Commands.{IsCommand}
use Rattle.pawn_pledge.specs.Common.{last_request_day}
use Rattle.pawn_pledge.specs.Limits.{last_window}
use Rattle.pawn_pledge.specs.Pledge.{PledgeValue}
use Rattle.pawn_pledge.specs.Replayable.{IsBooked, IsBookingOver, IsClosed, IsNotPassed, IsOverUnder}
use Rattle.pawn_pledge.specs.Words.{after_closing, booking_after, close, in_state, same_flag, with_booking}
use Rattle.pawn_pledge.specs.Words.{with_closing, with_hold, with_standing}
use Rattle.pawn_pledge.specs.declared.command.Command.{Command}
use Rattle.pawn_pledge.specs.declared.record.Booking.{Booking}
use Rattle.pawn_pledge.specs.declared.record.BookingState.{BookingState}
use Rattle.pawn_pledge.specs.declared.record.Closing.{Closing}
use Rattle.pawn_pledge.specs.declared.record.Standing.{Standing}
use Rattle.std.proofs.Common.{◌≡◌, ℕ, ◌≤◌, Bool, true, false, Option, Some, None, refl, sym, ap, subst, ◌∙◌, arith}
use Rattle.std.proofs.Common.{IfSome, true≢false}
use Rattle.std.proofs.lemmas.Bool.{false≢true}

-- no shared refusal applies to a command
pub record IsGated (p : PledgeValue) (x : ℕ) : Type 0 where
  pub later : p.standing.last ≤ x
  pub standing : p.standing.closing ≡ Closing.Open
  pub not_passed : IsNotPassed p x

-- a booking's day is one that a request can name
abbrev pub IsNamed : Option Booking → Type 0
IsNamed o = IfSome o (λ b. b.day ≤ last_request_day)

-- what a pledge with this `Standing` after a command on the day x preserves, and that its `Standing` was another before
pub record IsSettled (p : PledgeValue) (x : ℕ) (command : Command) (s : Standing) : Type 0 where
  pub last : s.last ≡ x
  pub closed : IsClosed (with_standing p s) s.closing
  pub booked : p.agreement.taken ≤ x → IsBooked p p.standing.booking → IsBooked (with_standing p s) s.booking
  pub named : IsCommand command → IsNamed p.standing.booking → IsNamed s.booking
  pub differs : s ≡ p.standing → ⊥

pub still-open : (p : PledgeValue) (c : Closing) → c ≡ Closing.Open → IsClosed p c
still-open p Closing.Open h = tt
still-open p (Closing.Redeemed day paid) h = cc
still-open p (Closing.Sold day net) h = cc

open-booked : (c : Closing) (s : BookingState) → c ≡ Closing.Open → IsOverUnder c s
open-booked Closing.Open s h = tt
open-booked (Closing.Redeemed day paid) s h = cc
open-booked (Closing.Sold day net) s h = cc

-- a hold that is set or ended
another_flag : (held flag : Bool) → same_flag held flag ≡ false → flag ≡ held → ⊥
another_flag true true h e = true≢false h
another_flag true false h e = false≢true e
another_flag false true h e = true≢false e
another_flag false false h e = true≢false h

pub hold-settles : (p : PledgeValue) (x : ℕ) (c : Command) (flag : Bool) → IsGated p x → same_flag p.standing.held flag ≡ false
    → IsSettled p x c (with_hold p.standing flag x)
hold-settles p x c flag g new = record {
  last = refl;
  closed = still-open (with_standing p (with_hold p.standing flag x)) p.standing.closing g.standing;
  booked = λ low h. h;
  named = λ given h. h;
  differs = λ e. another_flag p.standing.held flag new (ap (λ (s : Standing). s.held) e);
}

-- another booking than the one before
pub ask-settles : (p : PledgeValue) (x : ℕ) (c : Command) (b : Booking) → IsGated p x → x ≤ b.day → IsNotPassed p b.day → b.window ≤ last_window
    → (IsCommand c → b.day ≤ last_request_day) → (p.standing.booking ≡ Some b → ⊥) → IsSettled p x c (with_booking p.standing b x)
ask-settles p x c b g later live small named new = record {
  last = refl;
  closed = still-open (with_standing p (with_booking p.standing b x)) p.standing.closing g.standing;
  booked = λ low h. (omega (arith, low, later), live, small, open-booked p.standing.closing b.state g.standing);
  named = λ given h. named given;
  differs = λ e. new (sym (ap (λ (s : Standing). s.booking) e));
}

-- the same booking in another state
pub mark-settles : (p : PledgeValue) (x : ℕ) (c : Command) (b : Booking) (state : BookingState) → IsGated p x → p.standing.booking ≡ Some b
    → (b.state ≡ state → ⊥) → IsSettled p x c (with_booking p.standing (in_state b state) x)
mark-settles p x c b state g at new = record {
  last = refl;
  closed = still-open (with_standing p (with_booking p.standing (in_state b state) x)) p.standing.closing g.standing;
  booked = λ low h.
      let old : IsBooked p (Some b) = subst (λ (o : Option Booking). IsBooked p o) at h in
      (old.0, old.1, old.2, open-booked p.standing.closing state g.standing);
  named = λ given h. subst IsNamed at h;
  differs = λ e.
      let f : Some (in_state b state) ≡ Some b = ap (λ (s : Standing). s.booking) e ∙ at in
      let same : in_state b state ≡ b = cc in
      new (sym (ap (λ (k : Booking). k.state) same));
}

-- a closed pledge's booking
after_closing-over : (s : BookingState) → IsBookingOver (after_closing s)
after_closing-over BookingState.Refused = tt
after_closing-over other = tt

after_closing-under : (c : Closing) (s : BookingState) → IsOverUnder c (after_closing s)
after_closing-under Closing.Open s = tt
after_closing-under closed s = after_closing-over s

closed-booked : (p : PledgeValue) (c : Closing) (x : ℕ) (o : Option Booking) → IsBooked p o → IsBooked (close p x c) (booking_after o)
closed-booked p c x None h = tt
closed-booked p c x (Some b) h = (h.0, h.1, h.2, after_closing-under c b.state)

closed-named : (o : Option Booking) → IsNamed o → IsNamed (booking_after o)
closed-named None h = h
closed-named (Some b) h = h

pub close-settles : (p : PledgeValue) (x : ℕ) (c : Command) (closing : Closing) → IsGated p x → IsClosed (close p x closing) closing
    → (closing ≡ Closing.Open → ⊥) → IsSettled p x c (with_closing p.standing closing x)
close-settles p x c closing g closed shut = record {
  last = refl;
  closed = closed;
  booked = λ low h. closed-booked p closing x p.standing.booking h;
  named = λ given h. closed-named p.standing.booking h;
  differs = λ e. shut (ap (λ (s : Standing). s.closing) e ∙ g.standing);
}
