-- What the pledges of a sound host are.
use Rattle.pawn_book.proofs.Sounds.{reachable_at}
use Rattle.pawn_debt.proofs.EntryLemmas.{due-from-last}
use Rattle.pawn_pledge.specs.Replayable.{IsReplayable, IsClosed}
use Rattle.pawn_view.specs.Common.{AreOrdered, Closing, Host, IsSound, Open, PledgeValue, Redeemed, Sold, brief_of}
use Rattle.pawn_view.specs.Common.{brief_owing, debt_of, due, last_of, owing_of}
use Rattle.pawn_view.specs.Shown.{open_or_last, pledge_at}
use Rattle.pawn_view.specs.Text.{shown_day}
use Rattle.std.proofs.Common.{◌≡◌, ◌∙◌, ℕ, ◌≤◌, arith, Some, sym, ap, subst, max}

-- what a statement rests on: the day that is shown, and what is owed on it
pub record IsOpeningDecodable (p : PledgeValue) : Type 0 where
  pub day : (day : ℕ)
      → max (open_or_last p.standing.closing p.standing.last day) (last_of p.agreement.taken p.entries) ≡ shown_day p.standing.closing p.standing.last day
  pub owing : (day : ℕ) → brief_owing (brief_of p) (shown_day p.standing.closing p.standing.last day) ≡ owing_of
      (due (debt_of p) (shown_day p.standing.closing p.standing.last day))

max_left : (a b : ℕ) → b ≤ a → max a b ≡ a
max_left a b le = omega arith

max_right_le : (a b c : ℕ) → c ≤ b → c ≤ max a b
max_right_le a b c le = omega arith

day_shown : (p : PledgeValue) (closing : Closing) (entered day : ℕ) → IsClosed p closing → entered ≤ p.standing.last
    → max (open_or_last closing p.standing.last day) entered ≡ shown_day closing p.standing.last day
day_shown p Open entered day is le = max_left (max day p.standing.last) entered (max_right_le day p.standing.last entered le)
day_shown p (Redeemed closed paid) entered day is le = max_left p.standing.last entered le ∙ sym is.0
day_shown p (Sold closed net) entered day is le = max_left p.standing.last entered le ∙ sym is.0

day_after : (p : PledgeValue) (closing : Closing) (entered day : ℕ) → IsClosed p closing → entered ≤ p.standing.last
    → entered ≤ shown_day closing p.standing.last day
day_after p Open entered day is le = max_right_le day p.standing.last entered le
day_after p (Redeemed closed paid) entered day is le = subst (λ (x : ℕ). entered ≤ x) (sym is.0) le
day_after p (Sold closed net) entered day is le = subst (λ (x : ℕ). entered ≤ x) (sym is.0) le

-- a brief owes what its pledge owes
brief_owes : (p : PledgeValue) (x : ℕ) → AreOrdered p.agreement.taken p.entries → last_of p.agreement.taken p.entries ≤ x
    → brief_owing (brief_of p) x ≡ owing_of (due (debt_of p) x)
brief_owes p x ordered le = ap owing_of (due-from-last (debt_of p) x ordered le)

pub told_of_sound : (h : Host) → IsSound h → (book number : ℕ) (p : PledgeValue) → pledge_at h book number ≡ Some p → IsOpeningDecodable p
told_of_sound h sound book number p is =
    let replayable : IsReplayable p = (reachable_at h book number p sound is).0.replayable in
    let entered : ℕ = last_of p.agreement.taken p.entries in
    record {
      day = λ day. day_shown p p.standing.closing entered day replayable.closed replayable.entered.before;
      owing = λ day. brief_owes p (shown_day p.standing.closing p.standing.last day) replayable.entered.ordered
          (day_after p p.standing.closing entered day replayable.closed replayable.entered.before);
    }
