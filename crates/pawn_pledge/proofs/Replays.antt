-- A step keeps a pledge reachable.
use Rattle.pawn_base.proofs.ListLemmas.{DoNotFall-each, DoNotFall-push, Each-all, Each-map, Each-push, grown}
use Rattle.pawn_base.proofs.ListLemmas.{last_by-push}
use Rattle.pawn_base.proofs.TestLemmas.{not_most, unequal}
use Rattle.pawn_debt.proofs.ReplayLemmas.{AreAccepted-ended, AreAccepted-push, AreInside-ordered}
use Rattle.pawn_pledge.proofs.Moves.{Move, Entering, Declaring, Extending, Settling}
use Rattle.pawn_pledge.proofs.Pushes.{AreIssued-push, AreDistinct-push, AreNumbered-push, later_of-le, later_of-push}
use Rattle.pawn_pledge.proofs.Pushes.{AreExtended-push}
use Rattle.pawn_pledge.proofs.Settled.{IsGated, still-open}
use Rattle.pawn_pledge.specs.Commands.{IsCommand}
use Rattle.pawn_pledge.specs.Common.{Draw, Entry, IsEntryAccepted, NoneApplies, Repay, Sort, credit_of, last_of}
use Rattle.pawn_pledge.specs.Common.{last_request_day, later_of, period_end, six_months, sort_answer, with_entry}
use Rattle.pawn_pledge.specs.Limits.{grace_days, most_secrets, small_credit}
use Rattle.pawn_pledge.specs.Pledge.{PledgeValue, debt_of, end_of, end_with, is_passed, is_small, last_until}
use Rattle.pawn_pledge.specs.Replayable.{IsBooked, IsClosed, IsDrawnBy, IsLaterIssue, IsNotPassed, IsOverUnder}
use Rattle.pawn_pledge.specs.Replayable.{IsReplayable, IsWithinLimits}
use Rattle.pawn_pledge.specs.Step.{declare_refusals}
use Rattle.pawn_pledge.specs.Words.{is_written, issue_of, new_entry, with_extension, with_last, with_secret}
use Rattle.pawn_pledge.specs.Words.{with_standing}
use Rattle.pawn_pledge.specs.declared.command.Command.{Command}
use Rattle.pawn_pledge.specs.declared.command.Paper.{Paper}
use Rattle.pawn_pledge.specs.declared.record.Booking.{Booking}
use Rattle.pawn_pledge.specs.declared.record.Closing.{Closing}
use Rattle.pawn_pledge.specs.declared.record.Extension.{Extension}
use Rattle.pawn_pledge.specs.declared.record.Issued.{Issued}
use Rattle.pawn_pledge.specs.declared.record.Standing.{Standing}
use Rattle.std.proofs.Common.{◌≡◌, ℕ, ◌+◌, ◌<◌, ◌≤◌, ◌==◌, nat_le, Bool, true, false, not, ◌&&◌, if◌then◌else◌, [], ◌∷◌}
use Rattle.std.proofs.Common.{◌++◌, length, Option, Some, None, Ok, refl, sym, ap, subst, ◌∙◌, arith, length-append}
use Rattle.std.proofs.Common.{true≢false}
use Rattle.std.proofs.lemmas.Bool.Decides.{nat_tests}
use Rattle.pawn_pledge.specs.declared.record.Status.TheVariants as Status

-- not passed, if the last case of the status is not
unpassed : (a b : Bool) → is_passed (if a then Status.Inside else if b then Status.Grace else Status.Realisable) ≡ false
unpassed true b = refl
unpassed false true = refl
unpassed false false = refl

-- a period that was made longer is never passed
pub longer-not_passed : (p : PledgeValue) (x : ℕ) → (end_of p == six_months p.agreement.taken) ≡ false → IsNotPassed p x
longer-not_passed p x h = rw h (unpassed (nat_le x (end_of p)) (p.agreement.opening.five_days && nat_le x (end_of p + grace_days)))

-- a change that no list depends on
pub stays-with_standing : (p : PledgeValue) (s : Standing) → IsReplayable p → p.standing.last ≤ s.last → IsNotPassed p s.last
    → IsClosed (with_standing p s) s.closing → IsBooked (with_standing p s) s.booking → IsReplayable (with_standing p s)
stays-with_standing p s h later live closed booked =
    record {
      credit = h.credit;
      issued = record {
        sorts = h.issued.sorts;
        distinct = h.issued.distinct;
        ordered = h.issued.ordered;
        before = omega (arith, h.issued.before, later);
        not_passed = h.issued.not_passed;
      };
      entered = record {
        numbered = h.entered.numbered;
        ordered = h.entered.ordered;
        before = omega (arith, h.entered.before, later);
        accepted = h.entered.accepted;
        not_passed = h.entered.not_passed;
        drawn = h.entered.drawn;
      };
      last_in = omega (arith, h.last_in, later);
      last_open = live;
      closed = closed;
      booked = booked;
      extended = record { each = h.extended.each; before = omega (arith, h.extended.before, later) };
    }

-- one more entry
pub stays-entered : (p : PledgeValue) (x pence : ℕ) (sort : Sort) → IsReplayable p → IsGated p x → sort_answer sort (debt_of p) x pence ≡ Ok
    (with_entry (debt_of p) x sort pence) → last_of p.agreement.taken p.entries ≤ x → IsDrawnBy (end_of p) sort x → IsReplayable
    (record p { entries = p.entries ++ record { seq = length p.entries + 1; day = x; sort = sort; pence = pence } ∷ []; standing = with_last p.standing x })
stays-entered p x pence sort h g ok late drawn =
    let e : Entry = record { seq = length p.entries + 1; day = x; sort = sort; pence = pence } in
    let q : PledgeValue = record p { entries = p.entries ++ e ∷ []; standing = with_last p.standing x } in
    let accepted : IsEntryAccepted (debt_of p) e = (refl, rw ok refl) in
    record {
      credit = h.credit;
      issued = record {
        sorts = h.issued.sorts;
        distinct = h.issued.distinct;
        ordered = h.issued.ordered;
        before = omega (arith, h.issued.before, g.later);
        not_passed = h.issued.not_passed;
      };
      entered = record {
        numbered = AreNumbered-push 1 p.entries e h.entered.numbered (omega arith);
        ordered = DoNotFall-push (λ (e : Entry). e.day) p.agreement.taken p.entries e h.entered.ordered late;
        before = omega (arith, last_by-push (λ (e : Entry). e.day) p.agreement.taken p.entries e);
        accepted = AreAccepted-push (debt_of p) [] p.entries e h.entered.accepted accepted;
        not_passed = Each-push (λ (f : Entry). IsNotPassed p f.day) p.entries e h.entered.not_passed g.not_passed;
        drawn = Each-push (λ (f : Entry). IsDrawnBy (end_of p) f.sort f.day) p.entries e h.entered.drawn drawn;
      };
      last_in = omega (arith, h.last_in, g.later);
      last_open = g.not_passed;
      closed = still-open q p.standing.closing g.standing;
      booked = h.booked;
      extended = record { each = h.extended.each; before = omega (arith, h.extended.before, g.later) };
    }

-- one more secret
small_enough : (n : ℕ) → not (nat_le n small_credit) ≡ false → n ≤ small_credit
small_enough n k = by (nat_le n small_credit) refl k where
  by : (b : Bool) → nat_le n small_credit ≡ b → not b ≡ false → n ≤ small_credit
  by true e k = grind (arith, nat_tests, e)
  by false e k = absurd (true≢false k)

later-issue : (p : PledgeValue) (paper : Paper) → (is_written paper && not (is_small (credit_of p.agreement.opening.kind))) ≡ false
    → IsLaterIssue (credit_of p.agreement.opening.kind) (issue_of paper)
later-issue p Paper.Written h = small_enough (credit_of p.agreement.opening.kind) h
later-issue p Paper.Sworn h = tt

pub stays-declared : (p : PledgeValue) (x word : ℕ) (paper : Paper) → IsReplayable p → IsGated p x → NoneApplies (declare_refusals p paper word)
    → IsReplayable (with_secret p (record { day = x; sort = issue_of paper; secret = word }))
stays-declared p x word paper h g ok =
    let i : Issued = record { day = x; sort = issue_of paper; secret = word } in
    let q : PledgeValue = with_secret p i in
    record {
      credit = h.credit;
      issued = record {
        sorts = AreIssued-push p.agreement.taken (credit_of p.agreement.opening.kind) p.secrets i h.issued.sorts (later-issue p paper ok.0);
        distinct = AreDistinct-push p.secrets i h.issued.distinct ok.1.1.0;
        ordered = DoNotFall-push (λ (j : Issued). j.day) p.agreement.taken p.secrets i h.issued.ordered (omega (arith, h.issued.before, g.later));
        before = omega (arith, last_by-push (λ (j : Issued). j.day) p.agreement.taken p.secrets i);
        not_passed = Each-push (λ (j : Issued). IsNotPassed p j.day) p.secrets i h.issued.not_passed g.not_passed;
      };
      entered = record {
        numbered = h.entered.numbered;
        ordered = h.entered.ordered;
        before = omega (arith, h.entered.before, g.later);
        accepted = h.entered.accepted;
        not_passed = h.entered.not_passed;
        drawn = h.entered.drawn;
      };
      last_in = omega (arith, h.last_in, g.later);
      last_open = g.not_passed;
      closed = still-open q p.standing.closing g.standing;
      booked = h.booked;
      extended = record { each = h.extended.each; before = omega (arith, h.extended.before, g.later) };
    }

-- a longer period
pub period_end-late : (taken : ℕ) (agreed extended : Option ℕ) → six_months taken ≤ period_end taken agreed extended
period_end-late taken agreed extended = omega (arith, later_of-le (six_months taken) agreed, later_of-le (later_of (six_months taken) agreed) extended)

booked-longer : (p q : PledgeValue) (o : Option Booking) → q.agreement.taken ≡ p.agreement.taken → q.standing.closing ≡ p.standing.closing
    → ((x : ℕ) → IsNotPassed q x) → IsBooked p o → IsBooked q o
booked-longer p q None taken closing any h = tt
booked-longer p q (Some b) taken closing any h =
    let C : Closing → Type 0 = λ c. IsOverUnder c b.state in
    (omega (arith, taken, h.0), any b.day, h.2, subst C (sym closing) h.3)

drawn-inside : (p : PledgeValue) (ends : ℕ) (s : Sort) (day : ℕ) → day ≤ ends → IsDrawnBy ends s day
drawn-inside p ends Draw day h = h
drawn-inside p ends Repay day h = tt

pub stays-extended : (p : PledgeValue) (x until : ℕ) → IsReplayable p → IsGated p x → x ≤ end_of p → end_of p < until
    → IsReplayable (with_extension p (record { day = x; until = until }))
stays-extended p x until h g inside longer =
    let e : Extension = record { day = x; until = until } in
    let q : PledgeValue = with_extension p e in
    let ends : end_of q ≡ until = later_of-push (end_with p.agreement None) p.extensions e longer in
    let later : end_of p ≤ end_of q = omega (arith, ends, longer) in
    let six : six_months p.agreement.taken ≤ end_of p = period_end-late p.agreement.taken p.agreement.opening.agreed (last_until p.extensions) in
    let past : six_months p.agreement.taken < end_of q = omega (arith, ends, longer, six) in
    let any : (y : ℕ) → IsNotPassed q y = λ y. longer-not_passed q y (unequal (end_of q) (six_months p.agreement.taken) past) in
    let days = DoNotFall-each (λ (f : Entry). f.day) p.agreement.taken p.agreement.taken (end_of p) p.entries (omega arith) h.entered.ordered
    (omega (arith, h.entered.before, g.later, inside)) in
    record {
      credit = h.credit;
      issued = record {
        sorts = h.issued.sorts;
        distinct = h.issued.distinct;
        ordered = h.issued.ordered;
        before = omega (arith, h.issued.before, g.later);
        not_passed = Each-all (λ (j : Issued). IsNotPassed q j.day) p.secrets (λ j. any j.day);
      };
      entered = record {
        numbered = h.entered.numbered;
        ordered = h.entered.ordered;
        before = omega (arith, h.entered.before, g.later);
        accepted = AreAccepted-ended (debt_of p) (end_of q) [] p.entries later (AreInside-ordered (debt_of p) p.agreement.taken p.entries
            (omega arith) h.entered.ordered (omega (arith, h.entered.before, g.later, inside))) h.entered.accepted;
        not_passed = Each-all (λ (f : Entry). IsNotPassed q f.day) p.entries (λ f. any f.day);
        drawn = Each-map _ (λ (f : Entry). IsDrawnBy (end_of q) f.sort f.day) p.entries
            (λ f k. drawn-inside p (end_of q) f.sort f.day (omega (arith, k.1, later))) days;
      };
      last_in = omega (arith, h.last_in, g.later);
      last_open = any x;
      closed = still-open q p.standing.closing g.standing;
      booked = booked-longer p q p.standing.booking refl refl any h.booked;
      extended = record {
        each = AreExtended-push p.agreement.taken (end_with p.agreement None) p.extensions e h.extended.each
            (omega (arith, h.extended.before, g.later)) inside longer;
        before = omega (arith, last_by-push (λ (k : Extension). k.day) p.agreement.taken p.extensions e);
      };
    }

-- the same for every move
pub stays-moved : (p q : PledgeValue) (c : Command) (w x : ℕ) → IsReplayable p → IsGated p x → Move p x w c q → IsReplayable q
stays-moved p q c w x h g (Entering sort pence ok late few drawn is) = subst IsReplayable (sym is) (stays-entered p x pence sort h g ok late drawn)
stays-moved p q c w x h g (Declaring paper ok is) = subst IsReplayable (sym is) (stays-declared p x w paper h g ok)
stays-moved p q c w x h g (Settling s to is) =
    subst IsReplayable (sym is) (stays-with_standing p s h (omega (arith, to.last, g.later)) (subst (IsNotPassed p) (sym to.last) g.not_passed) to.closed
    (to.booked (omega (arith, h.last_in, g.later)) h.booked))
stays-moved p q c w x h g (Extending until inside longer few named is) = subst IsReplayable (sym is) (stays-extended p x until h g inside longer)

-- a move keeps the limits
pub within-moved : (p q : PledgeValue) (c : Command) (w x : ℕ) → x ≤ last_request_day → IsCommand c → IsWithinLimits p → Move p x w c q → IsWithinLimits q
within-moved p q c w x stamped given h (Entering sort pence ok late few drawn is) =
    subst IsWithinLimits (sym is) (record {
      number = h.number;
      opening = h.opening;
      entries = omega (arith, few, length-append p.entries (new_entry p x sort pence ∷ []));
      secrets = h.secrets;
      extensions = h.extensions;
      untils = h.untils;
      booking = h.booking;
      last = stamped;
    })
within-moved p q c w x stamped given h (Declaring paper ok is) =
    let i : Issued = record { day = x; sort = issue_of paper; secret = w } in
    subst IsWithinLimits (sym is) (record {
      number = h.number;
      opening = h.opening;
      entries = h.entries;
      secrets = omega (arith, not_most most_secrets (length p.secrets) ok.1.0, length-append p.secrets (i ∷ []));
      extensions = h.extensions;
      untils = h.untils;
      booking = h.booking;
      last = stamped;
    })
within-moved p q c w x stamped given h (Settling s to is) =
    subst IsWithinLimits (sym is) (record {
      number = h.number;
      opening = h.opening;
      entries = h.entries;
      secrets = h.secrets;
      extensions = h.extensions;
      untils = h.untils;
      booking = to.named given h.booking;
      last = omega (arith, to.last, stamped);
    })
within-moved p q c w x stamped given h (Extending until inside longer few named is) =
    let e : Extension = record { day = x; until = until } in
    subst IsWithinLimits (sym is) (record {
      number = h.number;
      opening = h.opening;
      entries = h.entries;
      secrets = h.secrets;
      extensions = omega (arith, few, length-append p.extensions (e ∷ []));
      untils = Each-push (λ (k : Extension). k.until ≤ last_request_day) p.extensions e h.untils (named given);
      booking = h.booking;
      last = stamped;
    })

-- a pledge differs after a move
pub differs-moved : (p q : PledgeValue) (c : Command) (w x : ℕ) → IsGated p x → Move p x w c q → q ≡ p → ⊥
differs-moved p q c w x g (Entering sort pence ok late few drawn is) same =
    grown p.entries (record { seq = length p.entries + 1; day = x; sort = sort; pence = pence }) (ap (λ (v : PledgeValue). v.entries) (sym is ∙ same))
differs-moved p q c w x g (Declaring paper ok is) same =
    grown p.secrets (record { day = x; sort = issue_of paper; secret = w }) (ap (λ (v : PledgeValue). v.secrets) (sym is ∙ same))
differs-moved p q c w x g (Settling s to is) same = to.differs (ap (λ (v : PledgeValue). v.standing) (sym is ∙ same))
differs-moved p q c w x g (Extending until inside longer few named is) same =
    grown p.extensions (record { day = x; until = until }) (ap (λ (v : PledgeValue). v.extensions) (sym is ∙ same))
