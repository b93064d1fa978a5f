-- A new pledge is reachable.
use Rattle.pawn_base.proofs.RefusalLemmas.{first_of-ok}
use Rattle.pawn_base.proofs.TestLemmas.{not_below}
use Rattle.pawn_pledge.proofs.Replays.{period_end-late}
use Rattle.pawn_pledge.specs.Common.{BadAmount, credit_of, is_bad_amount, most_pence}
use Rattle.pawn_pledge.specs.Laws.{StartsReachable}
use Rattle.pawn_pledge.specs.Pledge.{PledgeValue, end_of}
use Rattle.pawn_pledge.specs.Replayable.{IsNotPassed, IsReachable}
use Rattle.pawn_pledge.specs.Step.{IsStarted}
use Rattle.pawn_pledge.specs.declared.refusal.Refusal.{Refusal}
use Rattle.pawn_terms.proofs.SixMonths.{six_months-later}
use Rattle.std.proofs.Common.{◌≡◌, ℕ, ◌≤◌, ◌==◌, nat_lt, nat_le, true, false, [], ◌∷◌, None, Result, Ok, Err, refl}
use Rattle.std.proofs.Common.{subst, arith, IfOk}
use Rattle.std.proofs.lemmas.Bool.{or_parts}
use Rattle.std.proofs.lemmas.Bool.Decides.{nat_tests}
use Rattle.pawn_pledge.specs.declared.record.Issue.TheVariants as Issue
use Rattle.pawn_pledge.specs.declared.record.Closing.TheVariants as Closing

inside-not_passed : (p : PledgeValue) (x : ℕ) → x ≤ end_of p → IsNotPassed p x
inside-not_passed p x h = let t : nat_le x (end_of p) ≡ true = grind (arith, nat_tests, h) in rw t refl

good_amount : (n : ℕ) → is_bad_amount n ≡ false → (1 ≤ n) × (n ≤ most_pence)
good_amount n h =
    let a = or_parts (n == 0) (nat_lt most_pence n) h in
    (grind (arith, nat_tests, a), not_below most_pence n a.1)

pub starts_reachable : StartsReachable
starts_reachable number opening version terms stamp p known within checked day h =
    let first : PledgeValue = record {
      agreement = record { number = number; opening = opening; taken = stamp.day; version = version; terms = terms };
      entries = [];
      secrets = record { day = stamp.day; sort = Issue.Opening; secret = stamp.word } ∷ [];
      extensions = [];
      standing = record { held = false; booking = None; last = stamp.day; closing = Closing.Open };
    } in
    let a = first_of-ok ((is_bad_amount (credit_of opening.kind), Refusal.Debt BadAmount) ∷ []) (Ok first) p h in
    let is : first ≡ p = cc in
    let live : IsNotPassed first stamp.day =
    inside-not_passed first stamp.day (omega (arith, six_months-later stamp.day day, period_end-late stamp.day opening.agreed None)) in
    subst IsReachable is (record {
      terms = checked;
      replayable = record {
        credit = good_amount (credit_of opening.kind) a.0.0;
        issued = record { sorts = (refl, refl, tt); distinct = (refl, tt); ordered = (omega arith, tt); before = omega arith; not_passed = (live, tt) };
        entered = record { numbered = tt; ordered = tt; before = omega arith; accepted = tt; not_passed = tt; drawn = tt };
        last_in = omega arith;
        last_open = live;
        closed = tt;
        booked = tt;
        extended = record { each = tt; before = omega arith };
      };
      within = record {
        number = known;
        opening = within;
        entries = omega arith;
        secrets = omega arith;
        extensions = omega arith;
        untils = tt;
        booking = tt;
        last = day.1;
      };
    })

-- a new pledge is reachable and within the limits
pub started_stands : (answer result : Result PledgeValue Refusal) → IsStarted answer result → ((p : PledgeValue) → answer ≡ Ok p → IsReachable p)
    → IfOk result IsReachable
started_stands answer (Ok p) is stands = stands p is
started_stands answer (Err fault) is stands = tt
