-- The checks on `Parts` prove that a pledge can have the record.
use Rattle.pawn_base.proofs.ListLemmas.{DoNotFall-each, Each-map}
use Rattle.pawn_pledge.specs.Common.{AreEntriesAccepted, DebtValue, Each, Entry, IsChecked, IsDebtKept, Totals}
use Rattle.pawn_pledge.specs.Common.{credit_of, last_by, last_of, six_months}
use Rattle.pawn_pledge.specs.Limits.{grace_days}
use Rattle.pawn_pledge.specs.Parts.{AreIssuedIn, IsLimited, IsTyped}
use Rattle.pawn_pledge.specs.Pledge.{PledgeValue, debt_of, end_of, end_with, is_passed, is_small}
use Rattle.pawn_pledge.specs.Replayable.{AreExtended, AreNumbered, IsBooked, IsClosed, IsDrawnBy, IsNotPassed}
use Rattle.pawn_pledge.specs.Replayable.{IsReachable}
use Rattle.pawn_pledge.specs.declared.record.Issued.{Issued}
use Rattle.std.proofs.Common.{◌≡◌, ℕ, ◌+◌, ◌≤◌, ◌==◌, nat_le, Bool, true, false, ◌&&◌, if◌then◌else◌, List, [], ◌∷◌}
use Rattle.std.proofs.Common.{◌++◌, length, None, refl, sym, ◌∙◌, arith, length-append}
use Rattle.std.proofs.lemmas.Bool.{false≢true}
use Rattle.std.proofs.lemmas.Bool.Decides.{nat_tests}
use Rattle.pawn_pledge.specs.declared.record.Status.TheVariants as Status

-- if the property has not passed on a day, it had not passed before
early : (a b c d s : Bool) → (a ≡ true → c ≡ true) → (b ≡ true → d ≡ true)
    → is_passed (if a then Status.Inside else if b then Status.Grace else if s then Status.Passed else Status.Realisable) ≡ false
    → is_passed (if c then Status.Inside else if d then Status.Grace else if s then Status.Passed else Status.Realisable) ≡ false
early a b true d s f g h = refl
early a b false true s f g h = refl
early a b false false false f g h = refl
early true b false false true f g h = absurd (false≢true (f refl))
early false true false false true f g h = absurd (false≢true (g refl))
early false false false false true f g h = h

le_earlier : (d x e : ℕ) → d ≤ x → nat_le x e ≡ true → nat_le d e ≡ true
le_earlier d x e before h = grind (arith, nat_tests, before, h)

grace_earlier : (five : Bool) (d x e : ℕ) → d ≤ x → (five && nat_le x e) ≡ true → (five && nat_le d e) ≡ true
grace_earlier true d x e before h = le_earlier d x e before h
grace_earlier false d x e before h = h

pub not_passed-earlier : (p : PledgeValue) (d x : ℕ) → d ≤ x → IsNotPassed p x → IsNotPassed p d
not_passed-earlier p d x before h =
    early (nat_le x (end_of p)) (p.agreement.opening.five_days && nat_le x (end_of p + grace_days)) (nat_le d (end_of p)) (p.agreement.opening.five_days
    && nat_le d (end_of p + grace_days)) ((end_of p == six_months p.agreement.taken) && is_small (credit_of p.agreement.opening.kind))
    (le_earlier d x (end_of p) before) (grace_earlier p.agreement.opening.five_days d x (end_of p + grace_days) before) h

-- accepted entries are numbered
pub accepted-numbered : (d : DebtValue) (prior es : List Entry) (n : ℕ) → n ≡ length prior + 1 → AreEntriesAccepted d prior es → AreNumbered n es
accepted-numbered d prior [] n is h = tt
accepted-numbered d prior (e ∷ es) n is h = (
  h.0.0 ∙ sym is,
  accepted-numbered d (prior ++ e ∷ []) es (n + 1) (omega (arith, is, length-append prior (e ∷ []))) h.1,
)

-- what the checks prove
pub record IsFound (v : PledgeValue) (t : Totals) : Type 0 where
  pub terms : IsChecked v.agreement.terms
  pub typed : IsTyped v
  pub limited : IsLimited v
  pub taken : v.agreement.taken ≤ v.standing.last
  pub extended : AreExtended v.agreement.taken (end_with v.agreement None) v.extensions
      × (last_by (λ e. e.day) v.agreement.taken v.extensions ≤ v.standing.last)
  pub kept : IsDebtKept (debt_of v) t
  pub accepted : AreEntriesAccepted (debt_of v) [] v.entries
  pub entered : t.day ≤ v.standing.last
  pub drawn : Each (λ e. IsDrawnBy (end_of v) e.sort e.day) v.entries
  pub live : IsNotPassed v v.standing.last
  pub issued : AreIssuedIn v
  pub booked : IsBooked v v.standing.booking
  pub closed : IsClosed v v.standing.closing

pub stands : (v : PledgeValue) (t : Totals) → IsFound v t → IsReachable v
stands v t f =
    let before : last_of v.agreement.taken v.entries ≤ v.standing.last = omega (arith, f.kept.day, f.entered) in
    let days = DoNotFall-each (λ (e : Entry). e.day) v.agreement.taken v.agreement.taken v.standing.last v.entries (omega arith) f.kept.ordered before in
    let issues =
    DoNotFall-each (λ (i : Issued). i.day) v.agreement.taken v.agreement.taken v.standing.last v.secrets (omega arith) f.issued.ordered f.issued.before in
    record {
      terms = f.terms;
      replayable = record {
        credit = (f.limited.some, f.limited.credit);
        issued = record {
          sorts = f.issued.sorts;
          distinct = f.issued.distinct;
          ordered = f.issued.ordered;
          before = f.issued.before;
          not_passed = Each-map _ (λ (i : Issued). IsNotPassed v i.day) v.secrets (λ i k. not_passed-earlier v i.day v.standing.last k.1 f.live) issues;
        };
        entered = record {
          numbered = accepted-numbered (debt_of v) [] v.entries 1 (omega arith) f.accepted;
          ordered = f.kept.ordered;
          before = before;
          accepted = f.accepted;
          not_passed = Each-map _ (λ (e : Entry). IsNotPassed v e.day) v.entries (λ e k. not_passed-earlier v e.day v.standing.last k.1 f.live) days;
          drawn = f.drawn;
        };
        last_in = f.taken;
        last_open = f.live;
        closed = f.closed;
        booked = f.booked;
        extended = record { each = f.extended.0; before = f.extended.1 };
      };
      within = record {
        number = f.typed.number;
        opening = f.typed.opening;
        entries = f.kept.few;
        secrets = f.limited.secrets;
        extensions = f.limited.extensions;
        untils = f.limited.untils;
        booking = f.limited.booking;
        last = f.limited.last;
      };
    }
