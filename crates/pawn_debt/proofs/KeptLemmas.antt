-- The totals that a debt stores next to its entries stay right.
use Rattle.pawn_base.proofs.ListLemmas.{last_by-le, DoNotFall-push, last_by-push}
use Rattle.pawn_debt.proofs.EntryLemmas.{due-from-last, due-pushed, due-start, due-extended}
use Rattle.pawn_debt.specs.Answers.{with_entry}
use Rattle.pawn_debt.specs.Due.{DebtValue, Due, after_days, after_sort, credit_of, due, due_after, first_principal}
use Rattle.pawn_debt.specs.Due.{last_of}
use Rattle.pawn_debt.specs.Kept.{IsDebtKept, sums_of}
use Rattle.pawn_debt.specs.Limits.{most_a_day, most_entries, most_pence}
use Rattle.pawn_debt.specs.declared.entry.Entry.{Entry}
use Rattle.pawn_debt.specs.declared.entry.Sort.{Sort}
use Rattle.pawn_debt.specs.declared.owing.Totals.{Totals}
use Rattle.pawn_terms.specs.Calendar.{IsDayNumber}
use Rattle.std.proofs.Common.{◌≡◌, ℕ, ◌+◌, ◌-◌, ◌*◌, ◌<◌, ◌≤◌, List, [], ◌∷◌, ◌++◌, length, refl, sym, ap, subst, ◌∙◌}
use Rattle.std.proofs.Common.{arith, length-append}

-- what is owed on a later day; v is the value that a contract sees, and p what the fields hold
pub owed-later : (p v : DebtValue) (t : Totals) (x : ℕ) → IsDebtKept p t → p ≡ v → last_of v.taken v.entries ≤ x
    → after_days p.terms p.ends t.day (x - t.day) (sums_of t) ≡ due v x
owed-later p v t x h is late =
    let P : DebtValue → Type 0 = λ q. last_of q.taken q.entries ≤ x in
    let held : last_of p.taken p.entries ≤ x = subst P (sym is) late in
    ap (λ (o : Due). after_days p.terms p.ends t.day (x - t.day) o) h.owed
    ∙ ap (λ (y : ℕ). after_days p.terms p.ends y (x - y) (due p y)) h.day ∙ due-from-last p x h.ordered held ∙ ap (λ (q : DebtValue). due q x) is

-- the bound of the charges on a later day
pub millionths-later : (p v : DebtValue) (t : Totals) (x charges : ℕ) → IsDebtKept p t → p ≡ v → last_of v.taken v.entries ≤ x
    → charges ≤ t.millionths + (x - t.day) * most_a_day → charges ≤ (x - v.taken) * most_a_day
millionths-later p v t x charges h is late small =
    let P : DebtValue → Type 0 = λ q. last_of q.taken q.entries ≤ x in
    let Q : DebtValue → Type 0 = λ q. charges ≤ (x - q.taken) * most_a_day in
    let held : last_of p.taken p.entries ≤ x = subst P (sym is) late in
    let low = last_by-le (λ (e : Entry). e.day) p.taken p.entries h.ordered in
    let bound : Q p = omega (arith, small, h.millionths_in, h.day) in
    subst Q is bound

-- one more entry preserves all of `IsDebtKept`
pub IsKept-entry : (p : DebtValue) (t after : Totals) (sort : Sort) (pence : ℕ) → IsDebtKept p t → last_of p.taken p.entries ≤ after.day
    → length p.entries < most_entries → sums_of after ≡ after_sort sort pence (due p after.day) → after.principal ≤ most_pence
    → after.millionths ≤ (after.day - p.taken) * most_a_day → IsDayNumber after.day → IsDebtKept (with_entry p after.day sort pence) after
IsKept-entry p t after sort pence h late few owed principal charges day =
    let e : Entry = record { seq = length p.entries + 1; day = after.day; sort = sort; pence = pence } in
    let low = last_by-le (λ (e : Entry). e.day) p.taken p.entries h.ordered in
    record {
      ordered = DoNotFall-push (λ (e : Entry). e.day) p.taken p.entries e h.ordered late;
      day = sym (last_by-push (λ (e : Entry). e.day) p.taken p.entries e);
      owed = owed ∙ sym (due-pushed p e (omega arith));
      credit = h.credit;
      principal_in = principal;
      millionths_in = charges;
      taken_in = h.taken_in;
      day_in = day;
      few = omega (arith, length-append p.entries (e ∷ []));
    }

-- the entry that a call may add, in the terms of its contract
pub record CanEnter (v : DebtValue) (after : Totals) (sort : Sort) (pence : ℕ) : Type 0 where
  pub later : last_of v.taken v.entries ≤ after.day
  pub few : length v.entries < most_entries
  pub owed : sums_of after ≡ after_sort sort pence (due v after.day)
  pub principal_in : after.principal ≤ 100000000
  pub millionths_in : after.millionths ≤ (after.day - v.taken) * most_a_day
  pub in_range : IsDayNumber after.day

pub IsKept-enter : (p v : DebtValue) (t after : Totals) (sort : Sort) (pence n : ℕ) (es : List Entry) → IsDebtKept p t → p ≡ v → CanEnter v after sort pence
    → n ≡ length p.entries → es ≡ p.entries ++ record { seq = n + 1; day = after.day; sort = sort; pence = pence } ∷ []
    → IsDebtKept (record p { entries = es }) after
IsKept-enter p v t after sort pence n es h is can len entries =
    let P : DebtValue → Type 0 = λ q. CanEnter q after sort pence in
    let a = subst P (sym is) can in
    let kept = IsKept-entry p t after sort pence h a.later a.few a.owed a.principal_in a.millionths_in a.in_range in
    let K : List Entry → Type 0 = λ l. IsDebtKept (record p { entries = l }) after in
    let e : es ≡ p.entries ++ record { seq = length p.entries + 1; day = after.day; sort = sort; pence = pence } ∷ [] =
    entries ∙ ap (λ (k : ℕ). p.entries ++ record { seq = k + 1; day = after.day; sort = sort; pence = pence } ∷ []) len in
    subst K (sym e) kept

-- a debt with no entries
pub IsKept-start : (p : DebtValue) (principal : ℕ) → p.entries ≡ [] → principal ≡ first_principal p.kind → credit_of p.kind ≤ most_pence
    → first_principal p.kind ≤ credit_of p.kind → IsDayNumber p.taken → IsDebtKept p (record { day = p.taken; principal = principal; millionths = 0 })
IsKept-start p principal none first small low day =
    let start : due_after p 0 ≡ record { principal = first_principal p.kind; millionths = 0 } = due-start p none in
    record {
      ordered = rw none tt;
      day = rw none refl;
      owed = rw first (sym start ∙ ap (λ (m : ℕ). due_after p m) (omega arith));
      credit = small;
      principal_in = omega arith;
      millionths_in = omega arith;
      taken_in = day;
      day_in = day;
      few = rw none (omega arith);
    }

-- a longer period preserves `IsDebtKept`, if the last entry was in the old period
pub IsKept-extended : (p v : DebtValue) (t : Totals) (ends : ℕ) → IsDebtKept p t → p ≡ v → v.ends ≤ ends → last_of v.taken v.entries ≤ v.ends
    → IsDebtKept (record p { ends = ends }) t
IsKept-extended p v t ends h is later inside =
    let P : DebtValue → Type 0 = λ q. (q.ends ≤ ends) × (last_of q.taken q.entries ≤ q.ends) in
    let a : P p = subst P (sym is) (later, inside) in
    let low = last_by-le (λ (e : Entry). e.day) p.taken p.entries h.ordered in
    record {
      ordered = h.ordered;
      day = h.day;
      owed = h.owed ∙ sym (due-extended p ends t.day a.0 (omega (arith, h.day, a.1)) (omega (arith, h.day, low)));
      credit = h.credit;
      principal_in = h.principal_in;
      millionths_in = h.millionths_in;
      taken_in = h.taken_in;
      day_in = h.day_in;
      few = h.few;
    }

-- one more entry, as the code adds it
pub IsKept-next : (p : DebtValue) (t after : Totals) (e : Entry) (s : Sort) → IsDebtKept p t → t.day ≤ e.day → length p.entries < most_entries → e.sort ≡ s
    → after.day ≡ e.day → sums_of after ≡ after_sort s e.pence (due p e.day) → after.principal ≤ most_pence → after.millionths ≤ (e.day - p.taken) * most_a_day
    → IsDayNumber e.day → IsDebtKept (record p { entries = p.entries ++ e ∷ [] }) after
IsKept-next p t after e s h late few sort same owed principal charges day =
    let low = last_by-le (λ (e : Entry). e.day) p.taken p.entries h.ordered in
    let D : ℕ → Type 0 = λ x. IsDayNumber x in
    record {
      ordered = DoNotFall-push (λ (e : Entry). e.day) p.taken p.entries e h.ordered (omega (arith, h.day));
      day = same ∙ sym (last_by-push (λ (e : Entry). e.day) p.taken p.entries e);
      owed = owed ∙ ap (λ (k : Sort). after_sort k e.pence (due p e.day)) (sym sort) ∙ sym (due-pushed p e (omega (arith, h.day)))
          ∙ ap (λ (x : ℕ). due (record p { entries = p.entries ++ e ∷ [] }) x) (sym same);
      credit = h.credit;
      principal_in = principal;
      millionths_in = rw same charges;
      taken_in = h.taken_in;
      day_in = subst D (sym same) day;
      few = omega (arith, length-append p.entries (e ∷ []));
    }
