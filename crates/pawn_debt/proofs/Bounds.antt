-- The sum owed after accepted entries is within its bounds.
use Rattle.pawn_base.proofs.ListLemmas.{DoNotFall-push, last_by-le, last_by-push}
use Rattle.pawn_base.proofs.RefusalLemmas.{first_of-is_ok}
use Rattle.pawn_debt.proofs.DueLemmas.{after_days-principal}
use Rattle.pawn_debt.proofs.EntryLemmas.{due-from-last, due-pushed, due-start, pushed}
use Rattle.pawn_debt.specs.Answers.{draw_refusals, repay_refusals, with_entry}
use Rattle.pawn_debt.specs.Due.{AreOrdered, DebtValue, Due, after_days, after_sort, credit_of, due, due_after}
use Rattle.pawn_debt.specs.Due.{first_principal, keep_on, last_of}
use Rattle.pawn_debt.specs.Limits.{most_a_day, most_pence}
use Rattle.pawn_debt.specs.Replay.{AreEntriesAccepted, IsEntryAccepted, sort_answer}
use Rattle.pawn_debt.specs.declared.entry.Entry.{Entry}
use Rattle.pawn_debt.specs.declared.entry.Kind.{Kind}
use Rattle.pawn_debt.specs.declared.entry.Kind.TheVariants.{Fixed, Running}
use Rattle.pawn_debt.specs.declared.entry.Sort.{Sort}
use Rattle.pawn_debt.specs.declared.entry.Sort.TheVariants.{Draw, Repay}
use Rattle.pawn_terms.specs.Terms.{IsChecked}
use Rattle.pawn_terms.specs.declared.terms.Rates.{Rates}
use Rattle.std.proofs.Common.{◌≡◌, ℕ, zero, suc, ◌+◌, ◌-◌, ◌*◌, ◌≤◌, nat_lt, nat_le, Bool, true, false, if◌then◌else◌}
use Rattle.std.proofs.Common.{List, [], ◌∷◌, ◌++◌, Ok, IsOk, refl, sym, ap, subst, ◌∙◌, arith, append_assoc, append-nil}
use Rattle.std.proofs.lemmas.Bool.Decides.{nat_tests}
use Rattle.std.proofs.lemmas.Nat.{mul-le}

pub keep-small : (t : Rates) (ends x : ℕ) → IsChecked t → keep_on t ends x ≤ 10000000
keep-small t ends x h = from (nat_le x ends) where
  from : (b : Bool) → (if b then t.keep_before else t.keep_after) ≤ 10000000
  from true = h.1
  from false = omega (arith, h.1, h.2)

-- a day adds at most `most_a_day`
pub after_days-small : (t : Rates) (ends x n : ℕ) (o : Due) → IsChecked t → o.principal ≤ most_pence
    → (after_days t ends x n o).millionths ≤ o.millionths + n * most_a_day
unfolding after_days
after_days-small t ends x zero o h small = omega arith
after_days-small t ends x (suc n) o h small =
    let less = after_days-small t ends x n o h small in
    let same = after_days-principal t ends x n o in
    let interest : (after_days t ends x n o).principal * t.rate ≤ 100000000 * 20000 = mul-le _ _ 100000000 20000 (omega (arith, same, small)) h.0 in
    let keep = keep-small t ends (x + suc n) h in
    omega (arith, less, interest, keep)

-- the sum owed on the day x is within its bounds
pub record IsBounded (p : DebtValue) (x : ℕ) : Type 0 where
  pub principal : (due p x).principal ≤ most_pence
  pub millionths : (due p x).millionths ≤ (x - p.taken) * most_a_day

-- the bounds that a list of entries preserves
record IsRunning (p : DebtValue) : Type 0 where
  ordered : AreOrdered p.taken p.entries
  bounded : IsBounded p (last_of p.taken p.entries)

later-bounded : (p : DebtValue) (x : ℕ) → IsChecked p.terms → IsRunning p → last_of p.taken p.entries ≤ x → IsBounded p x
later-bounded p x h r late =
    let last = last_of p.taken p.entries in
    let low = last_by-le (λ (e : Entry). e.day) p.taken p.entries r.ordered in
    let e = due-from-last p x r.ordered late in
    let same = after_days-principal p.terms p.ends last (x - last) (due p last) in
    let small = after_days-small p.terms p.ends last (x - last) (due p last) h r.bounded.principal in
    record {
      principal = omega (arith, ap (λ (o : Due). o.principal) e, same, r.bounded.principal);
      millionths = omega (arith, ap (λ (o : Due). o.millionths) e, small, r.bounded.millionths, low, late);
    }

-- an accepted entry preserves the bounds of the sum owed before it
entered-bounded : (p : DebtValue) (s : Sort) (x pence : ℕ) → credit_of p.kind ≤ most_pence → IsBounded p x → IsOk (sort_answer s p x pence)
    → ((after_sort s pence (due p x)).principal ≤ most_pence) × ((after_sort s pence (due p x)).millionths ≤ (x - p.taken) * most_a_day)
    × (last_of p.taken p.entries ≤ x)
entered-bounded p Draw x pence credit b h =
    let a = first_of-is_ok (draw_refusals p x pence) (Ok (with_entry p x Draw pence)) h in
    let over : nat_lt (credit_of p.kind) ((due p x).principal + pence) ≡ false = a.0.1.1.1.1.0 in
    let under : (due p x).principal + pence ≤ credit_of p.kind = grind (arith, nat_tests, over) in
    let early : nat_lt x (last_of p.taken p.entries) ≡ false = a.0.0 in
    (omega (arith, under, credit), b.millionths, grind (arith, nat_tests, early))
entered-bounded p Repay x pence credit b h =
    let a = first_of-is_ok (repay_refusals p x pence) (Ok (with_entry p x Repay pence)) h in
    let early : nat_lt x (last_of p.taken p.entries) ≡ false = a.0.0 in
    (omega (arith, b.principal), omega (arith, b.millionths), grind (arith, nat_tests, early))

next-running : (p : DebtValue) (e : Entry) → IsChecked p.terms → credit_of p.kind ≤ most_pence → IsRunning p → IsEntryAccepted p e → IsRunning (pushed p e)
next-running p e h credit r ok =
    let low = last_by-le (λ (e : Entry). e.day) p.taken p.entries r.ordered in
    let late = late_of p e.sort e.day e.pence ok.1 in
    let a = entered-bounded p e.sort e.day e.pence credit (later-bounded p e.day h r late) ok.1 in
    let after = due-pushed p e (omega (arith, low, late)) in
    let B : ℕ → Type 0 = λ x. IsBounded (pushed p e) x in
    record {
      ordered = DoNotFall-push (λ (e : Entry). e.day) p.taken p.entries e r.ordered late;
      bounded = subst B (sym (last_by-push (λ (e : Entry). e.day) p.taken p.entries e)) (record {
        principal = omega (arith, ap (λ (o : Due). o.principal) after, a.0);
        millionths = omega (arith, ap (λ (o : Due). o.millionths) after, a.1);
      });
    } where
      late_of : (p : DebtValue) (s : Sort) (x pence : ℕ) → IsOk (sort_answer s p x pence) → last_of p.taken p.entries ≤ x
      late_of p Draw x pence h =
          let a = first_of-is_ok (draw_refusals p x pence) (Ok (with_entry p x Draw pence)) h in
          let early : nat_lt x (last_of p.taken p.entries) ≡ false = a.0.0 in
          grind (arith, nat_tests, early)
      late_of p Repay x pence h =
          let a = first_of-is_ok (repay_refusals p x pence) (Ok (with_entry p x Repay pence)) h in
          let early : nat_lt x (last_of p.taken p.entries) ≡ false = a.0.0 in
          grind (arith, nat_tests, early)

all-running : (d : DebtValue) (prior es : List Entry) → IsChecked d.terms → credit_of d.kind ≤ most_pence → IsRunning (record d { entries = prior })
    → AreEntriesAccepted d prior es → IsRunning (record d { entries = prior ++ es })
all-running d prior [] h credit r ok =
    let R : List Entry → Type 0 = λ l. IsRunning (record d { entries = l }) in
    subst R (sym (append-nil prior)) r
all-running d prior (e ∷ es) h credit r ok =
    let R : List Entry → Type 0 = λ l. IsRunning (record d { entries = l }) in
    subst R (append_assoc prior (e ∷ []) es) (all-running d (prior ++ e ∷ []) es h credit (next-running (record d { entries = prior }) e h credit r ok.0) ok.1)

first-low : (k : Kind) → first_principal k ≤ credit_of k
first-low (Fixed sum) = omega arith
first-low (Running limit) = omega arith

none-running : (d : DebtValue) → credit_of d.kind ≤ most_pence → first_principal d.kind ≤ credit_of d.kind → IsRunning (record d { entries = [] })
none-running d credit low =
    let start : due (record d { entries = [] }) d.taken ≡ record { principal = first_principal d.kind; millionths = 0 } =
    ap (λ (m : ℕ). due_after (record d { entries = [] }) m) (omega arith) ∙ due-start (record d { entries = [] }) refl in
    record {
      ordered = tt;
      bounded = record {
        principal = omega (arith, ap (λ (o : Due). o.principal) start, credit, low);
        millionths = omega (arith, ap (λ (o : Due). o.millionths) start);
      };
    }

-- a debt whose entries were accepted in turn is within the bounds on the day of the last entry
pub accepted-bounded : (d : DebtValue) → IsChecked d.terms → credit_of d.kind ≤ most_pence → AreEntriesAccepted d [] d.entries
    → IsBounded d (last_of d.taken d.entries)
accepted-bounded d h credit ok = (all-running d [] d.entries h credit (none-running d credit (first-low d.kind)) ok).bounded
