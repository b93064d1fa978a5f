-- One part of a transaction after another, and what they find together.
use Rattle.one_table.proofs.Lent.{clean_before, rests_then}
use Rattle.pawn_tables.proofs.Basics.{lent_then}
use Rattle.pawn_tables.specs.Common.{Tables, HasCleanDisk, State, Host, KeepError, Database, NoRecord, IsLent, Rests}
use Rattle.pawn_tables.specs.Finding.{Finds, FindsIn, Stood}
use Rattle.pawn_tables.specs.StandsFor.{ListDebts, StandsFor}
use Rattle.std.proofs.Common.{◌≡◌, ℕ, Bool, true, false, OnOk, Result, Ok, Err, IsTrue, refl, sym, subst}
use Rattle.pawn_book.specs.declared.fault.KeepError.TheVariants as Keeper

-- an error that is passed on
pub unfound : {A B : Type 0} (e : KeepError) (s : Result B KeepError) (P : A → Type 0) (Q : B → Type 0) (U : Type 0) → s ≡ Err e → Finds (Err e) P U
    → Finds s Q U
unfound e s P Q U same f = subst (λ x. Finds x Q U) (sym same) (go e f) where
  go : (x : KeepError) → Finds (Err x) P U → Finds (Err x) Q U
  go Keeper.Memory f = tt
  go (Keeper.Store NoRecord) f = f
  go (Keeper.Store Database) f = tt

-- ---- what parts find one after another

-- what a part returned that succeeded
told : {A : Type 0} (r : Result A KeepError) (x : A) (P : A → Type 0) (U : Type 0) → r ≡ Ok x → Finds r P U → P x
told r x P U is f = subst (λ s. Finds s P U) is f

-- the parts so far went well, and this holds of each host that the tables stood for
pub record Found (s0 s1 : State) (F : Host → Type 0) : Type 0 where
  pub lent : IsLent s0 s1 true
  pub is : HasCleanDisk s1 → IsTrue s0.in_transaction → (h : Host) → Stood s0 h → StandsFor s0.now h × F h × Rests s0 s1

pub one_found : {A : Type 0} {s0 s1 : State} {p : Result A KeepError} {x : A} (U : Host → Type 0) (P : Host → A → Type 0)
    → p ≡ Ok x → IsLent s0 s1 true → FindsIn U s0 s1 p P → Found s0 s1 (λ h. P h x)
one_found {s0 = s0} {s1 = s1} {p = p} {x = x} U P went l f = record {
  lent = l;
  is = λ clean within h stood. let one = told p x (λ y. P h y × Rests s0 s1) (U h) went (f clean within h stood) in
      (stood (l.opened clean within refl), one.0, one.1);
}

-- where the next part begins
begun : (s0 s1 s2 : State) (F : Host → Type 0) (ok : Bool) → Found s0 s1 F → IsLent s1 s2 ok → HasCleanDisk s2 → IsTrue s0.in_transaction → (h : Host)
    → Stood s0 h → (StandsFor s0.now h × F h × Rests s0 s1) × StandsFor s1.now h
begun s0 s1 s2 F ok found l clean within h stood = let one = found.is (clean_before s1 s2 ok l clean) within h stood in
    (one, subst (λ d. StandsFor d h) (sym one.2.now_is) one.0)

pub next_found : {B : Type 0} {s0 s1 s2 : State} {F : Host → Type 0} {q : Result B KeepError} {y : B} (U : Host → Type 0) (Q : Host → B → Type 0)
    → Found s0 s1 F → q ≡ Ok y → IsLent s1 s2 true → FindsIn U s1 s2 q Q → Found s0 s2 (λ h. F h × Q h y)
next_found {s0 = s0} {s1 = s1} {s2 = s2} {F = F} {q = q} {y = y} U Q found went l f = record {
  lent = lent_then s0 s1 s2 true found.lent l;
  is = λ clean within h stood. let one = begun s0 s1 s2 F true found l clean within h stood in
      let two = told q y (λ z. Q h z × Rests s1 s2) (U h) went (f clean one.0.2.inside h (λ _. one.1)) in
      (one.0.0, (one.0.1, two.0), rests_then s0 s1 s2 one.0.2 two.1);
}

-- two parts that went well
pub both_found : {s0 s1 s2 : State} (F G : Host → Type 0) → IsLent s0 s1 true → (HasCleanDisk s1 → IsTrue s0.in_transaction → (h : Host) → Stood s0 h → F h ×
    Rests s0 s1) → IsLent s1 s2 true → (HasCleanDisk s2 → IsTrue s1.in_transaction → (h : Host) → Stood s1 h → G h × Rests s1 s2) → Found s0 s2 (λ h. F h × G h)
both_found {s0 = s0} {s1 = s1} {s2 = s2} F G l f after g = record {
  lent = lent_then s0 s1 s2 true l after;
  is = λ clean within h stood.
      let was = clean_before s1 s2 true after clean in let st = stood (l.opened was within refl) in
      let one = f was within h stood in let two = g clean one.1.inside h (λ _. subst (λ d. StandsFor d h) (sym one.1.now_is) st) in
      (st, (one.0, two.0), rests_then s0 s1 s2 one.1 two.1);
}

-- a part that fails ends the others

pub first_unfound : {A D : Type 0} {p : Result A KeepError} {e : KeepError} (U : Host → Type 0) (s0 s1 : State) (P : Host → A → Type 0) (r : Result D KeepError)
    (W : Host → D → Type 0) → p ≡ Err e → r ≡ Err e → FindsIn U s0 s1 p P → FindsIn U s0 s1 r W
first_unfound {p = p} {e = e} U s0 s1 P r W failed same f clean within h stood = unfound e r (λ x. P h x × Rests s0 s1) (λ x. W h x × Rests s0 s1) (U h) same
    (subst (λ s. Finds s (λ x. P h x × Rests s0 s1) (U h)) failed (f clean within h stood))

pub next_unfound : {B D : Type 0} {s0 s1 s2 : State} {F : Host → Type 0} {q : Result B KeepError} {e : KeepError} (U : Host → Type 0) (Q : Host → B → Type 0)
    (r : Result D KeepError) (W : Host → D → Type 0) → Found s0 s1 F → q ≡ Err e → r ≡ Err e → IsLent s1 s2 false → FindsIn U s1 s2 q Q → FindsIn U s0 s2 r W
next_unfound {s0 = s0} {s1 = s1} {s2 = s2} {F = F} {q = q} {e = e} U Q r W found failed same l f clean within h stood =
    let one = begun s0 s1 s2 F false found l clean within h stood in
    unfound e r (λ y. Q h y × Rests s1 s2) (λ y. W h y × Rests s0 s2) (U h) same
    (subst (λ s. Finds s (λ y. Q h y × Rests s1 s2) (U h)) failed (f clean one.0.2.inside h (λ _. one.1)))

-- ---- what is found, if something holds of the host

pub finds_if : {A : Type 0} (K U : Host → Type 0) (s0 s1 : State) (r : Result A KeepError) (P : Host → A → Type 0) → FindsIn U s0 s1 r P
    → FindsIn (λ h. K h → U h) s0 s1 r (λ h x. K h → P h x)
finds_if {A = A} K U s0 s1 r P f clean within h stood = go r (f clean within h stood) where
  go : (q : Result A KeepError) → Finds q (λ x. P h x × Rests s0 s1) (U h) → Finds q (λ x. (K h → P h x) × Rests s0 s1) (K h → U h)
  go (Ok x) found = (λ known. found.0, found.1)
  go (Err Keeper.Memory) found = tt
  go (Err (Keeper.Store NoRecord)) found = λ known. found
  go (Err (Keeper.Store Database)) found = tt

-- ---- tables that stand for a host list its debts

pub debts_of : (db : Tables) (h : Host) → StandsFor db h → ListDebts db h
debts_of db h st =
    record { schema = st.schema; books = st.books; terms = st.terms; pledges = st.pledges; entries = st.entries; ordered = st.ordered; storable = st.storable }

-- where a statement ran, what it wrote
pub on_ran : {E : Type 0} (r : Result (Unit {0}) E) (P : ℕ → Type 0) (Q : Type 0) → OnOk r ((count : ℕ) × P count) → ((count : ℕ) → P count → Q) → OnOk r Q
on_ran (Ok done) P Q ran f = f ran.0 ran.1
on_ran (Err e) P Q ran f = tt
