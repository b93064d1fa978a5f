-- Debts are checked, pledge by pledge and book by book.
use Rattle.pawn_move.proofs.Basics.{clean_before, rests_then, carried_none, carried_then, was_clean}
use Rattle.pawn_move.proofs.Reading.{handed, tell_then}
use Rattle.pawn_move.specs.Moving.{AreOwedIn, IsNextChecked, ListFirstDebts}
use Rattle.pawn_opening.specs.Common.{HasCleanDisk, State, Host, IsLent}
use Rattle.pawn_saving.specs.RowWrites.{IsCarried}
use Rattle.pawn_tables.specs.Common.{IsNextBook, HasUnsoundBook, IsUnsoundAt, KeepError, Rests}
use Rattle.pawn_tables.specs.Finding.{Finds, FindsOf}
use Rattle.pawn_tables.specs.StandsFor.{ListDebts}
use Rattle.std.proofs.Common.{ℕ, Bool, true, Option, Some, Result, Ok, Err, IsTrue, refl, sym, subst}

-- ---- a walk that leaves the tables as they are

-- P was found so far
pub record HasWalked (P : Host → Type 0) (old new : State) : Type 0 where
  pub carried : IsCarried old new true
  pub found : FindsOf {A = Unit {0}} ListFirstDebts HasUnsoundBook old new (Ok tt) (λ h done. P h)

pub none_walked : (P : Host → Type 0) (s : State) → ((h : Host) → P h) → HasWalked P s s
none_walked P s all = record { carried = carried_none s; found = λ clean within h tell. (all h, record { now_is = refl; inside = within }) }

module _ (P : Host → Type 0) (old mid new : State) (walked : HasWalked P old mid) where
  -- what one more part finds
  one_more : {A : Type 0} (ok : Bool) (U : Host → Type 0) (r : Result A KeepError) (R : Host → A → Type 0) → IsLent mid new ok
      → FindsOf ListFirstDebts U mid new r R → HasCleanDisk new → IsTrue old.in_transaction → (h : Host) → (IsTrue old.is_open → ListFirstDebts old.now h)
      → P h × Rests old mid × Finds r (λ x. R h x × Rests mid new) (U h)
  one_more ok U r R lent f clean within h tell = let was = clean_before mid new ok lent clean in
      let so_far = walked.found was within h tell in (
        so_far.0,
        so_far.1,
        f clean so_far.1.inside h (λ now. subst (λ d. ListFirstDebts d h) (sym so_far.1.now_is) (tell ((walked.carried.kept was within).was_open now))),
      )

  pub walk_on : {A : Type 0} (U : Host → Type 0) (x : A) (R : Host → A → Type 0) (Q : Host → Type 0) → ((h : Host) → P h → R h x → Q h) → IsLent mid new true
      → FindsOf ListFirstDebts U mid new (Ok x) R → HasWalked Q old new
  walk_on U x R Q join lent f = record {
    carried = carried_then old mid new true walked.carried lent;
    found = λ clean within h tell.
        let two = one_more true U (Ok x) R lent f clean within h tell in
        (join h two.0 two.2.0, rests_then old mid new two.1 two.2.1);
  }

  pub walk_ends : {A : Type 0} (U V : Host → Type 0) (x : A) (R : Host → A → Type 0) (Q : Host → Type 0) → ((h : Host) → P h → R h x → Q h)
      → IsLent mid new true → FindsOf ListFirstDebts U mid new (Ok x) R → FindsOf {A = Unit {0}} ListFirstDebts V old new (Ok tt) (λ h done. Q h)
  walk_ends U V x R Q join lent f clean within h tell = let two = one_more true U (Ok x) R lent f clean within h tell in
      (join h two.0 two.2.0, rests_then old mid new two.1 two.2.1)

  pub walk_fails : {A B : Type 0} (ok : Bool) (U : Host → Type 0) (e : KeepError) (R : Host → A → Type 0) (W : Host → B → Type 0) → IsLent mid new ok
      → FindsOf {A = A} ListFirstDebts U mid new (Err e) R → FindsOf {A = B} ListFirstDebts U old new (Err e) W
  walk_fails ok U e R W lent f clean within h tell =
      handed e (λ x. R h x × Rests mid new) (λ x. W h x × Rests old new) (U h) (U h) (λ it. it) (one_more ok U (Err e) R lent f clean within h tell).2

-- ---- a book that was found, and then its pledges

pub next_checked : (s0 s1 s2 : State) (above b : ℕ) → IsLent s0 s1 true → IsCarried s1 s2 true → FindsOf ListDebts HasUnsoundBook s0 s1 (Ok (Some b))
    (λ h next. IsNextBook h above next) → FindsOf {A = Unit {0}} ListFirstDebts (IsUnsoundAt b) s1 s2 (Ok tt) (λ h done. AreOwedIn h b)
    → FindsOf ListFirstDebts HasUnsoundBook s0 s2 (Ok (Some b)) (λ h next. IsNextChecked h above next)
next_checked s0 s1 s2 above b lent carried found checked clean within h tell = let was = was_clean s1 s2 true carried clean in
    let one = found was within h (λ now. (tell now).debts) in
    let two = checked clean one.1.inside h (λ _. tell_then ListFirstDebts HasUnsoundBook s0 s1 h lent was within tell one.1) in
    ((one.0, two.0), rests_then s0 s1 s2 one.1 two.1)

pub next_not_checked : (s0 s1 s2 : State) (above b : ℕ) (ok : Bool) (e : KeepError) → IsLent s0 s1 true → IsCarried s1 s2 ok
    → FindsOf ListDebts HasUnsoundBook s0 s1 (Ok (Some b)) (λ h next. IsNextBook h above next) → FindsOf {A = Unit {0}} ListFirstDebts (IsUnsoundAt b) s1 s2
    (Err e) (λ h done. AreOwedIn h b) → FindsOf {A = Option ℕ} ListFirstDebts HasUnsoundBook s0 s2 (Err e) (λ h next. IsNextChecked h above next)
next_not_checked s0 s1 s2 above b ok e lent carried found checked clean within h tell = let was = was_clean s1 s2 ok carried clean in
    let one = found was within h (λ now. (tell now).debts) in
    handed e (λ done. AreOwedIn h b × Rests s1 s2) (λ next. IsNextChecked h above next × Rests s0 s2) (IsUnsoundAt b h) (HasUnsoundBook h) (λ it. (b, it))
    (checked clean one.1.inside h (λ _. tell_then ListFirstDebts HasUnsoundBook s0 s1 h lent was within tell one.1))
