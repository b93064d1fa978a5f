-- How much of a pledge stands, as it is looked up.
use Rattle.pawn_saving.proofs.Basics.{reachable_at}
use Rattle.pawn_saving.proofs.PledgeWrites.{continues_it}
use Rattle.pawn_saving.specs.Common.{Grows, CanSave, Continues, PutPledge}
use Rattle.pawn_saving.specs.Stored.{length_in, AreLengths, IsLengthWithin, IsStored}
use Rattle.pawn_saving.specs.RowWrites.{IsCarried}
use Rattle.pawn_saving.specs.declared.lengths.Lengths.{Lengths}
use Rattle.pawn_saving.specs.declared.stored.PledgeList.{PledgeList}
use Rattle.pawn_saving.specs.declared.stored.Stored.{Stored}
use Rattle.pawn_tables.proofs.NextEntries.{at_seq}
use Rattle.pawn_tables.specs.Common.{get, HasCleanDisk, State, PledgeValue, AreIssued, Booking, Issued, BookValue}
use Rattle.pawn_tables.specs.Common.{pledge_from, pledge_in, Host, entries_of, IsSound, Rests}
use Rattle.pawn_tables.specs.Entries.{with_seq}
use Rattle.pawn_tables.specs.Places.{at_place}
use Rattle.pawn_tables.specs.StandsFor.{StandsFor}
use Rattle.std.proofs.Common.{◌≡◌, Bool, ◌⊎◌, inl, inr, ◌↔◌, ℕ, zero, suc, ◌+◌, ◌≤◌, List, [], ◌∷◌, Option, Some, None}
use Rattle.std.proofs.Common.{true, false, length, IsTrue, refl, sym, subst, arith, is_some, slice_get, ◌++◌}

-- ---- there is an element at each place up to the length of a list

within_length : {A : Type 0} (xs : List A) (i : ℕ) → IsTrue (is_some (slice_get xs i)) ↔ (suc i ≤ length xs)
within_length [] i = ((λ is. absurd (let e = is in cc)), (λ le. absurd (omega (arith, le))))
within_length (x ∷ xs) zero = ((λ is. omega arith), (λ le. refl))
within_length (x ∷ xs) (suc i) = ((λ is. let le = (within_length xs i).0 is in omega (arith, le)), (λ le. (within_length xs i).1 (omega (arith, le))))

tells_place : {A : Type 0} (xs : List A) (place : ℕ) (x : Option A) → x ≡ at_place xs place → 1 ≤ place → IsTrue (is_some x) ↔ (place ≤ length xs)
tells_place xs zero x is low = absurd (omega (arith, low))
tells_place xs (suc i) x is low = subst (λ o. IsTrue (is_some o) ↔ (suc i ≤ length xs)) (sym is) (within_length xs i)

-- .. in the list of a pledge that was asked for
pub tells_within : {A : Type 0} (list named : PledgeList) (p : Option PledgeValue) (xs : List A) (place : ℕ) (x : Option A) (there : Bool)
    → list ≡ named → length_in named p ≡ length xs → there ≡ is_some x → x ≡ at_place xs place → 1 ≤ place → IsTrue there ↔ (place ≤ length_in list p)
tells_within list named p xs place x there is long same at low =
    let told = subst (λ b. IsTrue b ↔ (place ≤ length xs)) (sym same) (tells_place xs place x at low) in
    subst (λ (l : PledgeList). IsTrue there ↔ (place ≤ length_in l p)) (sym is) (subst (λ n. IsTrue there ↔ (place ≤ n)) (sym long) told)

-- the entry with a number is at that place, in a sound host
pub entry_placed : (h : Host) (b n s : ℕ) → IsSound h
    → with_seq (entries_of (pledge_in (get h.books b) n)) s ≡ at_place (entries_of (pledge_in (get h.books b) n)) s
entry_placed h b n s sound = go (pledge_in (get h.books b) n) refl where
  go : (o : Option PledgeValue) → pledge_in (get h.books b) n ≡ o → with_seq (entries_of o) s ≡ at_place (entries_of o) s
  go None is = at_seq [] s tt
  go (Some p) is = at_seq p.entries s (reachable_at h b n p sound is).0.replayable.entered.numbered

-- ---- the places of a list, from above

-- nothing stands above a place, and the tables rest
pub record IsSoFar (old new : State) (long : Host → ℕ) (most at : ℕ) : Type 0 where
  pub carried : IsCarried old new true
  pub reads : HasCleanDisk new → IsTrue old.in_transaction → (h : Host) → IsSound h → StandsFor old.now h → (long h ≤ most → long h ≤ at) × Rests old new

-- ---- a pledge that is to be put, and what stands of it

pub stands_or_not : (o : Option PledgeValue) → (o ≡ None) ⊎ ((p : PledgeValue) × (o ≡ Some p))
stands_or_not None = inl refl
stands_or_not (Some p) = inr (p, refl)

longer : {A : Type 0} (old more new : List A) → new ≡ old ++ more → length old ≤ length new
longer [] more new is = omega arith
longer (x ∷ xs) more [] is = absurd (let e = is in cc)
longer (x ∷ xs) more (y ∷ ys) is = let le = longer xs more ys (let e = is in cc) in omega (arith, le)

-- the lists of the pledge that the next follows are no longer
module _ (l : Lengths) (next : PledgeValue) (are : AreLengths l (Some next)) where
  grown_within : (old : PledgeValue) → Grows old next → IsLengthWithin (Some old) l
  grown_within old lists = record {
    entries = let le = longer old.entries lists.entries.0 next.entries lists.entries.1 in let e = are.entries in omega (arith, le, e);
    secrets = let le = longer old.secrets lists.secrets.0 next.secrets lists.secrets.1 in let e = are.secrets in omega (arith, le, e);
    extensions = let le = longer old.extensions lists.extensions.0 next.extensions lists.extensions.1 in let e = are.extensions in omega (arith, le, e);
  }

  follows_within : (k : BookValue) (n : ℕ) → (n ≡ length k.pledges + 1) ⊎ ((old : PledgeValue) × (pledge_from 1 k.pledges n ≡ Some old) × Continues old next)
      → IsLengthWithin (pledge_from 1 k.pledges n) l
  follows_within k n follows = go (stands_or_not (pledge_from 1 k.pledges n)) where
    go : (pledge_from 1 k.pledges n ≡ None) ⊎ ((old : PledgeValue) × (pledge_from 1 k.pledges n ≡ Some old)) → IsLengthWithin (pledge_from 1 k.pledges n) l
    go (inl none) = subst (λ o. IsLengthWithin o l) (sym none) (record { entries = omega arith; secrets = omega arith; extensions = omega arith })
    go (inr some) = subst (λ o. IsLengthWithin o l) (sym some.1) (grown_within some.0 (continues_it k n some.0 next some.1 follows).lists)

  pub can_within : (h : Host) (b n : ℕ) → CanSave h (PutPledge b n next) → IsLengthWithin (pledge_in (get h.books b) n) l
  can_within h b n can = subst (λ o. IsLengthWithin (pledge_in o n) l) (sym can.follows.1) (follows_within can.follows.0 n can.follows.2)

issued_some : (taken credit : ℕ) (is : List Issued) → AreIssued taken credit is → 1 ≤ length is
issued_some taken credit [] issued = absurd issued
issued_some taken credit (i ∷ is) issued = omega arith

-- a pledge that stands has a secret
pub has_secret : (h : Host) (b n : ℕ) (p : PledgeValue) → IsSound h → pledge_in (get h.books b) n ≡ Some p → 1 ≤ length p.secrets
has_secret h b n p sound is = issued_some _ _ p.secrets (reachable_at h b n p sound is).0.replayable.issued.sorts

-- ---- the rows that are counted

pub not_booked : (b : Option Booking) → is_some b ≡ false → b ≡ None
not_booked None is = refl
not_booked (Some b) is = absurd (let e = is in cc)

-- ---- whether a pledge stands

-- none does where none of its secrets is there
pub none_stored : (h : Host) (b n : ℕ) (s : Stored) → IsSound h → IsStored s (pledge_in (get h.books b) n) → s.lengths.secrets ≡ 0
    → pledge_in (get h.books b) n ≡ None
none_stored h b n s sound stored none = go (stands_or_not (pledge_in (get h.books b) n)) where
  go : (pledge_in (get h.books b) n ≡ None) ⊎ ((p : PledgeValue) × (pledge_in (get h.books b) n ≡ Some p)) → pledge_in (get h.books b) n ≡ None
  go (inl is) = is
  go (inr is) = let as_many = (subst (IsStored s) is.1 stored).lengths.secrets in
      let low = has_secret h b n is.0 sound is.1 in
      absurd (omega (arith, as_many, low, none))

-- one does where one is
pub some_stored : (h : Host) (b n : ℕ) (s : Stored) → IsStored s (pledge_in (get h.books b) n) → (s.lengths.secrets ≡ 0 → ⊥)
    → (p : PledgeValue) × (pledge_in (get h.books b) n ≡ Some p) × IsStored s (Some p)
some_stored h b n s stored some = go (stands_or_not (pledge_in (get h.books b) n)) where
  go : (pledge_in (get h.books b) n ≡ None) ⊎ ((p : PledgeValue) × (pledge_in (get h.books b) n ≡ Some p))
      → (p : PledgeValue) × (pledge_in (get h.books b) n ≡ Some p) × IsStored s (Some p)
  go (inl is) = absurd (some (subst (IsStored s) is stored).lengths.secrets)
  go (inr is) = (is.0, is.1, subst (IsStored s) is.1 stored)
