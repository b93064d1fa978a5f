-- One more element at the end of a list of a record.
use Rattle.pawn_base.proofs.ListLemmas.{Each-push}
use Rattle.pawn_pledge.specs.Common.{Entry, last_by, later_of}
use Rattle.pawn_pledge.specs.Pledge.{last_element, last_until}
use Rattle.pawn_pledge.specs.Replayable.{AreDistinctSecrets, AreExtended, AreIssued, AreNumbered, IsLaterIssue}
use Rattle.pawn_pledge.specs.declared.record.Extension.{Extension}
use Rattle.pawn_pledge.specs.declared.record.Issued.{Issued}
use Rattle.std.proofs.Common.{◌≡◌, ℕ, ◌+◌, ◌<◌, ◌≤◌, ◌==◌, false, List, [], ◌∷◌, ◌++◌, drop, take, get_or, ◌-◌, length}
use Rattle.std.proofs.Common.{Option, Some, None, suc, refl, sym, ap, subst, ◌∙◌, arith, slice_get, length-append}
use Rattle.std.proofs.lemmas.Bool.{or_from, or_parts}
use Rattle.std.proofs.lemmas.Bool.Decides.{nat_tests}
use Rattle.std.proofs.lemmas.List.{drop_more, take_rest}
use Rattle.std.proofs.lemmas.List.Folds.{list_any-append}
use Rattle.std.specs.List.{list_any}

last-push : {A : Type 0} (xs : List A) (x : A) → slice_get (xs ++ x ∷ []) (length xs) ≡ Some x
last-push [] x = refl
last-push (y ∷ ys) x = last-push ys x

-- the last element of a list after one was added
pub last_element-push : {A : Type 0} (xs : List A) (x : A) → last_element (xs ++ x ∷ []) ≡ Some x
last_element-push xs x = let n : length (xs ++ x ∷ []) - 1 ≡ length xs = omega (arith, length-append xs (x ∷ [])) in rw n (last-push xs x)

-- secrets
pub AreIssued-push : (taken credit : ℕ) (is : List Issued) (j : Issued) → AreIssued taken credit is → IsLaterIssue credit j.sort
    → AreIssued taken credit (is ++ j ∷ [])
AreIssued-push taken credit [] j h last = absurd h
AreIssued-push taken credit (i ∷ is) j h last = (h.0, h.1, Each-push (λ (k : Issued). IsLaterIssue credit k.sort) is j h.2 last)

equal_back : (a b : ℕ) → (a == b) ≡ false → (b == a) ≡ false
equal_back a b h = grind (arith, nat_tests, h)

pub AreDistinct-push : (is : List Issued) (j : Issued) → AreDistinctSecrets is → list_any (λ i. i.secret == j.secret) is ≡ false
    → AreDistinctSecrets (is ++ j ∷ [])
AreDistinct-push [] j h new = (refl, tt)
AreDistinct-push (i ∷ is) j h new =
    let parts = or_parts (i.secret == j.secret) (list_any (λ k. k.secret == j.secret) is) new in (
      list_any-append (λ (k : Issued). k.secret == i.secret) is (j ∷ []) ∙ or_from _ _ h.0 (or_from _ false (equal_back i.secret j.secret parts.0) refl),
      AreDistinct-push is j h.1 parts.1,
    )

-- entries
pub AreNumbered-push : (n : ℕ) (es : List Entry) (e : Entry) → AreNumbered n es → e.seq ≡ n + length es → AreNumbered n (es ++ e ∷ [])
AreNumbered-push n [] e h is = (omega (arith, is), tt)
AreNumbered-push n (f ∷ es) e h is = (h.0, AreNumbered-push (n + 1) es e h.1 (omega (arith, is)))

-- extensions
pub later_of-le : (day : ℕ) (o : Option ℕ) → day ≤ later_of day o
later_of-le day None = omega arith
later_of-le day (Some other) = omega arith

-- the end of a period after extensions, each of which moves it to a later day
abbrev until_after : ℕ → List Extension → ℕ
until_after ends [] = ends
until_after ends (x ∷ xs) = until_after x.until xs

until_after-le : (day ends : ℕ) (xs : List Extension) → AreExtended day ends xs → ends ≤ until_after ends xs
until_after-le day ends [] h = omega arith
until_after-le day ends (x ∷ xs) h = omega (arith, h.2, until_after-le x.day x.until xs h.3)

last_until-is : (x : Extension) (xs : List Extension) → last_until (x ∷ xs) ≡ Some (until_after x.until xs)
last_until-is x [] = refl
last_until-is x (y ∷ ys) = let n : length (x ∷ y ∷ ys) - 1 ≡ suc (length (y ∷ ys) - 1) = omega arith in rw n (last_until-is y ys)

-- the end of a period after extensions is that of the last one
later_of-until : (day ends : ℕ) (xs : List Extension) → AreExtended day ends xs → later_of ends (last_until xs) ≡ until_after ends xs
later_of-until day ends [] h = refl
later_of-until day ends (x ∷ xs) h = rw (last_until-is x xs) (omega (arith, h.2, until_after-le x.day x.until xs h.3))

AreExtended-after : (day ends : ℕ) (xs : List Extension) (x : Extension) → AreExtended day ends xs → last_by (λ e. e.day) day xs ≤ x.day
    → x.day ≤ until_after ends xs → until_after ends xs < x.until → AreExtended day ends (xs ++ x ∷ [])
AreExtended-after day ends [] x h late inside longer = (late, inside, longer, tt)
AreExtended-after day ends (y ∷ ys) x h late inside longer = (h.0, h.1, h.2, AreExtended-after y.day y.until ys x h.3 late inside longer)

pub AreExtended-push : (day ends : ℕ) (xs : List Extension) (x : Extension) → AreExtended day ends xs → last_by (λ e. e.day) day xs ≤ x.day
    → x.day ≤ later_of ends (last_until xs) → later_of ends (last_until xs) < x.until → AreExtended day ends (xs ++ x ∷ [])
AreExtended-push day ends xs x h late inside longer =
    let e = later_of-until day ends xs h in
    AreExtended-after day ends xs x h late (omega (arith, inside, e)) (omega (arith, longer, e))

-- one more extension to a later end puts the end there
pub later_of-push : (ends : ℕ) (xs : List Extension) (x : Extension) → later_of ends (last_until xs) < x.until
    → later_of ends (last_until (xs ++ x ∷ [])) ≡ x.until
later_of-push ends xs x longer = rw (last_element-push xs x) (omega (arith, longer, later_of-le ends (last_until xs)))

-- one more secret, by a test of the slice after it
pub AreDistinct-step : (is : List Issued) (k : ℕ) (i : Issued) → k < length is → i ≡ get_or is k i
    → list_any (λ j. j.secret == i.secret) (take (length is - (k + 1)) (drop (k + 1) is)) ≡ false
    → (AreDistinctSecrets (drop k is) → AreDistinctSecrets (drop (k + 1) is)) × (AreDistinctSecrets (drop (k + 1) is) → AreDistinctSecrets (drop k is))
AreDistinct-step is k i lt at new =
    let e : drop k is ≡ i ∷ drop (k + 1) is = drop_more is k i lt ∙ ap (λ (x : Issued). x ∷ drop (k + 1) is) (sym at) in
    let P : List Issued → Type 0 = λ l. list_any (λ (j : Issued). j.secret == i.secret) l ≡ false in
    let fresh = subst P (take_rest is (k + 1)) new in
    ((λ h. (subst AreDistinctSecrets e h).1), (λ h. subst AreDistinctSecrets (sym e) (fresh, h)))
