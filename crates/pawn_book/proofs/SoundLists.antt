-- References that differ, and terms that the book has, in a list of pledges.
use Rattle.pawn_book.specs.BookStep.{pledge_from, put_from, with_reference}
use Rattle.pawn_book.specs.Common.{DoNotFall, Each, PledgeValue, Rates, list_any}
use Rattle.pawn_book.specs.Rows.{AreDistinct, IsUnder, is_same_text, references_of, terms_at, version_of}
use Rattle.std.proofs.Common.{◌≡◌, ℕ, ◌+◌, ◌≤◌, zero, suc, List, [], ◌∷◌, ◌++◌, length, map, Some, None, refl, ◌∙◌, ap}
use Rattle.std.proofs.Common.{sym, subst, arith, if◌then◌else◌, Option, true, false, ◌==◌, ◌||◌, unwrap_or}
use Rattle.std.proofs.lemmas.Bool.{or_parts, or_from}
use Rattle.std.proofs.lemmas.List.Folds.{list_any-append}

pub some_is : {A : Type 0} (x y : A) → Some x ≡ Some y → x ≡ y
some_is {A} x y is = ap (λ (o : Option A). unwrap_or o x) is

pub absurd_none : {A : Type 0} {P : Type 0} {x : A} → (let none : Option A = None in none ≡ Some x) → P
absurd_none is = cc is

-- a list of values of pledges stays the same, if a pledge is replaced by one with the same value
pub map-put : {A : Type 0} (f : PledgeValue → A) (k : ℕ) (ps : List PledgeValue) (n : ℕ) (p q : PledgeValue) → pledge_from k ps n ≡ Some p → f q ≡ f p
    → map f (put_from k ps n q) ≡ map f ps
map-put f k [] n p q is same = absurd_none is
map-put f k (r ∷ ps) n p q is same =
    elim (n == k) as
    (λ v. (if v then Some r else pledge_from (k + 1) ps n) ≡ Some p → map f (if v then q ∷ ps else r ∷ put_from (k + 1) ps n q) ≡ map f (r ∷ ps)) [
      | true ↦ λ here. ap (λ x. x ∷ map f ps) (same ∙ ap f (sym (some_is r p here)))
      | false ↦ λ there. ap (λ xs. f r ∷ xs) (map-put f (k + 1) ps n p q there same)
    ] is

-- a reference that no pledge has
pub new_reference : (ps : List PledgeValue) (reference : List ℕ) → with_reference ps reference ≡ None
    → list_any (λ t. is_same_text t reference) (map (λ p. p.agreement.opening.reference) ps) ≡ false
new_reference [] reference none = refl
new_reference (p ∷ ps) reference none =
    elim (is_same_text p.agreement.opening.reference reference) as (λ v. (if v then Some p else with_reference ps reference) ≡ None
    → (v || list_any (λ t. is_same_text t reference) (map (λ p. p.agreement.opening.reference) ps)) ≡ false) [
      | true ↦ λ some. absurd_none (sym some)
      | false ↦ λ rest. new_reference ps reference rest
    ] none

-- such a reference may be added after the others
distinct_push : (ts : List (List ℕ)) (t : List ℕ) → AreDistinct ts → list_any (λ s. is_same_text s t) ts ≡ false → AreDistinct (ts ++ t ∷ [])
distinct_push [] t all new = (refl, tt)
distinct_push (s ∷ ts) t all new =
    let apart = or_parts (is_same_text s t) (list_any (λ s. is_same_text s t) ts) new in
    (list_any-append (is_same_text s) ts (t ∷ []) ∙ or_from _ _ all.0 (or_from _ _ apart.0 refl), distinct_push ts t all.1 apart.1)

map_push : {A : Type 0} (f : PledgeValue → A) (ps : List PledgeValue) (p : PledgeValue) → map f (ps ++ p ∷ []) ≡ map f ps ++ f p ∷ []
map_push f [] p = refl
map_push f (q ∷ ps) p = ap (λ xs. f q ∷ xs) (map_push f ps p)

pub references_push : (ps : List PledgeValue) (p : PledgeValue) → AreDistinct (references_of ps) → with_reference ps p.agreement.opening.reference ≡ None
    → AreDistinct (references_of (ps ++ p ∷ []))
references_push ps p all none = subst AreDistinct (sym (map_push (λ p. p.agreement.opening.reference) ps p))
    (distinct_push (map (λ p. p.agreement.opening.reference) ps) p.agreement.opening.reference all (new_reference ps p.agreement.opening.reference none))

-- a version under which there are terms is at most the number of versions
pub under_length : (terms : List Rates) (version : ℕ) (t : Rates) → terms_at terms version ≡ Some t → version ≤ length terms
under_length terms zero t is = omega arith
under_length [] (suc n) t is = absurd_none is
under_length (u ∷ terms) (suc zero) t is = omega arith
under_length (u ∷ terms) (suc (suc n)) t is = let rest = under_length terms (suc n) t is in omega (arith, rest)

-- the terms of a version stay the same with one more version after them
under_more : (terms : List Rates) (u : Rates) (version : ℕ) (t : Rates) → terms_at terms version ≡ Some t → terms_at (terms ++ u ∷ []) version ≡ Some t
under_more terms u zero t is = is
under_more [] u (suc n) t is = absurd_none is
under_more (s ∷ terms) u (suc zero) t is = is
under_more (s ∷ terms) u (suc (suc n)) t is = under_more terms u (suc n) t is

pub each_under_more : (terms : List Rates) (u : Rates) (ps : List PledgeValue) → Each (IsUnder terms) ps → Each (IsUnder (terms ++ u ∷ [])) ps
each_under_more terms u [] all = tt
each_under_more terms u (p ∷ ps) all = (under_more terms u p.agreement.version p.agreement.terms all.0, each_under_more terms u ps all.1)

-- versions do not decrease with one more pledge under the newest terms
pub versions_push : (n : ℕ) (terms : List Rates) (ps : List PledgeValue) (p : PledgeValue) → Each (IsUnder terms) ps → DoNotFall version_of n ps
    → n ≤ length terms → p.agreement.version ≡ length terms → DoNotFall version_of n (ps ++ p ∷ [])
versions_push n terms [] p under rise low newest = (omega (arith, low, newest), tt)
versions_push n terms (q ∷ ps) p under rise low newest =
    (rise.0, versions_push q.agreement.version terms ps p under.1 rise.1 (under_length terms q.agreement.version q.agreement.terms under.0) newest)

-- versions do not decrease when a pledge is replaced by one of the same version
pub versions_put : (k m : ℕ) (ps : List PledgeValue) (n : ℕ) (p q : PledgeValue) → pledge_from k ps n ≡ Some p → version_of q ≡ version_of p
    → DoNotFall version_of m ps → DoNotFall version_of m (put_from k ps n q)
versions_put k m [] n p q is same rise = absurd_none is
versions_put k m (r ∷ ps) n p q is same rise =
    elim (n == k) as
    (λ v. (if v then Some r else pledge_from (k + 1) ps n) ≡ Some p → DoNotFall version_of m (if v then q ∷ ps else r ∷ put_from (k + 1) ps n q)) [
      | true ↦ λ here. subst (λ (v : ℕ). (m ≤ v) × DoNotFall version_of v ps) (ap version_of (some_is r p here) ∙ sym same) rise
      | false ↦ λ there. (rise.0, versions_put (k + 1) (version_of r) ps n p q there same rise.1)
    ] is
