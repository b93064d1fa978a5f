-- The terms and the pledges of a book, checked one after the other.
use Rattle.pawn_base.proofs.ListLemmas.{Each-push, take_each}
use Rattle.pawn_base.specs.Lists.{DoNotFall, Each, last_by}
use Rattle.pawn_base.specs.Text.{IsText}
use Rattle.pawn_book.proofs.LawLemmas.{text_same}
use Rattle.pawn_book.proofs.Places.{terms_at_place}
use Rattle.pawn_book.proofs.SoundLists.{absurd_none, references_push, some_is}
use Rattle.pawn_book.proofs.Sounds.{each_at, numbered_at}
use Rattle.pawn_book.specs.BookStep.{BookValue, book_head, pledge_from, pledge_in, with_reference}
use Rattle.pawn_book.specs.HostStep.{Host, pledge_row_count}
use Rattle.pawn_book.specs.Keeping.{terms_of}
use Rattle.pawn_book.specs.Limits.{IsCapacity, most_name_bytes, most_pledges, most_terms}
use Rattle.pawn_book.specs.Rows.{AreDistinct, AreNumberedFrom, IsUnder, is_same_text, references_of, terms_at}
use Rattle.pawn_book.specs.Rows.{version_of}
use Rattle.pawn_book.specs.Sound.{HasTextsAndWords, HasUnsoundBook, IsSoundBook, IsWord}
use Rattle.pawn_book.specs.declared.change.BookHead.{BookHead}
use Rattle.pawn_check.specs.Checking.{AreOfBook, Blames, FindsSound, FitsAt, IsFront}
use Rattle.pawn_check.specs.declared.fault.CheckFault.{CheckFault}
use Rattle.pawn_pledge.specs.Pledge.{PledgeValue}
use Rattle.pawn_pledge.specs.Replayable.{IsReachable}
use Rattle.pawn_terms.specs.Terms.{IsChecked}
use Rattle.pawn_terms.specs.declared.terms.Rates.{Rates}
use Rattle.std.proofs.Common.{◌≡◌, ◌∙◌, ℕ, ◌+◌, ◌<◌, ◌≤◌, zero, suc, true, false, List, [], ◌∷◌, ◌++◌, length, take}
use Rattle.std.proofs.Common.{Some, None, refl, sym, ap, subst, arith, ◌==◌, ◌||◌, if◌then◌else◌, Bool, Option}
use Rattle.std.proofs.Common.{option_map, slice_get, Err, IfSome, IsTrue, Result}
use Rattle.std.proofs.lemmas.Bool.Decides.{nat_tests}
use Rattle.std.proofs.lemmas.List.Sums.{sum_by_push}
use Rattle.std.specs.FinMap.{get}
use Rattle.std.specs.List.{list_any}
use Rattle.std.specs.Str.{IsUtf8}

-- ---- terms

-- one that is asked for stands
stands : (terms : List Rates) (i : ℕ) → i < length terms → slice_get terms i ≡ None → ⊥
stands [] i less none = absurd (omega (arith, less))
stands (t ∷ terms) zero less none = cc
stands (t ∷ terms) (suc i) less none = stands terms i (omega (arith, less)) none

more_checked : (terms : List Rates) (i : ℕ) (t : Rates) → slice_get terms i ≡ Some t → IsChecked t → Each {X = Rates} IsChecked (take i terms)
    → Each {X = Rates} IsChecked (take (suc i) terms)
more_checked [] i t at is all = absurd_none at
more_checked (u ∷ terms) zero t at is all = (subst IsChecked (sym (some_is u t at)) is, tt)
more_checked (u ∷ terms) (suc i) t at is all = (all.0, more_checked terms i t at is all.1)

pub checked_more : (terms : List Rates) (i : ℕ) (t : Rates) → terms_at terms (i + 1) ≡ Some t → IsChecked t → Each {X = Rates} IsChecked (take i terms)
    → Each {X = Rates} IsChecked (take (i + 1) terms)
checked_more terms i t at is all =
    let next : suc i ≡ i + 1 = omega arith in
    subst (λ (n : ℕ). Each {X = Rates} IsChecked (take n terms)) next (more_checked terms i t (sym (terms_at_place terms i) ∙ at) is all)

-- ---- pledges

-- the pledge of a number within the list stands
pub there : (k : ℕ) (ps : List PledgeValue) (n : ℕ) → k ≤ n → n < k + length ps → pledge_from k ps n ≡ None → ⊥
there k [] n low high none = absurd (omega (arith, low, high))
there k (p ∷ ps) n low high none =
    elim (n == k) as (λ v. n == k ≡ v → (if v then Some p else pledge_from (k + 1) ps n) ≡ None → ⊥) [
      | true ↦ λ same here. absurd_none (sym here)
      | false ↦ λ other past. there (k + 1) ps n (grind (arith, nat_tests, other, low)) (omega (arith, high)) past
    ] refl none

-- the front that is one longer
take_pledge : (k : ℕ) (ps : List PledgeValue) (i : ℕ) (p : PledgeValue) → pledge_from k ps (k + i) ≡ Some p → take (suc i) ps ≡ take i ps ++ p ∷ []
take_pledge k [] i p is = absurd_none is
take_pledge k (q ∷ ps) zero p is =
    let here : (k + 0 == k) ≡ true = grind (arith, nat_tests) in
    ap (λ r. r ∷ []) (some_is q p (sym (ap (λ v. if v then Some q else pledge_from (k + 1) ps (k + 0)) here) ∙ is))
take_pledge k (q ∷ ps) (suc i) p is =
    let past : (k + suc i == k) ≡ false = grind (arith, nat_tests) in
    let next : k + suc i ≡ (k + 1) + i = omega arith in
    let rest : pledge_from (k + 1) ps ((k + 1) + i) ≡ Some p = ap (pledge_from (k + 1) ps) (sym next)
    ∙ sym (ap (λ v. if v then Some q else pledge_from (k + 1) ps (k + suc i)) past) ∙ is in
    ap (λ qs. q ∷ qs) (take_pledge (k + 1) ps i p rest)

-- the first with a text is the one that has it, where no text stands twice
apart_at : (t : List ℕ) (k : ℕ) (ps : List PledgeValue) (n : ℕ) (p : PledgeValue) → list_any (is_same_text t) (references_of ps) ≡ false
    → pledge_from k ps n ≡ Some p → is_same_text t p.agreement.opening.reference ≡ false
apart_at t k [] n p none is = absurd_none is
apart_at t k (q ∷ ps) n p none is =
    elim (n == k) as (λ v. (if v then Some q else pledge_from (k + 1) ps n) ≡ Some p → is_same_text t p.agreement.opening.reference ≡ false) [
      | true ↦ λ here. subst (λ (r : PledgeValue). is_same_text t r.agreement.opening.reference ≡ false) (some_is q p here)
          (neither (is_same_text t q.agreement.opening.reference) (list_any (is_same_text t) (references_of ps)) none).0
      | false ↦
          λ past. apart_at t (k + 1) ps n p (neither (is_same_text t q.agreement.opening.reference) (list_any (is_same_text t) (references_of ps)) none).1 past
    ] is where
      neither : (a b : Bool) → (a || b) ≡ false → (a ≡ false) × (b ≡ false)
      neither true b is = cc is
      neither false b is = (refl, is)

pub first_is : (k : ℕ) (ps : List PledgeValue) (n : ℕ) (p : PledgeValue) → AreDistinct (references_of ps) → pledge_from k ps n ≡ Some p
    → with_reference ps p.agreement.opening.reference ≡ Some p
first_is k [] n p all is = absurd_none is
first_is k (q ∷ ps) n p all is =
    elim (n == k) as (λ v. (if v then Some q else pledge_from (k + 1) ps n) ≡ Some p → with_reference (q ∷ ps) p.agreement.opening.reference ≡ Some p) [
      | true ↦ λ here.
          let same : q ≡ p = some_is q p here in
          subst (λ (r : PledgeValue). with_reference (q ∷ ps) r.agreement.opening.reference ≡ Some r) same
          (ap (λ v. if v then Some q else with_reference ps q.agreement.opening.reference) (text_same q.agreement.opening.reference))
      | false ↦ λ past. ap (λ v. if v then Some q else with_reference ps p.agreement.opening.reference)
          (apart_at q.agreement.opening.reference (k + 1) ps n p all.0 past) ∙ first_is (k + 1) ps n p all.1 past
    ] is

-- no pledge of a front has a text that the first later one has
pub none_before : (k : ℕ) (front rest : List PledgeValue) (t : List ℕ) (q : PledgeValue) → AreNumberedFrom k front → with_reference (front ++ rest) t ≡ Some q
    → k + length front ≤ q.agreement.number → with_reference front t ≡ None
none_before k [] rest t q all is far = refl
none_before k (p ∷ front) rest t q all is far =
    elim (is_same_text p.agreement.opening.reference t) as
    (λ v. (if v then Some p else with_reference (front ++ rest) t) ≡ Some q → (if v then Some p else with_reference front t) ≡ None) [
      | true ↦ λ here. let own : q.agreement.number ≡ k = ap (λ (r : PledgeValue). r.agreement.number) (sym (some_is p q here))
          ∙ all.0 in absurd (omega (arith, own, far))
      | false ↦ λ past. none_before (k + 1) front rest t q all.1 past (omega (arith, far))
    ] is

numbered_push : (k : ℕ) (ps : List PledgeValue) (p : PledgeValue) → AreNumberedFrom k ps → p.agreement.number ≡ k + length ps → AreNumberedFrom k (ps ++ p ∷ [])
numbered_push k [] p all is = (omega (arith, is), tt)
numbered_push k (q ∷ ps) p all is = (all.0, numbered_push (k + 1) ps p all.1 (omega (arith, is)))

falls_push : (n : ℕ) (ps : List PledgeValue) (p : PledgeValue) → DoNotFall version_of n ps → last_by version_of n ps ≤ version_of p
    → DoNotFall version_of n (ps ++ p ∷ [])
falls_push n [] p all low = (low, tt)
falls_push n (q ∷ ps) p all low = (all.0, falls_push (version_of q) ps p all.1 low)

last_push : (n : ℕ) (ps : List PledgeValue) (p : PledgeValue) → last_by version_of n (ps ++ p ∷ []) ≡ version_of p
last_push n [] p = refl
last_push n (q ∷ ps) p = last_push (version_of q) ps p

length_take : (ps : List PledgeValue) (i : ℕ) → i ≤ length ps → length (take i ps) ≡ i
length_take [] zero h = refl
length_take [] (suc i) h = absurd (omega (arith, h))
length_take (p ∷ ps) zero h = refl
length_take (p ∷ ps) (suc i) h = let more = length_take ps i (omega (arith, h)) in omega (arith, more)

take_drop : (ps : List PledgeValue) (i : ℕ) → (rest : List PledgeValue) × (take i ps ++ rest ≡ ps)
take_drop [] zero = ([], refl)
take_drop [] (suc i) = ([], refl)
take_drop (p ∷ ps) zero = (p ∷ ps, refl)
take_drop (p ∷ ps) (suc i) = let more = take_drop ps i in (more.0, ap (λ qs. p ∷ qs) more.1)

number_is : (o : Option PledgeValue) (n : ℕ) → option_map (λ (p : PledgeValue). p.agreement.number) o ≡ Some n
    → (q : PledgeValue) × (o ≡ Some q) × (q.agreement.number ≡ n)
number_is None n is = absurd_none is
number_is (Some q) n is = (q, refl, some_is _ _ is)

pub front_more : (k : BookValue) (i : ℕ) (version rows next more : ℕ) (p : PledgeValue) → i < length k.pledges → pledge_from 1 k.pledges (1 + i) ≡ Some p
    → FitsAt k (1 + i) p → version ≤ next → next ≡ version_of p → more ≡ pledge_row_count p → IsFront k (take i k.pledges) version rows
    → IsFront k (take (i + 1) k.pledges) next (rows + more)
front_more k i version rows next more p less at fits rise is few front =
    let long = length_take k.pledges i (omega (arith, less)) in
    let one_more : i + 1 ≡ suc i = omega arith in
    let rest = take_drop k.pledges i in
    let first = number_is (with_reference k.pledges p.agreement.opening.reference) (1 + i) fits.reference in
    let found : with_reference (take i k.pledges ++ rest.0) p.agreement.opening.reference ≡ Some first.0 =
    ap (λ qs. with_reference qs p.agreement.opening.reference) rest.1 ∙ first.1 in
    let far : 1 + length (take i k.pledges) ≤ first.0.agreement.number = omega (arith, long, first.2) in
    let none = none_before 1 (take i k.pledges) rest.0 p.agreement.opening.reference first.0 front.numbered found far in
    subst (λ qs. IsFront k qs next (rows + more)) (sym (ap (λ n. take n k.pledges) one_more ∙ take_pledge 1 k.pledges i p at)) (record {
      numbered = numbered_push 1 (take i k.pledges) p front.numbered (omega (arith, fits.number, long));
      reachable = Each-push IsReachable (take i k.pledges) p front.reachable fits.reachable;
      references = references_push (take i k.pledges) p front.references none;
      under = Each-push (IsUnder k.terms) (take i k.pledges) p front.under fits.under;
      versions = falls_push 0 (take i k.pledges) p front.versions (omega (arith, front.last, rise, is));
      texts_and_words = Each-push HasTextsAndWords (take i k.pledges) p front.texts_and_words fits.texts_and_words;
      last = is ∙ sym (last_push 0 (take i k.pledges) p);
      counted = let sums = sum_by_push pledge_row_count (take i k.pledges) p in omega (arith, sums, few, front.counted);
    })

-- the next pledge, as it was found
pub front_next : (k : BookValue) (i n : ℕ) (version rows next more : ℕ) → i < length k.pledges → n ≡ i + 1
    → ((p : PledgeValue) × (pledge_from 1 k.pledges n ≡ Some p) × FitsAt k n p × (version ≤ next) × (next ≡ version_of p) × (more ≡ pledge_row_count p))
    → IsFront k (take i k.pledges) version rows → IsFront k (take (i + 1) k.pledges) next (rows + more)
front_next k i n version rows next more less at found front =
    let same : n ≡ 1 + i = omega (arith, at) in
    let p = found.0 in
    front_more k i version rows next more p less (subst (λ (m : ℕ). pledge_from 1 k.pledges m ≡ Some p) same found.1)
    (subst (λ (m : ℕ). FitsAt k m p) same found.2)
    found.3 found.4 found.5 front

pub front_all : (k : BookValue) (i version rows : ℕ) → i ≡ length k.pledges → IsFront k (take i k.pledges) version rows → IsFront k k.pledges version rows
front_all k i version rows all front = subst (λ qs. IsFront k qs version rows) (take_each k.pledges i all) front

-- ---- the pledges of sound books

falls_at : (n k : ℕ) (ps : List PledgeValue) (i : ℕ) (p : PledgeValue) → DoNotFall version_of n ps → pledge_from k ps (k + i) ≡ Some p
    → last_by version_of n (take i ps) ≤ version_of p
falls_at n k [] i p all is = absurd_none is
falls_at n k (q ∷ ps) zero p all is =
    let here : (k + 0 == k) ≡ true = grind (arith, nat_tests) in
    let same : q ≡ p = some_is q p (sym (ap (λ v. if v then Some q else pledge_from (k + 1) ps (k + 0)) here) ∙ is) in
    subst (λ r. n ≤ version_of r) same all.0
falls_at n k (q ∷ ps) (suc i) p all is =
    let past : (k + suc i == k) ≡ false = grind (arith, nat_tests) in
    let next : k + suc i ≡ (k + 1) + i = omega arith in
    let rest : pledge_from (k + 1) ps ((k + 1) + i) ≡ Some p = ap (pledge_from (k + 1) ps) (sym next)
    ∙ sym (ap (λ v. if v then Some q else pledge_from (k + 1) ps (k + suc i)) past) ∙ is in
    falls_at (version_of q) (k + 1) ps i p all.1 rest

pub sound_versions : (k : BookValue) (i : ℕ) (p : PledgeValue) → IsSoundBook k → pledge_from 1 k.pledges (1 + i) ≡ Some p
    → last_by version_of 0 (take i k.pledges) ≤ version_of p
sound_versions k i p sound is = falls_at 0 1 k.pledges i p sound.rows.versions is

pub sound_fits : (k : BookValue) (n : ℕ) (p : PledgeValue) → IsSoundBook k → pledge_from 1 k.pledges n ≡ Some p → FitsAt k n p
sound_fits k n p sound is =
    let number = numbered_at 1 k.pledges n p sound.rows.numbered is in record {
      number = number;
      reachable = each_at IsReachable 1 k.pledges n p sound.rows.reachable is;
      under = each_at (IsUnder k.terms) 1 k.pledges n p sound.rows.under is;
      reference = ap (λ (o : Option PledgeValue). option_map (λ (q : PledgeValue). q.agreement.number) o) (first_is 1 k.pledges n p sound.rows.references is)
          ∙ ap (λ m. Some m) number;
      texts_and_words = each_at HasTextsAndWords 1 k.pledges n p sound.texts_and_words is;
    }

-- ---- what was found is passed on

-- a fault is passed on as it is
pub handed_on : {T : Type 0} (h : Host) (fault : CheckFault) (r : Result T CheckFault) (P : T → Type 0) → r ≡ Err fault → Blames h fault → FindsSound h r P
handed_on {T} h fault r P is blames = subst (λ (r : Result T CheckFault). FindsSound h r P) (sym is) blames

-- a pledge within the book's count is found
pub unfound : (h : Host) (b n : ℕ) (k : BookValue) → get h.books b ≡ Some k → 1 ≤ n → n ≤ length k.pledges → None ≡ pledge_in (get h.books b) n → ⊥
unfound h b n k is low high none = there 1 k.pledges n low (omega (arith, high)) (ap (λ o. pledge_in o n) (sym is) ∙ sym none)

-- ---- a book that is not sound

pub unsound_at : (h : Host) (b : ℕ) (k : BookValue) → get h.books b ≡ Some k → (IsSoundBook k → ⊥) → HasUnsoundBook h
unsound_at h b k is refuted = (b, (k, is, λ sound. refuted sound.1))

-- a pledge that does not fit
pub unfit_at : (h : Host) (b n : ℕ) (k : BookValue) (p : PledgeValue) → get h.books b ≡ Some k → pledge_from 1 k.pledges n ≡ Some p → (FitsAt k n p → ⊥)
    → HasUnsoundBook h
unfit_at h b n k p is at unfit = unsound_at h b k is (λ sound. unfit (sound_fits k n p sound at))

-- one under an earlier version than the one before it
pub falls_below : (h : Host) (b place n version : ℕ) (k : BookValue) (p : PledgeValue) → get h.books b ≡ Some k → n ≡ place + 1
    → pledge_from 1 k.pledges n ≡ Some p → version ≡ last_by version_of 0 (take place k.pledges) → version_of p < version → HasUnsoundBook h
falls_below h b place n version k p is next at last falls =
    unsound_at h b k is (λ sound.
    let same : n ≡ 1 + place = omega (arith, next) in
    let low = sound_versions k place p sound (subst (λ (m : ℕ). pledge_from 1 k.pledges m ≡ Some p) same at) in
    omega (arith, low, last, falls))

-- ---- what was tested

pub both_ways : (b : Bool) → IsTrue b → b ≡ false → ⊥
both_ways true holds not' = cc not'
both_ways false holds not' = cc holds

-- ---- the terms of a book that stands

pub next_checked : (h : Host) (b i : ℕ) (k : BookValue) (t : Rates) → get h.books b ≡ Some k → Some t ≡ terms_at (terms_of (get h.books b)) (i + 1)
    → IsChecked t → Each {X = Rates} IsChecked (take i k.terms) → Each {X = Rates} IsChecked (take (i + 1) k.terms)
next_checked h b i k t is at checked all = checked_more k.terms i t (ap (λ o. terms_at (terms_of o) (i + 1)) (sym is) ∙ sym at) checked all

pub all_checked : (k : BookValue) (i : ℕ) → i ≡ length k.terms → Each {X = Rates} IsChecked (take i k.terms) → Each {X = Rates} IsChecked k.terms
all_checked k i all each = subst (Each {X = Rates} IsChecked) (take_each k.terms i all) each

-- ---- a whole book

module _ (k : BookValue) (head : BookHead) (is : head ≡ book_head k) (rows : ℕ) where
  pub sound_book : IsWord head.key → IfSome head.imported (λ i. IsWord i.key) → IsUtf8 head.name → IsText most_name_bytes head.name → IsCapacity head.capacity
      → head.terms ≤ most_terms → head.pledges ≤ most_pledges
      → Each {X = Rates} IsChecked k.terms → ((version : ℕ) × IsFront k k.pledges version rows) → IsSoundBook k
  sound_book key imported utf8 name capacity few_terms few_pledges checked front = record {
    key = subst (λ (x : BookHead). IsWord x.key) is key;
    imported = subst (λ (x : BookHead). IfSome x.imported (λ i. IsWord i.key)) is imported;
    utf8 = subst (λ (x : BookHead). IsUtf8 x.name) is utf8;
    name = subst (λ (x : BookHead). IsText most_name_bytes x.name) is name;
    capacity = subst (λ (x : BookHead). IsCapacity x.capacity) is capacity;
    rows = record {
      numbered = front.1.numbered;
      reachable = front.1.reachable;
      references = front.1.references;
      under = front.1.under;
      versions = front.1.versions;
      checked = checked;
      few_terms = subst (λ (x : BookHead). x.terms ≤ most_terms) is few_terms;
      few_pledges = subst (λ (x : BookHead). x.pledges ≤ most_pledges) is few_pledges;
    };
    texts_and_words = front.1.texts_and_words;
  }

  pub has_counts : ((version : ℕ) × IsFront k k.pledges version rows) → AreOfBook k (record { pledges = head.pledges; rows = 1 + head.terms + rows })
  has_counts front = record {
    pledges = ap (λ (x : BookHead). x.pledges) is;
    rows = let same = ap (λ (x : BookHead). x.terms) is in let sum = front.1.counted in omega (arith, same, sum);
  }
