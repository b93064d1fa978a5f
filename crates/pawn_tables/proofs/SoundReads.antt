-- What is kept of a sound host can be read of its rows.
use Rattle.pawn_base.proofs.ListLemmas.{last_by-le, DoNotFall-each}
use Rattle.pawn_base.proofs.RefusalLemmas.{first_of-is_ok}
use Rattle.pawn_base.specs.Lists.{DoNotFall, last_by}
use Rattle.pawn_book.proofs.Sounds.{reachable_at}
use Rattle.pawn_debt.specs.Answers.{draw_refusals, is_bad_amount, repay_refusals, with_entry}
use Rattle.pawn_debt.specs.Replay.{AreEntriesAccepted, sort_answer}
use Rattle.pawn_pledge.proofs.Briefs.{brief_is_within}
use Rattle.pawn_pledge.specs.declared.brief.BriefFields.{BriefFields}
use Rattle.pawn_tables.proofs.Basics.{each_at, nat_tests}
use Rattle.pawn_tables.proofs.PageLemmas.{last_later, last_some}
use Rattle.pawn_tables.specs.Common.{get, IsDayNumber, IsRequestDay, later_of, six_months, IsChecked, Rates, DebtValue}
use Rattle.pawn_tables.specs.Common.{Entry, Sort, Draw, Repay, PledgeValue, debt_of, end_of, last_element, last_until}
use Rattle.pawn_tables.specs.Common.{AreExtended, AreIssued, AreNumbered, Each, IsBooked, IsBriefWithin, IsClosed, IsReachable}
use Rattle.pawn_tables.specs.Common.{Booking, Closing, IsSound, brief_of}
use Rattle.pawn_tables.specs.Common.{Open, Redeemed, Sold, Extension, Issued, BookValue, pledge_from, pledge_in, Host}
use Rattle.pawn_tables.specs.Common.{entries_of, extensions_of, secrets_of, terms_of, terms_at, IsSoundBook}
use Rattle.pawn_tables.specs.Common.{IsUnsoundAt, AreWords, HasTextsAndWords, KeepError, Database, NoRecord, last_of}
use Rattle.pawn_tables.specs.Entries.{IsAmount, IsEntryDecodable}
use Rattle.pawn_tables.specs.Finding.{Finds, IsRead}
use Rattle.pawn_tables.specs.ListEnds.{last_seq, stored_brief}
use Rattle.pawn_tables.specs.PledgeRows.{IsBriefDecodable, IsCreditDecodable, IsRowDecodable, booking_of, totals_in}
use Rattle.pawn_tables.specs.Rows.{closed_day}
use Rattle.pawn_tables.specs.StandsFor.{AreStorable}
use Rattle.pawn_terms.proofs.CalendarLemmas.{page_date}
use Rattle.pawn_terms.proofs.SixMonths.{six_months_is}
use Rattle.pawn_terms.specs.Limits.{first_day, last_request_day}
use Rattle.std.proofs.Common.{◌≡◌, ℕ, zero, suc, ◌+◌, ◌-◌, ◌≤◌, List, [], ◌∷◌, slice_get, Option, Some, None, Result, Ok}
use Rattle.std.proofs.Common.{Err, refl, sym, subst, arith, length, option_map, ◌++◌, IsOk, false, IfSome, IsTrue}
use Rattle.std.proofs.Common.{is_some, ap, ◌∙◌, unwrap_or}
use Rattle.pawn_book.specs.declared.fault.KeepError.TheVariants as Keeper

-- ---- answers

-- an error for what was joined
pub unjoined : {A B : Type 0} (e : KeepError) (x : A) (s : Result B KeepError) (P : B → Type 0) (V U : Type 0) → s ≡ Err e → IsRead (Err e) x V → ((V → ⊥) → U)
    → Finds s P U
unjoined e x s P V U same read bad = subst (λ r. Finds r P U) (sym same) (go e read) where
  go : (k : KeepError) → IsRead (Err k) x V → Finds (Err k) P U
  go Keeper.Memory f = tt
  go (Keeper.Store NoRecord) f = bad f
  go (Keeper.Store Database) f = tt

-- an error that says something only if a row could not be decoded
pub undecoded : {B : Type 0} (e : KeepError) (s : Result B KeepError) (P : B → Type 0) (U : Type 0) → s ≡ Err e → (e ≡ Keeper.Store NoRecord → U) → Finds s P U
undecoded e s P U same bad = subst (λ r. Finds r P U) (sym same) (go e bad) where
  go : (k : KeepError) → (k ≡ Keeper.Store NoRecord → U) → Finds (Err k) P U
  go Keeper.Memory bad = tt
  go (Keeper.Store NoRecord) bad = bad refl
  go (Keeper.Store Database) bad = tt

-- ---- a pledge of a sound book

-- where a fact that sound books have of their pledges fails of this one, its book is not sound
pub unsound_pledge : (h : Host) (b n : ℕ) (Q : Option PledgeValue → Type 0) → Q None → ((k : BookValue) (p : PledgeValue) → get h.books b ≡ Some k
    → IsSoundBook k → pledge_from 1 k.pledges n ≡ Some p → Q (Some p)) → (Q (pledge_in (get h.books b) n) → ⊥) → IsUnsoundAt b h
unsound_pledge h b n Q none some bad = inside (get h.books b) refl bad where
  in_book : (k : BookValue) → get h.books b ≡ Some k → IsSoundBook k → (o : Option PledgeValue) → pledge_from 1 k.pledges n ≡ o → Q o
  in_book k is sound None at = none
  in_book k is sound (Some p) at = some k p is sound at

  inside : (o : Option BookValue) → get h.books b ≡ o → (Q (pledge_in o n) → ⊥) → IsUnsoundAt b h
  inside None is bad = absurd (bad none)
  inside (Some k) is bad = (k, is, λ sound. bad (in_book k is sound.1 (pledge_from 1 k.pledges n) refl))

reachable_of : (k : BookValue) (n : ℕ) (p : PledgeValue) → IsSoundBook k → pledge_from 1 k.pledges n ≡ Some p → IsReachable p
reachable_of k n p sound at = each_at IsReachable 1 k.pledges n p sound.rows.reachable at

taken_of : (h : Host) → AreStorable h → (b n : ℕ) (k : BookValue) (p : PledgeValue) → get h.books b ≡ Some k → pledge_from 1 k.pledges n ≡ Some p
    → first_day ≤ p.agreement.taken
taken_of h storable b n k p is at = each_at (λ q. first_day ≤ q.agreement.taken) 1 k.pledges n p (storable b k is).taken at

-- days from the day taken to the last change
day_of_pledge : (taken d last : ℕ) → first_day ≤ taken → taken ≤ d → d ≤ last → last ≤ last_request_day → IsDayNumber d
day_of_pledge taken d last first low high end = (omega (arith, first, low), omega (arith, high, end))

pub each_weaker : {A : Type 0} (P Q : A → Type 0) → ((x : A) → P x → Q x) → (xs : List A) → Each P xs → Each Q xs
each_weaker P Q f [] all = tt
each_weaker P Q f (x ∷ xs) all = (f x all.0, each_weaker P Q f xs all.1)

days_in : {A : Type 0} (f : A → ℕ) (taken last : ℕ) (xs : List A) → first_day ≤ taken → DoNotFall f taken xs → last_by f taken xs ≤ last
    → last ≤ last_request_day
    → Each (λ x. IsDayNumber (f x)) xs
days_in f taken last xs first ordered before end =
    each_weaker (λ x. (taken ≤ f x) × (f x ≤ last)) (λ x. IsDayNumber (f x)) (λ x both. day_of_pledge taken (f x) last first both.0 both.1 end) xs
    (DoNotFall-each f taken taken last xs (omega arith) ordered before)

days_extended : (day ends : ℕ) (es : List Extension) → first_day ≤ day → AreExtended day ends es → Each (λ e. e.until ≤ last_request_day) es
    → Each (λ e. IsDayNumber e.day × IsDayNumber e.until) es
days_extended day ends [] first extended named = tt
days_extended day ends (e ∷ es) first extended named = let a = extended.0 in
    let b = extended.1 in let d = extended.2 in
    let u = named.0 in (
      ((omega (arith, first, a), omega (arith, b, d, u)), (omega (arith, first, a, b, d), omega (arith, u))),
      days_extended e.day e.until es (omega (arith, first, a)) extended.3 named.1,
    )

-- ---- sums

some_pence : (pence : ℕ) → is_bad_amount pence ≡ false → IsAmount pence
some_pence pence h = (grind (arith, nat_tests, h), grind (arith, nat_tests, h))

-- what the rules accept is a sum within the limits
accepted_amount : (s : Sort) (d : DebtValue) (x pence : ℕ) → IsOk (sort_answer s d x pence) → IsAmount pence
accepted_amount Draw d x pence h = some_pence pence ((first_of-is_ok (draw_refusals d x pence) (Ok (with_entry d x Draw pence)) h).0.1.1.0)
accepted_amount Repay d x pence h = some_pence pence ((first_of-is_ok (repay_refusals d x pence) (Ok (with_entry d x Repay pence)) h).0.1.0)

all_amounts : (d : DebtValue) (prior es : List Entry) → AreEntriesAccepted d prior es → Each (λ e. IsAmount e.pence) es
all_amounts d prior [] h = tt
all_amounts d prior (e ∷ es) h = (accepted_amount e.sort (record d { entries = prior }) e.day e.pence h.0.1, all_amounts d (prior ++ e ∷ []) es h.1)

both_told : (es : List Entry) → Each (λ e. IsAmount e.pence) es → Each (λ e. IsDayNumber e.day) es → Each IsEntryDecodable es
both_told [] amounts days = tt
both_told (e ∷ es) amounts days = ((days.0, amounts.0), both_told es amounts.1 days.1)

module _ (h : Host) (storable : AreStorable h) (b n : ℕ) where
  abbrev found : Option PledgeValue
  found = pledge_in (get h.books b) n

  -- the pledge of this number in a sound book
  abbrev pub IsIn : BookValue → PledgeValue → Type 0
  IsIn k p = (get h.books b ≡ Some k) × IsSoundBook k × (pledge_from 1 k.pledges n ≡ Some p)

  pub entries_told : (k : BookValue) (p : PledgeValue) → IsIn k p → Each IsEntryDecodable p.entries
  entries_told k p (is, sound, at) = let s = reachable_of k n p sound at in
      both_told p.entries (all_amounts (debt_of p) [] p.entries s.replayable.entered.accepted) (days_in (λ e. e.day) p.agreement.taken p.standing.last p.entries
      (taken_of h storable b n k p is at) s.replayable.entered.ordered s.replayable.entered.before s.within.last)

  pub entries_unsound : (Each IsEntryDecodable (entries_of found) → ⊥) → IsUnsoundAt b h
  entries_unsound bad =
      unsound_pledge h b n (λ o. Each IsEntryDecodable (entries_of o)) tt (λ k p is sound at. entries_told k p (is, sound, at)) bad

  pub secrets_told : (k : BookValue) (p : PledgeValue) → IsIn k p → Each (λ i. IsDayNumber i.day) p.secrets
  secrets_told k p (is, sound, at) = let s = reachable_of k n p sound at in
      days_in (λ i. i.day) p.agreement.taken p.standing.last p.secrets
      (taken_of h storable b n k p is at) s.replayable.issued.ordered s.replayable.issued.before s.within.last

  pub secrets_unsound : (Each (λ i. IsDayNumber i.day) (secrets_of found) → ⊥) → IsUnsoundAt b h
  secrets_unsound bad =
      unsound_pledge h b n (λ o. Each (λ i. IsDayNumber i.day) (secrets_of o)) tt (λ k p is sound at. secrets_told k p (is, sound, at)) bad

  pub extensions_told : (k : BookValue) (p : PledgeValue) → IsIn k p → Each (λ e. IsDayNumber e.day × IsDayNumber e.until) p.extensions
  extensions_told k p (is, sound, at) = let s = reachable_of k n p sound at in
      days_extended p.agreement.taken _ p.extensions (taken_of h storable b n k p is at) s.replayable.extended.each s.within.untils

  pub extensions_unsound : (Each (λ e. IsDayNumber e.day × IsDayNumber e.until) (extensions_of found) → ⊥) → IsUnsoundAt b h
  extensions_unsound bad = unsound_pledge h b n (λ o. Each (λ e. IsDayNumber e.day × IsDayNumber e.until) (extensions_of o)) tt
      (λ k p is sound at. extensions_told k p (is, sound, at)) bad

  booked_day : (p : PledgeValue) (o : Option Booking) → first_day ≤ p.agreement.taken → IsBooked p o → IfSome o (λ k. k.day ≤ last_request_day)
      → IfSome o (λ k. IsDayNumber k.day)
  booked_day p None first booked named = tt
  booked_day p (Some k) first booked named = let a = booked.0 in (omega (arith, first, a), omega (arith, named))

  pub booking_told : (k : BookValue) (p : PledgeValue) → IsIn k p → IfSome p.standing.booking (λ c. IsDayNumber c.day)
  booking_told k p (is, sound, at) = let s = reachable_of k n p sound at in
      booked_day p p.standing.booking (taken_of h storable b n k p is at) s.replayable.booked s.within.booking

  pub booking_unsound : (IfSome (booking_of found) (λ k. IsDayNumber k.day) → ⊥) → IsUnsoundAt b h
  booking_unsound bad =
      unsound_pledge h b n (λ o. IfSome (booking_of o) (λ k. IsDayNumber k.day)) tt (λ k p is sound at. booking_told k p (is, sound, at)) bad

  pub totals_unsound : (IfSome (totals_in found) (λ t. IsDayNumber t.day) → ⊥) → IsUnsoundAt b h
  totals_unsound bad = unsound_pledge h b n (λ o. IfSome (totals_in o) (λ t. IsDayNumber t.day)) tt (λ k p is sound at.
      let s = reachable_of k n p sound at in let low = last_by-le (λ e. e.day) p.agreement.taken p.entries s.replayable.entered.ordered in
      day_of_pledge p.agreement.taken (last_of p.agreement.taken p.entries) p.standing.last
      (taken_of h storable b n k p is at) low s.replayable.entered.before s.within.last) bad

  closed_in : (p : PledgeValue) (c : Closing) → first_day ≤ p.agreement.taken → p.agreement.taken ≤ p.standing.last → p.standing.last ≤ last_request_day
      → IsClosed p c → IfSome (closed_day c) IsDayNumber
  closed_in p Open first low high closed = tt
  closed_in p (Redeemed day paid) first low high closed = let e = closed.0 in (omega (arith, first, low, e), omega (arith, high, e))
  closed_in p (Sold day net) first low high closed = let e = closed.0 in (omega (arith, first, low, e), omega (arith, high, e))

  pub row_told : (k : BookValue) (p : PledgeValue) → get h.books b ≡ Some k → IsSoundBook k → pledge_from 1 k.pledges n ≡ Some p → IsRowDecodable p
  row_told k p is sound at = let s = reachable_of k n p sound at in
      let w : HasTextsAndWords p = each_at HasTextsAndWords 1 k.pledges n p sound.texts_and_words at in
      let first = taken_of h storable b n k p is at in let low = s.replayable.last_in in
      let high = s.within.last in
      record {
        opening = record {
          reference = (s.within.opening.reference, w.reference);
          article = (s.within.opening.article, w.article);
          agreed = s.within.opening.agreed;
        };
        taken = (first, omega (arith, low, high));
        last = (omega (arith, first, low), omega (arith, high));
        closed = closed_in p p.standing.closing first low high s.replayable.closed;
      }

  pub row_unsound : (IfSome found IsRowDecodable → ⊥) → IsUnsoundAt b h
  row_unsound bad = unsound_pledge h b n (λ o. IfSome o IsRowDecodable) tt row_told bad

-- what the row of a pledge holds that its debt depends on
pub credit_unsound : (h : Host) → AreStorable h → (b n : ℕ) → (IfSome (pledge_in (get h.books b) n) IsCreditDecodable → ⊥) → IsUnsoundAt b h
credit_unsound h storable b n bad = unsound_pledge h b n (λ o. IfSome o IsCreditDecodable) tt (λ k p is sound at.
    let s = reachable_of k n p sound at in let low = s.replayable.last_in in
    let high = s.within.last in
    record { taken = (taken_of h storable b n k p is at, omega (arith, low, high)); agreed = s.within.opening.agreed }) bad

-- a pledge that can't stand is of a book that is not sound
pub unreachable_unsound : (h : Host) (b n : ℕ) (p : PledgeValue) → pledge_in (get h.books b) n ≡ Some p → (IsReachable p → ⊥) → IsUnsoundAt b h
unreachable_unsound h b n p at bad = unsound_pledge h b n (λ o. IfSome o IsReachable) tt (λ k q is sound here. reachable_of k n q sound here)
    (λ all. bad (subst (λ o. IfSome o IsReachable) at all))

-- the secrets of a pledge are words
pub words_in : (h : Host) → AreStorable h → (b n : ℕ) → AreWords (secrets_of (pledge_in (get h.books b) n))
words_in h storable b n = inside (get h.books b) refl where
  at : (k : BookValue) → get h.books b ≡ Some k → (o : Option PledgeValue) → pledge_from 1 k.pledges n ≡ o → AreWords (secrets_of o)
  at k is None e = tt
  at k is (Some p) e = each_at (λ q. AreWords q.secrets) 1 k.pledges n p (storable b k is).secrets e

  inside : (o : Option BookValue) → get h.books b ≡ o → AreWords (secrets_of (pledge_in o n))
  inside None is = tt
  inside (Some k) is = at k is (pledge_from 1 k.pledges n) refl

-- the terms of a version
pub terms_unsound : (h : Host) (b v : ℕ) → (IfSome (terms_at (terms_of (get h.books b)) v) IsChecked → ⊥) → IsUnsoundAt b h
terms_unsound h b v bad = inside (get h.books b) refl bad where
  at : (ts : List Rates) (n : ℕ) → Each IsChecked ts → IfSome (slice_get ts n) IsChecked
  at [] n all = tt
  at (t ∷ ts) zero all = all.0
  at (t ∷ ts) (suc n) all = at ts n all.1

  under : (ts : List Rates) (w : ℕ) → Each IsChecked ts → IfSome (terms_at ts w) IsChecked
  under ts zero all = tt
  under ts (suc n) all = at ts n all

  inside : (o : Option BookValue) → get h.books b ≡ o → (IfSome (terms_at (terms_of o) v) IsChecked → ⊥) → IsUnsoundAt b h
  inside None is bad = absurd (bad (under [] v tt))
  inside (Some k) is bad = (k, is, λ sound. bad (under k.terms v sound.1.rows.checked))

-- ---- the end of a period is a day

six_months_day : (taken : ℕ) → first_day ≤ taken → taken ≤ last_request_day → IsDayNumber (six_months taken)
six_months_day taken low high = let page = page_date taken (low, omega (arith, high)) in
    (six_months_is page.0 taken (low, high) page.4).2

later_day : (day : ℕ) (other : Option ℕ) → IsDayNumber day → IfSome other (λ d. d ≤ last_request_day) → IsDayNumber (later_of day other)
later_day day None is named = is
later_day day (Some d) is named = grind arith

named_last : (es : List Extension) → Each (λ e. e.until ≤ last_request_day) es → IfSome (last_until es) (λ d. d ≤ last_request_day)
named_last es all = go (last_element es) (at es (length es - 1) all) where
  at : (xs : List Extension) (i : ℕ) → Each (λ e. e.until ≤ last_request_day) xs → IfSome (slice_get xs i) (λ e. e.until ≤ last_request_day)
  at [] i all = tt
  at (x ∷ xs) zero all = all.0
  at (x ∷ xs) (suc i) all = at xs i all.1

  go : (o : Option Extension) → IfSome o (λ e. e.until ≤ last_request_day) → IfSome (option_map (λ (e : Extension). e.until) o) (λ d. d ≤ last_request_day)
  go None named = tt
  go (Some e) named = named

named_agreed : (o : Option ℕ) → IfSome o IsRequestDay → IfSome o (λ d. d ≤ last_request_day)
named_agreed None is = tt
named_agreed (Some d) is = is.1

end_day : (p : PledgeValue) → IsReachable p → first_day ≤ p.agreement.taken → IsDayNumber (end_of p)
end_day p s first = let six = six_months_day p.agreement.taken first (let low = s.replayable.last_in in let high = s.within.last in omega (arith, low, high)) in
    later_day _ (last_until p.extensions) (later_day _ p.agreement.opening.agreed six (named_agreed p.agreement.opening.agreed s.within.opening.agreed))
    (named_last p.extensions s.within.untils)

-- a pledge has a secret
has_secret : (taken credit : ℕ) (is : List Issued) → AreIssued taken credit is → IsTrue (is_some (last_element is))
has_secret taken credit [] issued = absurd issued
has_secret taken credit (i ∷ is) issued = subst (λ o. IsTrue (is_some o)) (sym (last_some i is).1) refl

-- where entries are numbered k + 1, k + 2, .., the last one's number says how many there are
seq_counts : (k : ℕ) (es : List Entry) → AreNumbered (k + 1) es → unwrap_or (option_map (λ (e : Entry). e.seq) (last_element es)) k ≡ k + length es
seq_counts k [] numbered = omega arith
seq_counts k (e ∷ []) numbered = let first = numbered.0 in omega (arith, first)
seq_counts k (e ∷ (f ∷ es)) numbered = let last = last_some f es in let later = seq_counts (k + 1) (f ∷ es) numbered.1 in
    let more : (k + 1) + length (f ∷ es) ≡ k + length (e ∷ f ∷ es) = omega arith in
    ap (λ o. unwrap_or (option_map (λ (e : Entry). e.seq) o) k) (last_later e f es ∙ last.1)
    ∙ sym (ap (λ o. unwrap_or (option_map (λ (e : Entry). e.seq) o) (k + 1)) last.1) ∙ later ∙ more

-- the brief that is read of a reachable pledge is its brief
stored_is : (p : PledgeValue) → IsReachable p → stored_brief p ≡ brief_of p
stored_is p s = ap with_entries count where
  with_entries : ℕ → BriefFields
  with_entries n = record (brief_of p) { counts = record { entries = n; secrets = length p.secrets; extensions = length p.extensions } }

  count : last_seq p.entries ≡ length p.entries
  count = let it = seq_counts 0 p.entries s.replayable.entered.numbered in omega (arith, it)

-- the briefs that are read of the books of a sound host are those of its pledges
pub sound_briefs : (h : Host) → IsSound h → (b n : ℕ)
    → option_map stored_brief (pledge_in (get h.books b) n) ≡ option_map brief_of (pledge_in (get h.books b) n)
sound_briefs h sound b n = go (pledge_in (get h.books b) n) refl where
  go : (o : Option PledgeValue) → pledge_in (get h.books b) n ≡ o → option_map stored_brief o ≡ option_map brief_of o
  go None is = refl
  go (Some p) is = ap Some (stored_is p (reachable_at h b n p sound is).0)

-- a pledge that has no brief is of a book that is not sound
pub brief_unsound : (h : Host) → AreStorable h → (b n : ℕ) (p : PledgeValue) → pledge_in (get h.books b) n ≡ Some p → (IsBriefDecodable p → ⊥) → IsUnsoundAt b h
brief_unsound h storable b n p at bad = unsound_pledge h b n (λ o. IfSome o IsBriefDecodable) tt (λ k q is sound here.
    let s = reachable_of k n q sound here in
    record {
      secret = has_secret q.agreement.taken _ q.secrets s.replayable.issued.sorts;
      ends = end_day q s (taken_of h storable b n k q is here);
      within = subst IsBriefWithin (sym (stored_is q s)) (brief_is_within q s);
    }) (λ all. bad (subst (λ o. IfSome o IsBriefDecodable) at all))
