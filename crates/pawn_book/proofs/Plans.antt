-- A plan by a keeper's answers is the book's step.
use Rattle.pawn_base.proofs.RefusalLemmas.{first_of-ok, past_row-ok}
use Rattle.pawn_book.proofs.Sounds.{IsNext, absurd_none, some_is, sound_filled, sound_made, sound_next, sound_terms}
use Rattle.pawn_book.proofs.Sounds.{sound_with}
use Rattle.pawn_book.specs.BookStep.{BookValue, Makes, Outcome, Refuses, book_head, changed_book, filled_book}
use Rattle.pawn_book.specs.BookStep.{first_receipt, import_rows, is_empty, made_book, make_book, make_or_refuse, newest}
use Rattle.pawn_book.specs.BookStep.{next_pledge, next_terms, pledge_from, pledge_in, put_from, put_terms, take_pledge}
use Rattle.pawn_book.specs.BookStep.{opening_refusals, with_reference}
use Rattle.pawn_book.specs.Books.{AddTerms, BookFilled, BookMade, BookNotEmpty, BookRows, Change, ImportBook, MakeBook}
use Rattle.pawn_book.specs.Books.{Memory, NewBook, NewTerms, Opened, Planned, PledgesFull, PutPledge, Refusal}
use Rattle.pawn_book.specs.Books.{TermsFull, TermsPut, TermsSeq}
use Rattle.pawn_book.specs.Changes.{CanSave, IsUnfilled, book_number, with_change}
use Rattle.pawn_book.specs.Common.{Each, IsChecked, IsNumber, IsReachable, IsText, IsUtf8, Issued, Opening}
use Rattle.pawn_book.specs.Common.{PledgeValue, Rates, Stamp, new_pledge, result_unwrap_or}
use Rattle.pawn_book.specs.HostStep.{Host, with_book}
use Rattle.pawn_book.specs.Keeping.{number_of, pledges_of, terms_of}
use Rattle.pawn_book.specs.Limits.{IsCapacity, most_name_bytes, most_pledges, most_terms}
use Rattle.pawn_book.specs.Plans.{Plans}
use Rattle.pawn_book.specs.Rows.{AreNumberedFrom, AreReplayable, is_same_text, terms_at}
use Rattle.pawn_book.specs.Sound.{AreSound, AreWords, HasTextsAndWords, IsSound, IsWord}
use Rattle.pawn_book.specs.declared.change.BookHead.{BookHead}
use Rattle.pawn_terms.specs.Calendar.{IsDayNumber}
use Rattle.std.proofs.Common.{◌≡◌, ◌≢◌, ℕ, ◌+◌, ◌<◌, ◌≤◌, zero, suc, List, [], ◌∷◌, ◌++◌, length, Some, None, Ok, Err}
use Rattle.std.proofs.Common.{refl, ◌∙◌, ap, sym, subst, arith, inl, if◌then◌else◌, Option, Result, ◌==◌, true, false}
use Rattle.std.proofs.Common.{nat_lt, nat_le, option_map, IfErr, IfOk}
use Rattle.std.proofs.lemmas.Bool.{and_parts}
use Rattle.std.proofs.lemmas.Bool.Decides.{nat_tests}
use Rattle.std.specs.FinMap.{get}

-- the book of a change, set in the host
pub changed_is : (h : Host) (b : ℕ) (change : Change) (book : BookValue) → book_number change ≡ b → changed_book (get h.books b) change ≡ Some book
    → with_change h change ≡ with_book h b (Some book)
changed_is h b change book named is = ap (λ (c : ℕ). with_book h c (changed_book (get h.books c) change)) named ∙ ap (with_book h b) is

-- a book that does not exist is made
pub book_plans : (h : Host) (b : ℕ) (new : NewBook) → IsNumber b → IsWord new.key → IsUtf8 new.name → IsText most_name_bytes new.name → IsCapacity new.capacity
    → IsSound h → get h.books b ≡ None → Plans h b (make_book (get h.books b) b new) (Ok (record { change = Some (MakeBook b new); reply = BookMade b }))
book_plans h b new number key utf8 name capacity sound none = (
  ap (λ o. make_book o b new) none,
  (refl, record { follows = none; sound = sound_with h b (made_book new) sound.books (number, sound_made new key utf8 name capacity) }),
)

-- a list of no length
no_elements : {A : Type 0} (xs : List A) → (length xs == 0) ≡ true → xs ≡ []
no_elements [] is = refl
no_elements (x ∷ xs) is = let none : length (x ∷ xs) ≡ 0 = grind (arith, nat_tests, is) in absurd (omega (arith, none))

-- the lists of an empty book
pub empty_lists : (book : BookValue) → is_empty (book_head book) ≡ true → (book.terms ≡ []) × (book.pledges ≡ [])
empty_lists book is = let each = and_parts (length book.terms == 0) (length book.pledges == 0) is in
    (no_elements book.terms each.0, no_elements book.pledges each.1)

pub without_lists : (book : BookValue) → book.terms ≡ [] → book.pledges ≡ [] → book ≡ record book { terms = []; pledges = [] }
without_lists book no_terms no_pledges = ap (λ ts. record book { terms = ts }) no_terms ∙ ap (λ ps. record book { terms = []; pledges = ps }) no_pledges

-- a book is filled
pub rows_plans : (h : Host) (b key : ℕ) (at : BookValue) (rows : BookRows) → IsSound h → get h.books b ≡ Some at → IsUnfilled at → IsWord key
    → AreReplayable rows.terms rows.pledges → Each HasTextsAndWords rows.pledges → CanSave h (ImportBook b key rows)
rows_plans h b key at rows sound is unfilled word replayable written =
    let book = filled_book at key rows in
    let same : with_change h (ImportBook b key rows) ≡ with_book h b (Some book) =
    changed_is h b (ImportBook b key rows) book refl (ap (λ o. changed_book o (ImportBook b key rows)) is) in
    record {
      follows = (at, is, unfilled);
      sound = subst AreSound (sym same)
          (sound_with h b book sound.books ((sound.books b at is).0, sound_filled at key rows (sound.books b at is).1 word written replayable));
    }

pub import_plans : (h : Host) (b key : ℕ) (at : BookValue) (head : BookHead) (rows : BookRows) → IsSound h → get h.books b ≡ Some at → head ≡ book_head at
    → head.imported ≡ None → is_empty head ≡ true → IsWord key → AreReplayable rows.terms rows.pledges → Each HasTextsAndWords rows.pledges → Plans h b
    (import_rows (book_head at) b key rows at.imported) (Ok (record { change = Some (ImportBook b key rows); reply = BookFilled (length rows.pledges) }))
import_plans h b key at head rows sound is heads none empty word replayable written =
    let imported : at.imported ≡ None = sym (ap (λ (d : BookHead). d.imported) heads) ∙ none in
    let empties : is_empty (book_head at) ≡ true = sym (ap is_empty heads) ∙ empty in
    let lists = empty_lists at empties in (
      ap (import_rows (book_head at) b key rows) imported
          ∙ ap (λ v. if v then Makes (ImportBook b key rows) (BookFilled (length rows.pledges)) else Refuses BookNotEmpty) empties,
      (refl, rows_plans h b key at rows sound is (record { terms = lists.0; pledges = lists.1; imported = imported }) word replayable written),
    )

-- the plan, unless memory runs out
pub planned_so : (h : Host) (b : ℕ) (o : Outcome) (planned : Planned) (r : Result Planned Refusal) → IfOk r (λ p. p ≡ planned) → IfErr r (λ why. why ≡ Memory)
    → Plans h b o (Ok planned) → Plans h b o r
planned_so h b o planned (Ok p) ok err plans = subst (λ q. Plans h b o (Ok q)) (sym ok) plans
planned_so h b o planned (Err why) ok err plans = inl (inl err)

-- the next version of terms is added
pub terms_plans : (h : Host) (b : ℕ) (at : BookValue) (new : NewTerms) (terms : Rates) → IsSound h → get h.books b ≡ Some at → terms_at at.terms new.version
    ≡ None → next_terms (length at.terms) new ≡ Ok terms → new.version ≡ length at.terms + 1 → length at.terms < most_terms → IsChecked terms → Plans h b
    (put_terms at b new (terms_at at.terms new.version)) (Ok (record { change = Some (AddTerms b new.version terms); reply = TermsPut new.version }))
terms_plans h b at new terms sound is none answer version few checked =
    let book : BookValue = record at { terms = at.terms ++ terms ∷ [] } in
    let same : with_change h (AddTerms b new.version terms) ≡ with_book h b (Some book) =
    changed_is h b (AddTerms b new.version terms) book refl (ap (λ o. changed_book o (AddTerms b new.version terms)) is) in (
      ap (put_terms at b new) none ∙ ap (λ r. make_or_refuse r (λ terms. Makes (AddTerms b new.version terms) (TermsPut new.version))) answer,
      (
        refl,
        record {
          follows = (at, is, version);
          sound =
              subst AreSound (sym same) (sound_with h b book sound.books ((sound.books b at is).0, sound_terms at terms (sound.books b at is).1 checked few));
        },
      ),
    )

-- the next pledge is taken
pub pledge_plans : (h : Host) (b : ℕ) (at : BookValue) (opening : Opening) (stamp : Stamp) (p : PledgeValue) → IsSound h → get h.books b ≡ Some at
    → with_reference at.pledges opening.reference ≡ None → next_pledge (book_head at) opening stamp (newest at.terms) ≡ Ok p
    → IsNext at p → IsReachable p → HasTextsAndWords p → Plans h b (take_pledge at b opening stamp (with_reference at.pledges opening.reference))
    (Ok (record { change = Some (PutPledge b p.agreement.number p); reply = Opened (first_receipt p) }))
pledge_plans h b at opening stamp p sound is none answer next reachable written =
    let book : BookValue = record at { pledges = put_from 1 at.pledges p.agreement.number p } in
    let same : with_change h (PutPledge b p.agreement.number p) ≡ with_book h b (Some book) =
    changed_is h b (PutPledge b p.agreement.number p) book refl (ap (λ o. changed_book o (PutPledge b p.agreement.number p)) is) in (
      ap (take_pledge at b opening stamp) none ∙ ap (λ r. make_or_refuse r (λ p. Makes (PutPledge b p.agreement.number p) (Opened (first_receipt p)))) answer,
      (
        refl,
        record {
          follows = (at, is, inl next.number);
          sound = subst AreSound (sym same)
              (sound_with h b book sound.books ((sound.books b at is).0, sound_next at p (sound.books b at is).1 next reachable written));
        },
      ),
    )

-- a pledge that is found by its reference is also found by its number
reference_from : (k : ℕ) (ps : List PledgeValue) (reference : List ℕ) (p : PledgeValue) → AreNumberedFrom k ps → with_reference ps reference ≡ Some p
    → (k ≤ p.agreement.number) × (pledge_from k ps p.agreement.number ≡ Some p)
reference_from k [] reference p numbered is = absurd_none is
reference_from k (r ∷ ps) reference p numbered is =
    elim (is_same_text r.agreement.opening.reference reference) as
    (λ v. (if v then Some r else with_reference ps reference) ≡ Some p → (k ≤ p.agreement.number) × (pledge_from k (r ∷ ps) p.agreement.number ≡ Some p)) [
      | true ↦ λ here.
          let same = some_is r p here in
          let at_k : p.agreement.number ≡ k = ap (λ (q : PledgeValue). q.agreement.number) (sym same) ∙ numbered.0 in
          let yes : (p.agreement.number == k) ≡ true = grind (arith, nat_tests, at_k) in
          (omega (arith, at_k), ap (λ v. if v then Some r else pledge_from (k + 1) ps p.agreement.number) yes ∙ here)
      | false ↦ λ there.
          let rest = reference_from (k + 1) ps reference p numbered.1 there in
          let past : k + 1 ≤ p.agreement.number = rest.0 in
          let apart : p.agreement.number ≢ k = λ same. absurd (omega (arith, same, past)) in
          let no : (p.agreement.number == k) ≡ false = grind (arith, nat_tests, apart) in
          (omega (arith, past), ap (λ v. if v then Some r else pledge_from (k + 1) ps p.agreement.number) no ∙ rest.1)
    ] is

-- the number of a reference leads to its pledge
pub found_by_number : (h : Host) (b n : ℕ) (reference : List ℕ) → IsSound h → Some n ≡ number_of (get h.books b) reference
    → pledge_in (get h.books b) n ≡ with_reference (pledges_of (get h.books b)) reference
found_by_number h b n reference sound is = from (get h.books b) refl is where
  at : (book : BookValue) → AreNumberedFrom 1 book.pledges → (o : Option PledgeValue) → with_reference book.pledges reference ≡ o
      → Some n ≡ option_map (λ p. p.agreement.number) o → pledge_from 1 book.pledges n ≡ o
  at book numbered None e is = absurd_none (sym is)
  at book numbered (Some p) e is =
      let same : n ≡ p.agreement.number = some_is n p.agreement.number is in
      ap (pledge_from 1 book.pledges) same ∙ (reference_from 1 book.pledges reference p numbered e).1

  from : (o : Option BookValue) → get h.books b ≡ o → Some n ≡ number_of o reference → pledge_in o n ≡ with_reference (pledges_of o) reference
  from None e is = refl
  from (Some book) e is = at book (sound.books b book e).1.rows.numbered (with_reference book.pledges reference) refl is ∙ refl

-- terms that are not refused have the next version, and there is room for them
pub next_is : (versions : ℕ) (new : NewTerms) (terms : Rates) → next_terms versions new ≡ Ok terms
    → (1 ≤ new.version) × (new.version ≤ versions + 1) × (versions < most_terms)
next_is versions new terms is =
    let zero_free = past_row-ok (new.version == 0) TermsSeq _ terms is in
    let not_ahead = past_row-ok (nat_lt (versions + 1) new.version) TermsSeq _ terms zero_free.1 in
    let not_full = past_row-ok (nat_le most_terms versions) TermsFull _ terms not_ahead.1 in
    (grind (arith, nat_tests, zero_free.0), grind (arith, nat_tests, not_ahead.0), grind (arith, nat_tests, not_full.0))

-- a version that the book does not have is above those that it has
pub absent_is_past : (terms : List Rates) (version : ℕ) → terms_at terms version ≡ None → 1 ≤ version → length terms < version
absent_is_past terms zero none low = absurd (omega (arith, low))
absent_is_past [] (suc n) none low = omega arith
absent_is_past (t ∷ ts) (suc zero) none low = absurd_none (sym none)
absent_is_past (t ∷ ts) (suc (suc n)) none low = let rest = absent_is_past ts (suc n) none (omega arith) in omega (arith, rest)

-- the next version of terms, by the answers of a keeper
pub next_plans : (h : Host) (b : ℕ) (at : BookValue) (head : BookHead) (new : NewTerms) (terms : Rates) → IsSound h → get h.books b ≡ Some at
    → head ≡ book_head at → None ≡ terms_at (terms_of (get h.books b)) new.version → next_terms head.terms new ≡ Ok terms → IsChecked terms → Plans h b
    (put_terms at b new (terms_at at.terms new.version)) (Ok (record { change = Some (AddTerms b new.version terms); reply = TermsPut new.version }))
next_plans h b at head new terms sound is heads none answer checked =
    let absent : terms_at at.terms new.version ≡ None = sym (none ∙ ap (λ o. terms_at (terms_of o) new.version) is) in
    let next : next_terms (length at.terms) new ≡ Ok terms = ap (λ (q : BookHead). next_terms q.terms new) (sym heads) ∙ answer in
    let bounds = next_is (length at.terms) new terms next in
    let past = absent_is_past at.terms new.version absent bounds.0 in
    let high = bounds.1 in
    terms_plans h b at new terms sound is absent next (omega (arith, past, high)) bounds.2 checked

-- if a keeper returns no head, there is no book
pub no_head : (book : Option BookValue) → None ≡ option_map book_head book → book ≡ None
no_head None is = refl
no_head (Some book) is = absurd_none is

-- a new pledge: the next of its book, for the requested opening, under the newest terms, with the stamp's word
pub record IsTakenAs (head : BookHead) (opening : Opening) (stamp : Stamp) (newest : Option Rates) (p : PledgeValue) : Type 0 where
  pub number : p.agreement.number ≡ head.pledges + 1
  pub asked : p.agreement.opening ≡ opening
  pub version : p.agreement.version ≡ head.terms
  pub under : newest ≡ Some p.agreement.terms
  pub first : (issued : Issued) × (p.secrets ≡ issued ∷ []) × (issued.secret ≡ stamp.word)
  pub day : p.agreement.taken ≡ stamp.day
  pub few : head.pledges < most_pledges

pub taken_is : (head : BookHead) (opening : Opening) (stamp : Stamp) (newest : Option Rates) (p : PledgeValue) → next_pledge head opening stamp newest ≡ Ok p
    → IsTakenAs head opening stamp newest p
taken_is head opening stamp None p is = cc is
taken_is head opening stamp (Some terms) p is =
    let passed = first_of-ok (opening_refusals head opening (Some terms)) (Ok (new_pledge (head.pledges + 1) opening head.terms terms stamp)) p is in
    let few : head.pledges < most_pledges = grind (arith, nat_tests, passed.0.1.1.0) in
    subst (IsTakenAs head opening stamp (Some terms)) (ap (λ (r : Result PledgeValue Refusal). result_unwrap_or r p) passed.1)
    (record { number = refl; asked = refl; version = refl; under = refl; first = (_, refl, refl); day = refl; few = few })

-- the next pledge, by the answers of a keeper
pub taken_plans : (h : Host) (b : ℕ) (at : BookValue) (head : BookHead) (opening : Opening) (stamp : Stamp) (p : PledgeValue) → IsSound h → get h.books b
    ≡ Some at → head ≡ book_head at → None ≡ with_reference (pledges_of (get h.books b)) opening.reference → next_pledge head opening stamp (newest at.terms)
    ≡ Ok p → IsReachable p → IsUtf8 opening.reference → IsUtf8 opening.article → IsWord stamp.word → IsDayNumber stamp.day → Plans h b (take_pledge at b opening
    stamp (with_reference at.pledges opening.reference)) (Ok (record { change = Some (PutPledge b p.agreement.number p); reply = Opened (first_receipt p) }))
taken_plans h b at head opening stamp p sound is heads none answer reachable reference article word day =
    let absent : with_reference at.pledges opening.reference ≡ None = sym (none ∙ ap (λ o. with_reference (pledges_of o) opening.reference) is) in
    let next : next_pledge (book_head at) opening stamp (newest at.terms) ≡ Ok p =
    ap (λ (q : BookHead). next_pledge q opening stamp (newest at.terms)) (sym heads) ∙ answer in
    let taken = taken_is (book_head at) opening stamp (newest at.terms) p next in
    let is_next : IsNext at p = record {
      number = taken.number;
      reference = ap (λ (o : Opening). with_reference at.pledges o.reference) taken.asked ∙ absent;
      version = taken.version;
      under = ap (terms_at at.terms) taken.version ∙ taken.under;
      few = taken.few;
    } in
    let written : HasTextsAndWords p = record {
      reference = subst (λ (o : Opening). IsUtf8 o.reference) (sym taken.asked) reference;
      article = subst (λ (o : Opening). IsUtf8 o.article) (sym taken.asked) article;
      secrets = subst AreWords (sym taken.first.1) (subst IsWord (sym taken.first.2) word, tt);
      taken = subst IsDayNumber (sym taken.day) day;
    } in
    pledge_plans h b at opening stamp p sound is absent next is_next reachable written
