-- The laws of books.
use Rattle.pawn_base.proofs.ListLemmas.{grown}
use Rattle.pawn_base.proofs.RefusalLemmas.{past_row-ok}
use Rattle.pawn_base.proofs.TestLemmas.{equal_itself}
use Rattle.pawn_book.proofs.GrowLemmas.{Grown, grown_same, next_pledges, run_grows}
use Rattle.pawn_book.proofs.KeptLemmas.{number_kept, put_there, reference_kept}
use Rattle.pawn_book.proofs.MadeLemmas.{BookIs, CommandIs, DidOn, MadeBy, PledgeIs, RowsAre, TermsAre, made_by}
use Rattle.pawn_book.proofs.Plans.{next_is, absent_is_past, taken_is}
use Rattle.pawn_book.proofs.Sounds.{absurd_none, each_at, some_is}
use Rattle.pawn_book.specs.BookStep.{BookValue, Refuses, Says, Replied, are_same_rates, book_head, book_step}
use Rattle.pawn_book.specs.BookStep.{changed_book, filled_book, first_receipt, first_secret, import_rows, is_live}
use Rattle.pawn_book.specs.BookStep.{is_same_book, is_same_end, is_same_flag, is_same_kind, is_same_opening, made_book}
use Rattle.pawn_book.specs.BookStep.{make_book, newest, next_terms, only_live, pledge_from, put_from, put_terms}
use Rattle.pawn_book.specs.BookStep.{take_pledge, under_terms, with_reference}
use Rattle.pawn_book.specs.Books.{AddTerms, Bearer, BookFilled, BookMade, BookNotEmpty, BookTaken, Broker, Caller}
use Rattle.pawn_book.specs.Books.{Change, Import, ImportBook, NewTerms, NoSuchBook, NotOperator, OnPledge, Opened}
use Rattle.pawn_book.specs.Books.{Operator, PutPledge, PutTerms, RefTaken, Refusal, Reply, TakePledge, TermsFull}
use Rattle.pawn_book.specs.Books.{Viewer, TermsPut, TermsSeq}
use Rattle.pawn_book.specs.Changes.{Continues}
use Rattle.pawn_book.specs.Common.{Agreement, AreNumbered, Command, Fixed, IsReachable, Issued, Kind, Opening}
use Rattle.pawn_book.specs.Common.{PledgeValue, Rates, Receipt, Running, Stamp, TermsFault, result_unwrap_or}
use Rattle.pawn_book.specs.Common.{terms_answer}
use Rattle.pawn_book.specs.Laws.{Asks, BookChangesDiffer, IsMaking, RepeatsActOnce, book_run}
use Rattle.pawn_book.specs.Limits.{most_terms}
use Rattle.pawn_book.specs.Rows.{is_same_text, terms_at}
use Rattle.pawn_book.specs.Sound.{IsSoundBook}
use Rattle.pawn_pledge.proofs.Steps.{changes_differ}
use Rattle.pawn_terms.specs.Limits.{most_keep, most_rate}
use Rattle.pawn_terms.specs.declared.terms.TermsFault.TheVariants.{KeepTooHigh, KeepingRate, RateTooHigh}
use Rattle.std.proofs.Common.{◌≡◌, ℕ, ◌+◌, zero, suc, List, [], ◌∷◌, ◌++◌, length, Some, None, Ok, Err, refl, ◌∙◌, ap}
use Rattle.std.proofs.Common.{sym, subst, arith, if◌then◌else◌, is_some, Option, Result, ◌==◌, ◌&&◌, ◌||◌, Bool, true}
use Rattle.std.proofs.Common.{false, nat_lt, nat_le, unwrap_or, slice_get}
use Rattle.std.proofs.lemmas.Bool.{and_from}
use Rattle.std.proofs.lemmas.Bool.Decides.{nat_tests}

-- a text is itself
pub text_same : (xs : List ℕ) → is_same_text xs xs ≡ true
text_same [] = refl
text_same (x ∷ xs) = let here : (x == x) ≡ true = grind (arith, nat_tests) in ap (λ v. v && is_same_text xs xs) here ∙ text_same xs

-- a change makes a book that differs
pub change_differs : BookChangesDiffer
change_differs before operator b stamp caller change reply is same = from (made_by before operator b stamp caller change reply is) where
  from : MadeBy before operator b stamp caller change reply → ⊥
  from (BookIs key new asks passes none makes says) =
      absurd_none (sym none ∙ sym same ∙ ap (changed_book before) makes)
  from (TermsAre key new book terms asks stands passes absent answer makes says) =
      let after : Some (record book { terms = book.terms ++ terms ∷ [] }) ≡ Some book =
      ap (λ o. changed_book o (AddTerms b new.version terms)) (sym stands) ∙ ap (changed_book before) (sym makes) ∙ same ∙ stands in
      grown book.terms terms (ap (λ (o : Option BookValue). (unwrap_or o book).terms) after)
  from (PledgeIs key opening book p asks stands passes absent answer makes says) =
      let after : Some (record book { pledges = put_from 1 book.pledges p.agreement.number p }) ≡ Some book =
      ap (λ o. changed_book o (PutPledge b p.agreement.number p)) (sym stands) ∙ ap (changed_book before) (sym makes) ∙ same ∙ stands in
      grown book.pledges p (sym (next_pledges book opening stamp p answer) ∙ ap (λ (o : Option BookValue). (unwrap_or o book).pledges) after)
  from (RowsAre key import_key rows book asks stands passes unfilled makes says) =
      let after : Some (filled_book book import_key rows) ≡ Some book =
      ap (λ o. changed_book o (ImportBook b import_key rows)) (sym stands) ∙ ap (changed_book before) (sym makes) ∙ same ∙ stands in
      absurd_none (sym unfilled.imported ∙ sym (ap (λ (o : Option BookValue). (unwrap_or o book).imported) after))
  from (CommandIs book n command stands asks did) =
      let after : Some (record book { pledges = put_from 1 book.pledges n did.next }) ≡ Some book =
      ap (λ o. changed_book o (PutPledge b n did.next)) (sym stands) ∙ ap (changed_book before) (sym did.makes) ∙ same ∙ stands in
      let list : put_from 1 book.pledges n did.next ≡ book.pledges = ap (λ (o : Option BookValue). (unwrap_or o book).pledges) after in
      let there : Some did.next ≡ Some did.old =
      sym (put_there 1 book.pledges n did.old did.next did.stands) ∙ ap (λ ps. pledge_from 1 ps n) list ∙ did.stands in
      changes_differ did.old did.next stamp command did.done did.step (some_is did.next did.old there)

-- the terms that were added are found under their version
added_at : (ts : List Rates) (n : ℕ) (t : Rates) (more : List Rates) → n ≡ length ts → slice_get ((ts ++ t ∷ []) ++ more) n ≡ Some t
added_at [] zero t more is = refl
added_at [] (suc n) t more is = absurd (omega (arith, is))
added_at (x ∷ ts) zero t more is = absurd (omega (arith, is))
added_at (x ∷ ts) (suc n) t more is = added_at ts n t more (omega (arith, is))

version_at : (ts : List Rates) (version : ℕ) (t : Rates) (more : List Rates) → version ≡ length ts + 1 → terms_at ((ts ++ t ∷ []) ++ more) version ≡ Some t
version_at ts zero t more is = absurd (omega (arith, is))
version_at ts (suc n) t more is = added_at ts n t more (omega (arith, is))

-- checked terms are the three numbers
rates_same : (rates t : Rates) → terms_answer rates ≡ Ok t → are_same_rates t rates ≡ true
rates_same rates t at =
    let one = past_row-ok (nat_lt most_rate rates.rate) RateTooHigh _ t at in
    let two = past_row-ok (nat_lt most_keep rates.keep_before || nat_lt most_keep rates.keep_after) KeepTooHigh _ t one.1 in
    let three = past_row-ok (nat_lt rates.keep_before rates.keep_after) KeepingRate _ t two.1 in
    let same : rates ≡ t = ap (λ (r : Result Rates TermsFault). result_unwrap_or r t) three.1 in
    subst (λ (x : Rates). are_same_rates x rates ≡ true) same
    (and_from _ _ (and_from _ _ (equal_itself rates.rate) (equal_itself rates.keep_before)) (equal_itself rates.keep_after))

-- the terms that were added are those that were requested
terms_asked : (newest : ℕ) (new : NewTerms) (t : Rates) → next_terms newest new ≡ Ok t → are_same_rates t new.rates ≡ true
terms_asked newest new t is =
    let one = past_row-ok (new.version == 0) TermsSeq _ t is in
    let two = past_row-ok (nat_lt (newest + 1) new.version) TermsSeq _ t one.1 in
    let three = past_row-ok (nat_le most_terms newest) TermsFull _ t two.1 in
    under (terms_answer new.rates) refl three.1 where
      under : (r : Result Rates TermsFault) → terms_answer new.rates ≡ r → under_terms r ≡ Ok t → are_same_rates t new.rates ≡ true
      under (Err fault) at is = cc is
      under (Ok q) at is = let same : q ≡ t = ap (λ (r : Result Rates Refusal). result_unwrap_or r q) is in
          subst (λ (x : Rates). are_same_rates x new.rates ≡ true) same (rates_same new.rates q at)

kind_same : (kind : Kind) → is_same_kind kind kind ≡ true
kind_same (Fixed sum) = equal_itself sum
kind_same (Running limit) = equal_itself limit

agreed_same : (agreed : Option ℕ) → is_same_end agreed agreed ≡ true
agreed_same None = refl
agreed_same (Some day) = equal_itself day

flag_same : (flag : Bool) → is_same_flag flag flag ≡ true
flag_same true = refl
flag_same false = refl

opening_same : (o : Opening) → is_same_opening o o ≡ true
opening_same o = and_from _ _ (and_from _ _ (and_from _ _ (text_same o.article) (kind_same o.kind)) (agreed_same o.agreed)) (flag_same o.five_days)

-- the pledge that was taken is the one with its reference
reference_added : (ps : List PledgeValue) (p : PledgeValue) (reference : List ℕ) → with_reference ps reference ≡ None
    → is_same_text p.agreement.opening.reference reference ≡ true → with_reference (ps ++ p ∷ []) reference ≡ Some p
reference_added [] p reference none same = ap (λ v. if v then Some p else None) same
reference_added (q ∷ ps) p reference none same =
    elim (is_same_text q.agreement.opening.reference reference) as
    (λ v. (if v then Some q else with_reference ps reference) ≡ None → (if v then Some q else with_reference (ps ++ p ∷ []) reference) ≡ Some p) [
      | true ↦ λ at. absurd_none (sym at)
      | false ↦ λ at. reference_added ps p reference at same
    ] none

-- a pledge that continues another has the same opening
opening_kept : (p q : PledgeValue) (opening : Opening) → Continues p q
    → is_same_opening q.agreement.opening opening ≡ is_same_opening p.agreement.opening opening
opening_kept p q opening kept = ap (λ (a : Agreement). is_same_opening a.opening opening) kept.agreement

-- it also has the same first receipt
first_kept : (p q : PledgeValue) (issued : Issued) → p.secrets ≡ issued ∷ [] → Continues p q → first_receipt q ≡ first_receipt p
first_kept p q issued one kept =
    let secrets : first_secret q.secrets ≡ first_secret p.secrets =
    ap first_secret (kept.lists.secrets.1 ∙ ap (λ is. is ++ kept.lists.secrets.0) one) ∙ ap first_secret (sym one) in
    ap (λ n. let r : Receipt = record { number = n; secret = first_secret q.secrets } in r) (ap (λ (a : Agreement). a.number) kept.agreement)
    ∙ ap (λ s. let r : Receipt = record { number = p.agreement.number; secret = s } in r) secrets

-- a caller that commands a pledge makes none
asks_not_making : (caller : Caller) (n : ℕ) (command : Command) → Asks caller n command → IsMaking caller → ⊥
asks_not_making (Operator key new) n command asks making = asks
asks_not_making (Broker key (PutTerms new)) n command asks making = asks
asks_not_making (Broker key (TakePledge opening)) n command asks making = asks
asks_not_making (Broker key (OnPledge m own)) n command asks making = making
asks_not_making (Broker key (Import import_key rows)) n command asks making = asks
asks_not_making (Viewer key view) n command asks making = asks
asks_not_making (Bearer asked) n command asks making = making

-- a repeated request that made a change gets the same answer, and makes none
pub repeat_told : RepeatsActOnce
repeat_told before operator b stamp again caller change reply later making is = from (made_by before operator b stamp caller change reply is) where
  told : (book : BookValue) → changed_book before change ≡ Some book
      → ((next : BookValue) → Grown book next → book_step (Some next) operator b again caller ≡ Says (Replied reply))
      → book_step (book_run (changed_book before change) operator b later) operator b again caller ≡ Says (Replied reply)
  told book makes answers =
      let run = run_grows book book operator b later (grown_same book) in
      ap (λ o. book_step (book_run o operator b later) operator b again caller) makes
      ∙ ap (λ o. book_step o operator b again caller) run.1 ∙ answers run.0 run.2

  opens : (book next : BookValue) (key : ℕ) → next.key ≡ book.key → (book.key == key) ≡ true → (next.key == key) ≡ true
  opens book next key same passes = ap (λ k. k == key) same ∙ passes

  from : MadeBy before operator b stamp caller change reply
      → book_step (book_run (changed_book before change) operator b later) operator b again caller ≡ Says (Replied reply)
  from (BookIs key new asks passes none makes says) = told (made_book new) (ap (changed_book before) makes) (λ next grown.
      let same : is_same_book (book_head next) new ≡ true =
      and_from _ _ (and_from _ _ (ap (λ k. k == new.key) grown.key ∙ equal_itself new.key) (ap (λ t. is_same_text t new.name) grown.name ∙ text_same new.name))
      (ap (λ n. n == new.capacity) grown.capacity ∙ equal_itself new.capacity) in
      ap (book_step (Some next) operator b again) asks ∙ ap (λ v. if v then make_book (Some next) b new else Refuses NotOperator) passes
      ∙ ap (λ v. if v then Says (Replied (BookMade b)) else Refuses BookTaken) same ∙ ap (λ r. Says (Replied r)) (sym says))
  from (TermsAre key new book terms asks stands passes absent answer makes says) =
      told (record book { terms = book.terms ++ terms ∷ [] }) (ap (changed_book before) makes ∙ ap (λ o. changed_book o (AddTerms b new.version terms)) stands)
      (λ next grown.
      let bounds = next_is (length book.terms) new terms answer in
      let past = absent_is_past book.terms new.version absent bounds.0 in
      let high = bounds.1 in
      let version : new.version ≡ length book.terms + 1 = omega (arith, past, high) in
      let at : terms_at next.terms new.version ≡ Some terms =
      ap (λ ts. terms_at ts new.version) grown.terms.1 ∙ version_at book.terms new.version terms grown.terms.0 version in
      ap (book_step (Some next) operator b again) asks ∙ ap (λ v. if v then put_terms next b new (terms_at next.terms new.version) else Refuses NoSuchBook)
      (opens book next key grown.key passes) ∙ ap (put_terms next b new) at ∙ ap (λ v. if v then Says (Replied (TermsPut new.version)) else Refuses TermsSeq)
      (terms_asked (length book.terms) new terms answer) ∙ ap (λ r. Says (Replied r)) (sym says))
  from (PledgeIs key opening book p asks stands passes absent answer makes says) =
      told (record book { pledges = put_from 1 book.pledges p.agreement.number p })
      (ap (changed_book before) makes ∙ ap (λ o. changed_book o (PutPledge b p.agreement.number p)) stands) (λ next grown.
      let taken = taken_is (book_head book) opening stamp (newest book.terms) p answer in
      let asked : is_same_text p.agreement.opening.reference opening.reference ≡ true =
      ap (λ (o : Opening). is_same_text o.reference opening.reference) taken.asked ∙ text_same opening.reference in
      let same : is_same_opening p.agreement.opening opening ≡ true = ap (λ (o : Opening). is_same_opening o opening) taken.asked ∙ opening_same opening in
      let there : with_reference (put_from 1 book.pledges p.agreement.number p) opening.reference ≡ Some p =
      ap (λ ps. with_reference ps opening.reference) (next_pledges book opening stamp p answer)
      ∙ reference_added book.pledges p opening.reference absent asked in
      let found = reference_kept (put_from 1 book.pledges p.agreement.number p) next.pledges opening.reference p grown.pledges there in
      let q = found.0 in
      ap (book_step (Some next) operator b again) asks ∙ ap (λ v. if v then take_pledge next b opening again (with_reference next.pledges opening.reference)
      else Refuses NoSuchBook) (opens book next key grown.key passes) ∙ ap (take_pledge next b opening again) found.1
      ∙ ap (λ v. if v then Says (Replied (Opened (first_receipt q))) else Refuses RefTaken) (opening_kept p q opening found.2 ∙ same)
      ∙ ap (λ r. Says (Replied (Opened r))) (first_kept p q taken.first.0 taken.first.1 found.2) ∙ ap (λ r. Says (Replied r)) (sym says))
  from (RowsAre key import_key rows book asks stands passes unfilled makes says) =
      told (filled_book book import_key rows) (ap (changed_book before) makes ∙ ap (λ o. changed_book o (ImportBook b import_key rows)) stands) (λ next grown.
      let own = grown.imported (record { key = import_key; pledges = length rows.pledges }) refl in
      ap (book_step (Some next) operator b again) asks ∙ ap (λ v. if v then import_rows (book_head next) b import_key rows next.imported
      else Refuses NoSuchBook) (opens book next key grown.key passes) ∙ ap (import_rows (book_head next) b import_key rows) own ∙ ap (λ v. if v then Says
      (Replied (BookFilled (length rows.pledges))) else Refuses BookNotEmpty) (equal_itself import_key) ∙ ap (λ r. Says (Replied r)) (sym says))
  from (CommandIs book n command stands asks did) = absurd (asks_not_making caller n command asks making)

-- the pledge that a command changed is found at its number after any run
pub stands_after : (book : BookValue) (operator b n : ℕ) (stamp : Stamp) (command : Command) (change : Change) (reply : Reply) (later : List (Stamp × Caller))
    (did : DidOn book b n stamp command change reply) → (after : BookValue) × (book_run (changed_book (Some book) change) operator b later ≡ Some after)
    × (after.key ≡ book.key) × ((q : PledgeValue) × (pledge_from 1 after.pledges n ≡ Some q) × Continues did.next q)
stands_after book operator b n stamp command change reply later did =
    let set : BookValue = record book { pledges = put_from 1 book.pledges n did.next } in
    let run = run_grows set set operator b later (grown_same set) in
    let after = run.0 in
    let grown = run.2 in
    let found = number_kept 1 set.pledges after.pledges n did.next grown.pledges (put_there 1 book.pledges n did.old did.next did.stands) in
    (after, ap (λ c. book_run (changed_book (Some book) c) operator b later) did.makes ∙ run.1, grown.key, found)

-- the entries of a sound book's pledges are numbered
pub numbered_in : (book : BookValue) (n : ℕ) (p : PledgeValue) → IsSoundBook book → pledge_from 1 book.pledges n ≡ Some p → AreNumbered 1 p.entries
numbered_in book n p sound at = (each_at IsReachable 1 book.pledges n p sound.rows.reachable at).replayable.entered.numbered

-- a live receipt's pledge is the one at its number
pub live_found : (s : ℕ) (q : PledgeValue) → is_some (only_live s (Some q)) ≡ true → only_live s (Some q) ≡ Some q
live_found s q is = from (is_live s q) is where
  from : (v : Bool) → is_some (if v then Some q else None) ≡ true → (if v then Some q else None) ≡ Some q
  from true live = refl
  from false live = cc live
