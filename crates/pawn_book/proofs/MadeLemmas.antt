-- Which kinds of request make a change.
use Rattle.pawn_book.proofs.CommandPlans.{live_is}
use Rattle.pawn_book.proofs.Plans.{empty_lists}
use Rattle.pawn_book.specs.BookStep.{BookValue, Makes, Out, Outcome, Refuses, Says, Shown, are_same_rates, are_unknown}
use Rattle.pawn_book.specs.BookStep.{bearer_commands, book_head, book_step, broker_commands, confirmed_booking}
use Rattle.pawn_book.specs.BookStep.{first_receipt, import_rows, is_empty, is_same_book, is_same_opening}
use Rattle.pawn_book.specs.BookStep.{is_window_full, outcome_of_step, live_at, make_or_refuse, newest, next_pledge}
use Rattle.pawn_book.specs.BookStep.{next_terms, pledge_from, pledge_in, present_receipts, put_terms, show_pledge}
use Rattle.pawn_book.specs.BookStep.{take_pledge, with_reference, within_window}
use Rattle.pawn_book.specs.Books.{AddTerms, Bearer, BookFilled, BookMade, BookRows, Broker, Caller, Change, Commanded}
use Rattle.pawn_book.specs.Books.{Import, ImportBook, Imported, MakeBook, NewBook, NewTerms, NoSuchReceipt, OnPledge}
use Rattle.pawn_book.specs.Books.{OnReceipt, Opened, Operator, Present, PutPledge, PutTerms, Refusal, Reply, TakePledge}
use Rattle.pawn_book.specs.Books.{TermsPut, Viewer, WindowFull}
use Rattle.pawn_book.specs.Changes.{IsUnfilled}
use Rattle.pawn_book.specs.Common.{Answered, Changed, Command, Done, StepResult, Opening, PledgeValue, Rates, Receipt}
use Rattle.pawn_book.specs.Common.{Refused, Stamp, pledge_step}
use Rattle.pawn_book.specs.Laws.{Asks}
use Rattle.pawn_book.specs.Rows.{terms_at}
use Rattle.std.proofs.Common.{◌≡◌, ℕ, List, length, Some, None, Ok, Err, refl, ap, sym, if◌then◌else◌, Option, Result}
use Rattle.std.proofs.Common.{◌==◌, Bool, true, false, map}
use Rattle.pawn_book.specs.declared.request.View.TheVariants as seen

-- what an outcome makes
abbrev pub change_in : Outcome → Change → Change
change_in (Refuses why) other = other
change_in (Says out) other = other
change_in (Makes change reply) other = change

abbrev pub reply_in : Outcome → Reply → Reply
reply_in (Refuses why) other = other
reply_in (Says out) other = other
reply_in (Makes change reply) other = reply

-- a command on a pledge of the book made the change
pub record DidOn (book : BookValue) (b n : ℕ) (stamp : Stamp) (command : Command) (change : Change) (reply : Reply) : Type 0 where
  pub old : PledgeValue
  pub next : PledgeValue
  pub done : Done
  pub stands : pledge_from 1 book.pledges n ≡ Some old
  pub step : pledge_step old stamp command ≡ Changed next done
  pub makes : change ≡ PutPledge b n next
  pub says : reply ≡ Commanded n done

-- the kinds of request that make a change
pub data MadeBy (before : Option BookValue) (operator b : ℕ) (stamp : Stamp) (caller : Caller) (change : Change) (reply : Reply) : Type 0 where
  BookIs : (key : ℕ) (new : NewBook) → caller ≡ Operator key new → (key == operator) ≡ true → before ≡ None
      → change ≡ MakeBook b new → reply ≡ BookMade b → MadeBy before operator b stamp caller change reply
  TermsAre : (key : ℕ) (new : NewTerms) (book : BookValue) (terms : Rates) → caller ≡ Broker key (PutTerms new) → before ≡ Some book → (book.key == key) ≡ true
      → terms_at book.terms new.version ≡ None → next_terms (length book.terms) new ≡ Ok terms
      → change ≡ AddTerms b new.version terms → reply ≡ TermsPut new.version → MadeBy before operator b stamp caller change reply
  PledgeIs : (key : ℕ) (opening : Opening) (book : BookValue) (p : PledgeValue) → caller ≡ Broker key (TakePledge opening) → before ≡ Some book
      → (book.key == key) ≡ true → with_reference book.pledges opening.reference ≡ None → next_pledge (book_head book) opening stamp (newest book.terms) ≡ Ok p
      → change ≡ PutPledge b p.agreement.number p → reply ≡ Opened (first_receipt p) → MadeBy before operator b stamp caller change reply
  RowsAre : (key import_key : ℕ) (rows : BookRows) (book : BookValue) → caller ≡ Broker key (Import import_key rows) → before ≡ Some book
      → (book.key == key) ≡ true → IsUnfilled book → change ≡ ImportBook b import_key rows → reply ≡ BookFilled (length rows.pledges)
      → MadeBy before operator b stamp caller change reply
  CommandIs : (book : BookValue) (n : ℕ) (command : Command) → before ≡ Some book → Asks caller n command → DidOn book b n stamp command change reply
      → MadeBy before operator b stamp caller change reply

pub if_makes : (test : Bool) (x : Outcome) (why : Refusal) (change : Change) (reply : Reply) → (if test then x else Refuses why) ≡ Makes change reply
    → (test ≡ true) × (x ≡ Makes change reply)
if_makes true x why change reply is = (refl, is)
if_makes false x why change reply is = cc is

told_again : {P : Type 0} (test : Bool) (out : Out) (why : Refusal) (change : Change) (reply : Reply)
    → (if test then Says out else Refuses why) ≡ Makes change reply → P
told_again true out why change reply is = cc is
told_again false out why change reply is = cc is

same_change : (c d : Change) (r s : Reply) → Makes c r ≡ Makes d s → d ≡ c
same_change c d r s is = sym (ap (λ o. change_in o c) is)

same_reply : (c d : Change) (r s : Reply) → Makes c r ≡ Makes d s → s ≡ r
same_reply c d r s is = sym (ap (λ o. reply_in o r) is)

made_ok : {V : Type 0} (r : Result V Refusal) (makes : V → Outcome) (change : Change) (reply : Reply) → make_or_refuse r makes ≡ Makes change reply
    → (v : V) × (r ≡ Ok v) × (makes v ≡ Makes change reply)
made_ok (Err why) makes change reply is = cc is
made_ok (Ok v) makes change reply is = (v, refl, is)

-- a command on the pledge made the change of a command's outcome
step_made : (book : BookValue) (b n : ℕ) (p : PledgeValue) (stamp : Stamp) (command : Command) (change : Change) (reply : Reply)
    → pledge_from 1 book.pledges n ≡ Some p → outcome_of_step b n (pledge_step p stamp command) ≡ Makes change reply → DidOn book b n stamp command change reply
step_made book b n p stamp command change reply at is = from (pledge_step p stamp command) refl is where
  from : (j : StepResult) → pledge_step p stamp command ≡ j → outcome_of_step b n j ≡ Makes change reply → DidOn book b n stamp command change reply
  from (Refused why) step made = cc made
  from (Answered done) step made = cc made
  from (Changed q done) step made = record {
    old = p;
    next = q;
    done = done;
    stands = at;
    step = step;
    makes = same_change _ change _ reply made;
    says = same_reply _ change _ reply made;
  }

window_made : (book : BookValue) (o : Outcome) (change : Change) (reply : Reply) → within_window book o ≡ Makes change reply → o ≡ Makes change reply
window_made book (Refuses why) change reply is = cc is
window_made book (Says out) change reply is = cc is
window_made book (Makes c r) change reply is = from (is_window_full book (confirmed_booking r)) is where
  from : (full : Bool) → (if full then Refuses WindowFull else Makes c r) ≡ Makes change reply → Makes c r ≡ Makes change reply
  from true made = cc made
  from false made = made

pub number_made : (book : BookValue) (b n : ℕ) (stamp : Stamp) (command : Command) (o : Option PledgeValue) (change : Change) (reply : Reply)
    → pledge_from 1 book.pledges n ≡ o → broker_commands book b n stamp command o ≡ Makes change reply → DidOn book b n stamp command change reply
number_made book b n stamp command None change reply at is = cc is
number_made book b n stamp command (Some p) change reply at is = step_made book b n p stamp command change reply at (window_made book _ change reply is)

pub receipt_made : (book : BookValue) (b : ℕ) (r : Receipt) (stamp : Stamp) (command : Command) (o : Option PledgeValue) (change : Change) (reply : Reply)
    → live_at (pledge_in (Some book)) r ≡ o → bearer_commands b r.number stamp command o ≡ Makes change reply → DidOn book b r.number stamp command change reply
receipt_made book b r stamp command None change reply at is = cc is
receipt_made book b r stamp command (Some p) change reply at is =
    step_made book b r.number p stamp command change reply (live_is r.secret (pledge_from 1 book.pledges r.number) p (sym at)) is

shown_makes : {P : Type 0} (stamp : Stamp) (o : Option PledgeValue) (change : Change) (reply : Reply) → show_pledge stamp o ≡ Makes change reply → P
shown_makes stamp None change reply is = cc is
shown_makes stamp (Some p) change reply is = cc is

pub made_by : (before : Option BookValue) (operator b : ℕ) (stamp : Stamp) (caller : Caller) (change : Change) (reply : Reply)
    → book_step before operator b stamp caller ≡ Makes change reply → MadeBy before operator b stamp caller change reply
made_by None operator b stamp (Operator key new) change reply is =
    let passed = if_makes (key == operator) _ _ change reply is in
    BookIs key new refl passed.0 refl (same_change _ change _ reply passed.1) (same_reply _ change _ reply passed.1)
made_by (Some book) operator b stamp (Operator key new) change reply is =
    let passed = if_makes (key == operator) _ _ change reply is in told_again (is_same_book (book_head book) new) _ _ change reply passed.1
made_by None operator b stamp (Broker key asked) change reply is = cc is
made_by None operator b stamp (Viewer key view) change reply is = cc is
made_by (Some book) operator b stamp (Broker key (PutTerms new)) change reply is =
    let passed = if_makes (book.key == key) _ _ change reply is in from (terms_at book.terms new.version) refl passed.1 where
      from : (o : Option Rates) → terms_at book.terms new.version ≡ o → put_terms book b new o ≡ Makes change reply
          → MadeBy (Some book) operator b stamp (Broker key (PutTerms new)) change reply
      from (Some terms) at is = told_again (are_same_rates terms new.rates) _ _ change reply is
      from None at made_is =
          let ok = made_ok (next_terms (length book.terms) new) _ change reply made_is in
          TermsAre key new book ok.0 refl refl (if_makes (book.key == key) _ _ change reply is).0 at ok.1 (same_change _ change _ reply ok.2)
          (same_reply _ change _ reply ok.2)
made_by (Some book) operator b stamp (Broker key (TakePledge opening)) change reply is =
    let passed = if_makes (book.key == key) _ _ change reply is in from (with_reference book.pledges opening.reference) refl passed.1 where
      from : (o : Option PledgeValue) → with_reference book.pledges opening.reference ≡ o → take_pledge book b opening stamp o ≡ Makes change reply
          → MadeBy (Some book) operator b stamp (Broker key (TakePledge opening)) change reply
      from (Some p) at is = told_again (is_same_opening p.agreement.opening opening) _ _ change reply is
      from None at made_is =
          let ok = made_ok (next_pledge (book_head book) opening stamp (newest book.terms)) _ change reply made_is in
          PledgeIs key opening book ok.0 refl refl (if_makes (book.key == key) _ _ change reply is).0 at ok.1 (same_change _ change _ reply ok.2)
          (same_reply _ change _ reply ok.2)
made_by (Some book) operator b stamp (Broker key (OnPledge n command)) change reply is =
    let passed = if_makes (book.key == key) _ _ change reply is in
    CommandIs book n command refl (refl, refl) (number_made book b n stamp command (pledge_from 1 book.pledges n) change reply refl passed.1)
made_by (Some book) operator b stamp (Broker key (Import import_key rows)) change reply is =
    let passed = if_makes (book.key == key) _ _ change reply is in from book.imported refl passed.1 where
      from : (o : Option Imported) → book.imported ≡ o → import_rows (book_head book) b import_key rows o ≡ Makes change reply
          → MadeBy (Some book) operator b stamp (Broker key (Import import_key rows)) change reply
      from (Some imported) at made_is = told_again (imported.key == import_key) _ _ change reply made_is
      from None at made_is =
          let filled = if_makes (is_empty (book_head book)) _ _ change reply made_is in
          let empty = empty_lists book filled.0 in
          RowsAre key import_key rows book refl refl (if_makes (book.key == key) _ _ change reply is).0
          (record { terms = empty.0; pledges = empty.1; imported = at }) (same_change _ change _ reply filled.1) (same_reply _ change _ reply filled.1)
made_by (Some book) operator b stamp (Viewer key (seen.Pledge n)) change reply is =
    let passed = if_makes (book.key == key) _ _ change reply is in shown_makes stamp (pledge_from 1 book.pledges n) change reply passed.1
made_by (Some book) operator b stamp (Viewer key (seen.Sheet day)) change reply is =
    let passed = if_makes (book.key == key) _ _ change reply is in cc passed.1
made_by (Some book) operator b stamp (Viewer key seen.Rows) change reply is =
    let passed = if_makes (book.key == key) _ _ change reply is in cc passed.1
made_by None operator b stamp (Bearer (OnReceipt r command)) change reply is = cc is
made_by (Some book) operator b stamp (Bearer (OnReceipt r command)) change reply is =
    CommandIs book r.number command refl (refl, refl) (receipt_made book b r stamp command (live_at (pledge_in (Some book)) r) change reply refl is)
made_by before operator b stamp (Bearer (Present receipts)) change reply is = present_makes (map (live_at (pledge_in before)) receipts) is where
  present_makes : (shown : List (Option PledgeValue)) → present_receipts stamp shown ≡ Makes change reply
      → MadeBy before operator b stamp (Bearer (Present receipts)) change reply
  present_makes shown is = denied (are_unknown shown) is where
    denied : (test : Bool) → (if test then Refuses NoSuchReceipt else Says (Shown stamp.day shown)) ≡ Makes change reply
        → MadeBy before operator b stamp (Bearer (Present receipts)) change reply
    denied true is = cc is
    denied false is = cc is
