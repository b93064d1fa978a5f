-- A book grows with each request.
use Rattle.pawn_book.proofs.CommandPlans.{live_is}
use Rattle.pawn_book.proofs.KeptLemmas.{AreKept, are_kept_on, are_kept_push, are_kept_put, are_kept_same, kept_moved}
use Rattle.pawn_book.proofs.Plans.{empty_lists, taken_is, without_lists}
use Rattle.pawn_book.proofs.Sounds.{absurd_none, put_next}
use Rattle.pawn_book.specs.BookStep.{BookValue, Makes, Outcome, Refuses, Says, Shown, are_same_rates, are_unknown}
use Rattle.pawn_book.specs.BookStep.{bearer_commands, book_after, book_head, book_step, broker_commands}
use Rattle.pawn_book.specs.BookStep.{confirmed_booking, filled_book, first_receipt, import_rows, is_empty, is_same_book}
use Rattle.pawn_book.specs.BookStep.{is_same_opening, is_window_full, outcome_of_step, live_at, make_or_refuse, newest}
use Rattle.pawn_book.specs.BookStep.{next_pledge, next_terms, pledge_from, pledge_in, present_receipts, put_from}
use Rattle.pawn_book.specs.BookStep.{put_terms, show_pledge, take_pledge, with_reference, within_window}
use Rattle.pawn_book.specs.Books.{AddTerms, Bearer, BookFilled, BookNotEmpty, BookRows, Broker, Caller, Import}
use Rattle.pawn_book.specs.Books.{ImportBook, Imported, NewTerms, NoSuchReceipt, OnPledge, OnReceipt, Opened, Operator}
use Rattle.pawn_book.specs.Books.{Present, PutPledge, PutTerms, Refusal, TakePledge, TermsPut, Viewer, WindowFull}
use Rattle.pawn_book.specs.Common.{Answered, Changed, Command, Done, StepResult, Opening, PledgeValue, Rates, Receipt}
use Rattle.pawn_book.specs.Common.{Refused, Stamp, pledge_step}
use Rattle.pawn_book.specs.Laws.{book_run}
use Rattle.pawn_book.specs.Rows.{terms_at}
use Rattle.std.proofs.Common.{◌≡◌, ℕ, List, [], ◌∷◌, ◌++◌, length, Some, None, Ok, Err, refl, ◌∙◌, ap, sym, subst}
use Rattle.std.proofs.Common.{arith, append_assoc, if◌then◌else◌, Option, Result, ◌==◌, Bool, true, false, map}
use Rattle.std.proofs.Common.{append-nil}
use Rattle.pawn_book.specs.declared.request.View.TheVariants as seen

-- the parts of a book that stay the same and those that grow
pub record Grown (old new : BookValue) : Type 0 where
  pub key : new.key ≡ old.key
  pub name : new.name ≡ old.name
  pub capacity : new.capacity ≡ old.capacity
  pub terms : (more : List Rates) × (new.terms ≡ old.terms ++ more)
  pub pledges : AreKept old.pledges new.pledges
  pub imported : (imported : Imported) → old.imported ≡ Some imported → new.imported ≡ Some imported

pub grown_same : (book : BookValue) → Grown book book
grown_same book = record
    { key = refl; name = refl; capacity = refl; terms = ([], sym (append-nil book.terms)); pledges = are_kept_same book.pledges; imported = λ imported is. is }

grown_on : (a b c : BookValue) → Grown a b → Grown b c → Grown a c
grown_on a b c f s = record {
  key = s.key ∙ f.key;
  name = s.name ∙ f.name;
  capacity = s.capacity ∙ f.capacity;
  terms = (f.terms.0 ++ s.terms.0, s.terms.1 ∙ ap (λ ts. ts ++ s.terms.0) f.terms.1 ∙ append_assoc a.terms f.terms.0 s.terms.0);
  pledges = are_kept_on a.pledges b.pledges c.pledges f.pledges s.pledges;
  imported = λ imported is. s.imported imported (f.imported imported is);
}

abbrev pub GrowsTo : BookValue → Option BookValue → Type 0
GrowsTo book after = (next : BookValue) × (after ≡ Some next) × Grown book next

stays : (book : BookValue) → GrowsTo book (Some book)
stays book = (book, refl, grown_same book)

grows_by : (book : BookValue) (test : Bool) (x y : Outcome) → GrowsTo book (book_after (Some book) x) → GrowsTo book (book_after (Some book) y)
    → GrowsTo book (book_after (Some book) (if test then x else y))
grows_by book true x y f s = f
grows_by book false x y f s = s

put_terms_grows : (book : BookValue) (b : ℕ) (new : NewTerms) (o : Option Rates) → GrowsTo book (book_after (Some book) (put_terms book b new o))
put_terms_grows book b new (Some terms) = grows_by book (are_same_rates terms new.rates) _ _ (stays book) (stays book)
put_terms_grows book b new None = from (next_terms (length book.terms) new) where
  from : (r : Result Rates Refusal)
      → GrowsTo book (book_after (Some book) (make_or_refuse r (λ terms. Makes (AddTerms b new.version terms) (TermsPut new.version))))
  from (Err why) = stays book
  from (Ok terms) = (
    record book { terms = book.terms ++ terms ∷ [] },
    refl,
    record { key = refl; name = refl; capacity = refl; terms = (terms ∷ [], refl); pledges = are_kept_same book.pledges; imported = λ imported is. is },
  )

-- the list after the next pledge
pub next_pledges : (book : BookValue) (opening : Opening) (stamp : Stamp) (p : PledgeValue)
    → next_pledge (book_head book) opening stamp (newest book.terms) ≡ Ok p → put_from 1 book.pledges p.agreement.number p ≡ book.pledges ++ p ∷ []
next_pledges book opening stamp p is =
    let number = (taken_is (book_head book) opening stamp (newest book.terms) p is).number in
    put_next 1 book.pledges p.agreement.number p (omega (arith, number))

take_pledge_grows : (book : BookValue) (b : ℕ) (opening : Opening) (stamp : Stamp) (o : Option PledgeValue)
    → GrowsTo book (book_after (Some book) (take_pledge book b opening stamp o))
take_pledge_grows book b opening stamp (Some p) = grows_by book (is_same_opening p.agreement.opening opening) _ _ (stays book) (stays book)
take_pledge_grows book b opening stamp None = from (next_pledge (book_head book) opening stamp (newest book.terms)) refl where
  from : (r : Result PledgeValue Refusal) → next_pledge (book_head book) opening stamp (newest book.terms) ≡ r
      → GrowsTo book (book_after (Some book) (make_or_refuse r (λ p. Makes (PutPledge b p.agreement.number p) (Opened (first_receipt p)))))
  from (Err why) is = stays book
  from (Ok p) is = (
    record book { pledges = put_from 1 book.pledges p.agreement.number p },
    refl,
    record {
      key = refl;
      name = refl;
      capacity = refl;
      terms = ([], sym (append-nil book.terms));
      pledges = subst (AreKept book.pledges) (sym (next_pledges book opening stamp p is)) (are_kept_push book.pledges (p ∷ []));
      imported = λ imported is. is;
    },
  )

present_stays : (book : BookValue) (stamp : Stamp) (shown : List (Option PledgeValue)) → GrowsTo book (book_after (Some book) (present_receipts stamp shown))
present_stays book stamp shown = grows_by book (are_unknown shown) (Refuses NoSuchReceipt) (Says (Shown stamp.day shown)) (stays book) (stays book)

-- a book with a pledge after a command
put_grows : (book : BookValue) (n : ℕ) (p q : PledgeValue) (stamp : Stamp) (command : Command) (done : Done) → pledge_from 1 book.pledges n ≡ Some p
    → pledge_step p stamp command ≡ Changed q done → Grown book (record book { pledges = put_from 1 book.pledges n q })
put_grows book n p q stamp command done at step = record {
  key = refl;
  name = refl;
  capacity = refl;
  terms = ([], sym (append-nil book.terms));
  pledges = are_kept_put 1 book.pledges n p q at (kept_moved p q stamp command done step);
  imported = λ imported is. is;
}

result_grows : (book : BookValue) (b n : ℕ) (p : PledgeValue) (stamp : Stamp) (command : Command) → pledge_from 1 book.pledges n ≡ Some p
    → GrowsTo book (book_after (Some book) (outcome_of_step b n (pledge_step p stamp command)))
result_grows book b n p stamp command at = from (pledge_step p stamp command) refl where
  from : (j : StepResult) → pledge_step p stamp command ≡ j → GrowsTo book (book_after (Some book) (outcome_of_step b n j))
  from (Refused why) step = stays book
  from (Answered done) step = stays book
  from (Changed q done) step = (record book { pledges = put_from 1 book.pledges n q }, refl, put_grows book n p q stamp command done at step)

window_grows : (book : BookValue) (o : Outcome) → GrowsTo book (book_after (Some book) o) → GrowsTo book (book_after (Some book) (within_window book o))
window_grows book (Refuses why) grows = grows
window_grows book (Says out) grows = grows
window_grows book (Makes change reply) grows =
    grows_by book (is_window_full book (confirmed_booking reply)) (Refuses WindowFull) (Makes change reply) (stays book) grows

number_grows : (book : BookValue) (b n : ℕ) (stamp : Stamp) (command : Command) (o : Option PledgeValue) → pledge_from 1 book.pledges n ≡ o
    → GrowsTo book (book_after (Some book) (broker_commands book b n stamp command o))
number_grows book b n stamp command None at = stays book
number_grows book b n stamp command (Some p) at =
    window_grows book (outcome_of_step b n (pledge_step p stamp command)) (result_grows book b n p stamp command at)

receipt_grows : (book : BookValue) (b : ℕ) (r : Receipt) (stamp : Stamp) (command : Command) (o : Option PledgeValue) → live_at (pledge_in (Some book)) r ≡ o
    → GrowsTo book (book_after (Some book) (bearer_commands b r.number stamp command o))
receipt_grows book b r stamp command None at = stays book
receipt_grows book b r stamp command (Some p) at =
    result_grows book b r.number p stamp command (live_is r.secret (pledge_from 1 book.pledges r.number) p (sym at))

shown_stays : (book : BookValue) (stamp : Stamp) (o : Option PledgeValue) → GrowsTo book (book_after (Some book) (show_pledge stamp o))
shown_stays book stamp None = stays book
shown_stays book stamp (Some p) = stays book

-- a book that an import fills
filled_grows : (book : BookValue) (key : ℕ) (rows : BookRows) → book.imported ≡ None
    → Grown (record book { terms = []; pledges = [] }) (filled_book book key rows)
filled_grows book key rows none = record {
  key = refl;
  name = refl;
  capacity = refl;
  terms = (rows.terms, refl);
  pledges = are_kept_push [] rows.pledges;
  imported = λ imported is. absurd_none (sym none ∙ is);
}

import_grows : (book : BookValue) (b key : ℕ) (rows : BookRows) (o : Option Imported) → book.imported ≡ o
    → GrowsTo book (book_after (Some book) (import_rows (book_head book) b key rows o))
import_grows book b key rows (Some imported) is = grows_by book (imported.key == key) _ _ (stays book) (stays book)
import_grows book b key rows None none = from (is_empty (book_head book)) refl where
  from : (v : Bool) → is_empty (book_head book) ≡ v
      → GrowsTo book (book_after (Some book) (if v then Makes (ImportBook b key rows) (BookFilled (length rows.pledges)) else Refuses BookNotEmpty))
  from false is = stays book
  from true is =
      let empty = empty_lists book is in (
        filled_book book key rows,
        refl,
        subst (λ (old : BookValue). Grown old (filled_book book key rows)) (sym (without_lists book empty.0 empty.1)) (filled_grows book key rows none),
      )

-- a book grows with each request
step_grows : (book : BookValue) (operator b : ℕ) (stamp : Stamp) (caller : Caller)
    → GrowsTo book (book_after (Some book) (book_step (Some book) operator b stamp caller))
step_grows book operator b stamp (Operator key new) =
    grows_by book (key == operator) _ _ (grows_by book (is_same_book (book_head book) new) _ _ (stays book) (stays book)) (stays book)
step_grows book operator b stamp (Broker key (PutTerms new)) =
    grows_by book (book.key == key) _ _ (put_terms_grows book b new (terms_at book.terms new.version)) (stays book)
step_grows book operator b stamp (Broker key (TakePledge opening)) =
    grows_by book (book.key == key) _ _ (take_pledge_grows book b opening stamp (with_reference book.pledges opening.reference)) (stays book)
step_grows book operator b stamp (Broker key (OnPledge n command)) =
    grows_by book (book.key == key) _ _ (number_grows book b n stamp command (pledge_from 1 book.pledges n) refl) (stays book)
step_grows book operator b stamp (Broker key (Import import_key rows)) =
    grows_by book (book.key == key) _ _ (import_grows book b import_key rows book.imported refl) (stays book)
step_grows book operator b stamp (Viewer key (seen.Pledge n)) =
    grows_by book (book.key == key) _ _ (shown_stays book stamp (pledge_from 1 book.pledges n)) (stays book)
step_grows book operator b stamp (Viewer key (seen.Sheet day)) = grows_by book (book.key == key) _ _ (stays book) (stays book)
step_grows book operator b stamp (Viewer key seen.Rows) = grows_by book (book.key == key) _ _ (stays book) (stays book)
step_grows book operator b stamp (Bearer (Present receipts)) = present_stays book stamp (map (live_at (pledge_in (Some book))) receipts)
step_grows book operator b stamp (Bearer (OnReceipt r command)) = receipt_grows book b r stamp command (live_at (pledge_in (Some book)) r) refl

pub run_grows : (base book : BookValue) (operator b : ℕ) (later : List (Stamp × Caller)) → Grown base book
    → GrowsTo base (book_run (Some book) operator b later)
run_grows base book operator b [] grown = (book, refl, grown)
run_grows base book operator b (asked ∷ rest) grown =
    let step = step_grows book operator b asked.0 asked.1 in
    subst (λ o. GrowsTo base (book_run o operator b rest)) (sym step.1) (run_grows base step.0 operator b rest (grown_on base book step.0 grown step.2))
