-- One step of a book: the outcome of a request.
use Rattle.pawn_book.specs.Bookings.{confirmed_count, is_confirmed}
use Rattle.pawn_book.specs.Common.{Answered, Booking, Changed, Command, Done, Fixed, Issued, StepResult, Kind, Opening}
use Rattle.pawn_book.specs.Common.{PledgeRefusal, PledgeValue, Rates, Receipt, Refused, Running, Stamp, TermsFault}
use Rattle.pawn_book.specs.Common.{first_of, is_bad_opening, live_of, new_pledge, pledge_step, terms_answer}
use Rattle.pawn_book.specs.Limits.{most_terms, most_pledges}
use Rattle.pawn_book.specs.Rows.{is_same_text, terms_at}
use Rattle.pawn_book.specs.Sheet.{day_sheet}
use Rattle.pawn_book.specs.declared.change.BookHead.{BookHead}
use Rattle.pawn_book.specs.declared.change.Change.{Change}
use Rattle.pawn_book.specs.declared.change.Change.TheVariants.{MakeBook, AddTerms, PutPledge, ImportBook}
use Rattle.pawn_book.specs.declared.change.Imported.{Imported}
use Rattle.pawn_book.specs.declared.refusal.Refusal.{Refusal}
use Rattle.pawn_book.specs.declared.refusal.Refusal.TheVariants.{Pledge, Terms, NoSuchBook, NoSuchReceipt, NoSuchPledge}
use Rattle.pawn_book.specs.declared.refusal.Refusal.TheVariants.{BookTaken, NoTerms, TermsSeq, RefTaken, WindowFull}
use Rattle.pawn_book.specs.declared.refusal.Refusal.TheVariants.{BookNotEmpty, NotOperator, TermsFull, PledgesFull}
use Rattle.pawn_book.specs.declared.reply.Reply.{Reply}
use Rattle.pawn_book.specs.declared.reply.Reply.TheVariants.{BookMade, TermsPut, BookFilled, Opened, Commanded}
use Rattle.pawn_book.specs.declared.request.BearerRequest.{BearerRequest}
use Rattle.pawn_book.specs.declared.request.BearerRequest.TheVariants.{Present, OnPledge as OnReceipt}
use Rattle.pawn_book.specs.declared.request.BrokerRequest.{BrokerRequest}
use Rattle.pawn_book.specs.declared.request.BrokerRequest.TheVariants.{PutTerms, TakePledge, OnPledge, Import}
use Rattle.pawn_book.specs.declared.request.Caller.{Caller}
use Rattle.pawn_book.specs.declared.request.Caller.TheVariants.{Operator, Broker, Viewer, Bearer}
use Rattle.pawn_book.specs.declared.request.NewBook.{NewBook}
use Rattle.pawn_book.specs.declared.request.NewTerms.{NewTerms}
use Rattle.pawn_book.specs.declared.request.View.{View}
use Rattle.pawn_book.specs.declared.book_rows.BookRows.{BookRows}
use Rattle.pawn_book.specs.declared.sheet.SheetItem.{SheetItem}
use Rattle.pawn_debt.specs.declared.fault.DebtFault.TheVariants.{BadAmount}
use Rattle.std.specs.Prelude.{ℕ, ◌+◌, List, [], ◌∷◌, ◌++◌, Bool, true, false, ◌&&◌, Option, Some, None, Result, Ok, Err}
use Rattle.std.specs.Prelude.{if◌then◌else◌, ◌==◌, nat_le, nat_lt, length, map, find, is_none, ok_or, option_map}
use Rattle.pawn_book.specs.declared.request.View.TheVariants as seen

-- a book: its key, name and capacity, and its terms, pledges and import
pub record BookValue : Type 0 where
  pub key : ℕ
  pub name : List ℕ
  pub capacity : ℕ
  -- versions 1, 2, .. in order
  pub terms : List Rates
  -- pledges 1, 2, .. in order
  pub pledges : List PledgeValue
  -- the key of the import that filled it, with the number of pledges that it brought
  pub imported : Option Imported

-- an answer, before it is written as text
pub data Out : Type 0 where
  Replied : (reply : Reply) → Out
  Denied : (why : Refusal) → Out
  -- on a day, a statement or the unknown line for each receipt
  Shown : (day : ℕ) (pledges : List (Option PledgeValue)) → Out
  -- the sheet of a day, with the capacity of the book
  Listed : (day : ℕ) (capacity : ℕ) (items : List SheetItem) → Out
  -- a book's terms and pledges
  Exported : (rows : BookRows) → Out

-- the outcome of a request
pub data Outcome : Type 0 where
  Refuses : (why : Refusal) → Outcome
  -- answered without a change
  Says : (out : Out) → Outcome
  Makes : (change : Change) (reply : Reply) → Outcome

-- the answer of an outcome
abbrev pub out_of : Outcome → Out
out_of (Refuses why) = Denied why
out_of (Says out) = out
out_of (Makes change reply) = Replied reply

-- the newest terms
abbrev pub newest : List Rates → Option Rates
newest terms = terms_at terms (length terms)

-- the pledge of number n, in a list whose first pledge has the number k
abbrev pub pledge_from : ℕ → List PledgeValue → ℕ → Option PledgeValue
pledge_from k [] n = None
pledge_from k (p ∷ ps) n = if n == k then Some p else pledge_from (k + 1) ps n

-- the pledge of number n in a book, if there is one
abbrev pub pledge_in : Option BookValue → ℕ → Option PledgeValue
pledge_in None n = None
pledge_in (Some book) n = pledge_from 1 book.pledges n

-- the list with pledge p at number n: it replaces the pledge there, or else is added at the end
abbrev pub put_from : ℕ → List PledgeValue → ℕ → PledgeValue → List PledgeValue
put_from k [] n p = p ∷ []
put_from k (q ∷ ps) n p = if n == k then p ∷ ps else q ∷ put_from (k + 1) ps n p

-- the pledge with this reference
abbrev pub with_reference : List PledgeValue → List ℕ → Option PledgeValue
with_reference pledges reference = find (λ p. is_same_text p.agreement.opening.reference reference) pledges

-- a new book
abbrev pub made_book : NewBook → BookValue
made_book new = record { key = new.key; name = new.name; capacity = new.capacity; terms = []; pledges = []; imported = None }

-- the book after an import has filled it
abbrev pub filled_book : BookValue → ℕ → BookRows → BookValue
filled_book book key rows =
    record book { terms = rows.terms; pledges = rows.pledges; imported = Some (record { key = key; pledges = length rows.pledges }) }

-- the book after a change
abbrev pub changed_book : Option BookValue → Change → Option BookValue
changed_book before (MakeBook b new) = Some (made_book new)
changed_book None (AddTerms b version terms) = None
changed_book (Some book) (AddTerms b version terms) = Some (record book { terms = book.terms ++ terms ∷ [] })
changed_book None (PutPledge b n p) = None
changed_book (Some book) (PutPledge b n p) = Some (record book { pledges = put_from 1 book.pledges n p })
changed_book None (ImportBook b key rows) = None
changed_book (Some book) (ImportBook b key rows) = Some (filled_book book key rows)

-- the book after an outcome
abbrev pub book_after : Option BookValue → Outcome → Option BookValue
book_after before (Refuses why) = before
book_after before (Says out) = before
book_after before (Makes change reply) = changed_book before change

-- the outcome for an accepted value, or its refusal
abbrev pub make_or_refuse : {V : Type 0} → Result V Refusal → (V → Outcome) → Outcome
make_or_refuse (Ok v) makes = makes v
make_or_refuse (Err why) makes = Refuses why

-- the head of a book: its data without terms and pledges, of which it has only the numbers
abbrev pub book_head : BookValue → BookHead
book_head book = record {
  key = book.key;
  name = book.name;
  capacity = book.capacity;
  terms = length book.terms;
  pledges = length book.pledges;
  imported = book.imported;
}

-- the same key, name and capacity
abbrev pub is_same_book : BookHead → NewBook → Bool
is_same_book head new = (head.key == new.key) && is_same_text head.name new.name && (head.capacity == new.capacity)

-- making a book; if there is an equal one, the answer is the same and nothing changes
abbrev pub make_book : Option BookValue → ℕ → NewBook → Outcome
make_book None b new = Makes (MakeBook b new) (BookMade b)
make_book (Some book) b new = if is_same_book (book_head book) new then Says (Replied (BookMade b)) else Refuses BookTaken

-- refused unless the key is the operator's
abbrev pub operator_step : ℕ → ℕ → Outcome → Outcome
operator_step operator key step = if key == operator then step else Refuses NotOperator

-- the same three numbers
abbrev pub are_same_rates : Rates → Rates → Bool
are_same_rates a b = (a.rate == b.rate) && (a.keep_before == b.keep_before) && (a.keep_after == b.keep_after)

-- the terms, or the refusal for their fault
abbrev pub under_terms : Result Rates TermsFault → Result Rates Refusal
under_terms (Ok terms) = Ok terms
under_terms (Err fault) = Err (Terms fault)

-- the terms of a version that a book with this many `versions` does not have yet, or their refusal
abbrev pub next_terms : ℕ → NewTerms → Result Rates Refusal
next_terms versions new =
    first_of
    ((new.version == 0, TermsSeq)
    ∷ (nat_lt (versions + 1) new.version, TermsSeq)
    ∷ (nat_le most_terms versions, TermsFull)
    ∷ [])
    (under_terms (terms_answer new.rates))

-- `PutTerms`: if the book already has equal terms under the version, the answer is the same and nothing changes
abbrev pub put_terms : BookValue → ℕ → NewTerms → Option Rates → Outcome
put_terms book b new (Some terms) = if are_same_rates terms new.rates then Says (Replied (TermsPut new.version)) else Refuses TermsSeq
put_terms book b new None = make_or_refuse (next_terms (length book.terms) new) (λ terms. Makes (AddTerms b new.version terms) (TermsPut new.version))

-- the secret with which a pledge was taken
abbrev pub first_secret : List Issued → ℕ
first_secret [] = 0
first_secret (i ∷ is) = i.secret

-- the receipt with which a pledge was taken
abbrev pub first_receipt : PledgeValue → Receipt
first_receipt p = record { number = p.agreement.number; secret = first_secret p.secrets }

-- the kinds of credit are the same
abbrev pub is_same_kind : Kind → Kind → Bool
is_same_kind (Fixed a) (Fixed b) = a == b
is_same_kind (Running a) (Running b) = a == b
is_same_kind (Fixed a) (Running b) = false
is_same_kind (Running a) (Fixed b) = false

-- the agreed ends are the same
abbrev pub is_same_end : Option ℕ → Option ℕ → Bool
is_same_end None None = true
is_same_end (Some a) (Some b) = a == b
is_same_end None (Some b) = false
is_same_end (Some a) None = false

-- the flags are the same
abbrev pub is_same_flag : Bool → Bool → Bool
is_same_flag true b = b
is_same_flag false true = false
is_same_flag false false = true

-- the openings are the same except for their references
abbrev pub is_same_opening : Opening → Opening → Bool
is_same_opening a b = is_same_text a.article b.article && is_same_kind a.kind b.kind && is_same_end a.agreed b.agreed && is_same_flag a.five_days b.five_days

-- the refusals of an opening whose reference no pledge of the book has, in their order
abbrev pub opening_refusals : BookHead → Opening → Option Rates → List (Bool × Refusal)
opening_refusals head opening newest =
    (is_none newest, NoTerms)
    ∷ (is_bad_opening opening, Pledge (PledgeRefusal.Debt BadAmount))
    ∷ (nat_le most_pledges head.pledges, PledgesFull)
    ∷ []

-- a new pledge, with the next number of the book and under its newest terms, or the first refusal
abbrev pub next_pledge : BookHead → Opening → Stamp → Option Rates → Result PledgeValue Refusal
next_pledge head opening stamp newest =
    first_of
    (opening_refusals head opening newest)
    (ok_or (option_map (λ terms. new_pledge (head.pledges + 1) opening head.terms terms stamp) newest) NoTerms)

-- `TakePledge`: an equal opening gets the answer of the first time
abbrev pub take_pledge : BookValue → ℕ → Opening → Stamp → Option PledgeValue → Outcome
take_pledge book b opening stamp (Some p) = if is_same_opening p.agreement.opening opening then Says (Replied (Opened (first_receipt p))) else Refuses RefTaken
take_pledge book b opening stamp None =
    make_or_refuse (next_pledge (book_head book) opening stamp (newest book.terms)) (λ p. Makes (PutPledge b p.agreement.number p) (Opened (first_receipt p)))

-- confirmed bookings

-- the booking that a command confirmed
abbrev pub confirmed_by : Done → Option Booking
confirmed_by (Done.Booked booking) = if is_confirmed booking.state then Some booking else None
confirmed_by (Done.Entered entry) = None
confirmed_by (Done.Held flag) = None
confirmed_by (Done.Declared secret) = None
confirmed_by (Done.Redeemed day paid) = None
confirmed_by (Done.Sold net surplus shortfall) = None
confirmed_by (Done.Extended until) = None

-- the booking that a reply reports as confirmed
abbrev pub confirmed_booking : Reply → Option Booking
confirmed_booking (BookMade b) = None
confirmed_booking (TermsPut version) = None
confirmed_booking (BookFilled pledges) = None
confirmed_booking (Opened receipt) = None
confirmed_booking (Commanded n done) = confirmed_by done

-- the book has confirmed as many bookings of the window as its capacity allows
abbrev pub is_window_full : BookValue → Option Booking → Bool
is_window_full book None = false
is_window_full book (Some booking) = nat_le book.capacity (confirmed_count book.pledges booking.day booking.window)

-- commands

-- the outcome of a command on pledge n
abbrev pub outcome_of_step : ℕ → ℕ → StepResult → Outcome
outcome_of_step b n (Refused why) = Refuses (Pledge why)
outcome_of_step b n (Answered done) = Says (Replied (Commanded n done))
outcome_of_step b n (Changed next done) = Makes (PutPledge b n next) (Commanded n done)

-- the outcome, unless it confirms a booking whose window is full
abbrev pub within_window : BookValue → Outcome → Outcome
within_window book (Refuses why) = Refuses why
within_window book (Says out) = Says out
within_window book (Makes change reply) = if is_window_full book (confirmed_booking reply) then Refuses WindowFull else Makes change reply

-- the outcome of a broker's command on pledge n
abbrev pub broker_commands : BookValue → ℕ → ℕ → Stamp → Command → Option PledgeValue → Outcome
broker_commands book b n stamp command None = Refuses NoSuchPledge
broker_commands book b n stamp command (Some p) = within_window book (outcome_of_step b n (pledge_step p stamp command))

-- the outcome of a bearer's command, given the pledge of the receipt if the receipt is live
abbrev pub bearer_commands : ℕ → ℕ → Stamp → Command → Option PledgeValue → Outcome
bearer_commands b n stamp command None = Refuses NoSuchReceipt
bearer_commands b n stamp command (Some p) = outcome_of_step b n (pledge_step p stamp command)

-- a view: the statement of a pledge
abbrev pub show_pledge : Stamp → Option PledgeValue → Outcome
show_pledge stamp None = Refuses NoSuchPledge
show_pledge stamp (Some p) = Says (Shown stamp.day (Some p ∷ []))

-- the book has neither terms nor pledges
abbrev pub is_empty : BookHead → Bool
is_empty head = (head.terms == 0) && (head.pledges == 0)

-- `Import`: the rows fill an empty book, once; a repeat under the key of that import gets the answer of the first time,
-- whatever its rows
abbrev pub import_rows : BookHead → ℕ → ℕ → BookRows → Option Imported → Outcome
import_rows head b key rows None = if is_empty head then Makes (ImportBook b key rows) (BookFilled (length rows.pledges)) else Refuses BookNotEmpty
import_rows head b key rows (Some imported) = if imported.key == key then Says (Replied (BookFilled imported.pledges)) else Refuses BookNotEmpty

-- a view: the sheet of a day
abbrev pub show_sheet : BookValue → ℕ → Outcome
show_sheet book day = Says (Listed day book.capacity (day_sheet book.pledges day))

-- a book's terms and pledges
abbrev pub rows_of_book : BookValue → BookRows
rows_of_book book = record { terms = book.terms; pledges = book.pledges }

-- a view: the rows of the book
abbrev pub export_rows : BookValue → Outcome
export_rows book = Says (Exported (rows_of_book book))

-- the outcome of a broker's request
abbrev pub broker_step : BookValue → ℕ → Stamp → BrokerRequest → Outcome
broker_step book b stamp (PutTerms new) = put_terms book b new (terms_at book.terms new.version)
broker_step book b stamp (TakePledge opening) = take_pledge book b opening stamp (with_reference book.pledges opening.reference)
broker_step book b stamp (OnPledge n command) = broker_commands book b n stamp command (pledge_from 1 book.pledges n)
broker_step book b stamp (Import key rows) = import_rows (book_head book) b key rows book.imported

-- the outcome of a request for a view
abbrev pub view_step : BookValue → Stamp → View → Outcome
view_step book stamp (seen.Pledge n) = show_pledge stamp (pledge_from 1 book.pledges n)
view_step book stamp (seen.Sheet day) = show_sheet book day
view_step book stamp seen.Rows = export_rows book

-- refused unless there is such a book and the key is its key
abbrev pub gate_step : Option BookValue → ℕ → (BookValue → Outcome) → Outcome
gate_step None key step = Refuses NoSuchBook
gate_step (Some book) key step = if book.key == key then step book else Refuses NoSuchBook

-- the optional secret is s
abbrev pub is_secret : ℕ → Option ℕ → Bool
is_secret s None = false
is_secret s (Some t) = t == s

-- s is the live secret of the pledge
abbrev pub is_live : ℕ → PledgeValue → Bool
is_live s p = is_secret s (live_of p)

-- the pledge, if s is its live secret
abbrev pub only_live : ℕ → Option PledgeValue → Option PledgeValue
only_live s None = None
only_live s (Some p) = if is_live s p then Some p else None

-- the pledge of a receipt, if the receipt is live
abbrev pub live_at : (ℕ → Option PledgeValue) → Receipt → Option PledgeValue
live_at pledges r = only_live r.secret (pledges r.number)

-- none of the receipts was found live
abbrev pub are_unknown : List (Option PledgeValue) → Bool
are_unknown [] = true
are_unknown (None ∷ ps) = are_unknown ps
are_unknown (Some p ∷ ps) = false

-- `Present`: refused if none of the receipts is live
abbrev pub present_receipts : Stamp → List (Option PledgeValue) → Outcome
present_receipts stamp pledges = if are_unknown pledges then Refuses NoSuchReceipt else Says (Shown stamp.day pledges)

-- the outcome of a bearer's request, given the pledge of each number
abbrev pub bearer_step : (ℕ → Option PledgeValue) → ℕ → Stamp → BearerRequest → Outcome
bearer_step pledges b stamp (Present receipts) = present_receipts stamp (map (live_at pledges) receipts)
bearer_step pledges b stamp (OnReceipt r command) = bearer_commands b r.number stamp command (live_at pledges r)

-- the outcome of a request on book b
abbrev pub book_step : Option BookValue → ℕ → ℕ → Stamp → Caller → Outcome
book_step before operator b stamp (Operator key new) = operator_step operator key (make_book before b new)
book_step before operator b stamp (Broker key asked) = gate_step before key (λ book. broker_step book b stamp asked)
book_step before operator b stamp (Viewer key view) = gate_step before key (λ book. view_step book stamp view)
book_step before operator b stamp (Bearer asked) = bearer_step (pledge_in before) b stamp asked
