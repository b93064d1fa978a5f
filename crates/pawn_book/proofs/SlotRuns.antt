-- What a run does to each book, and to the machine of a slot.
use Rattle.pawn_book.proofs.SlotMachine.{Follows, enter_book, solo_from-append, step_follows}
use Rattle.pawn_book.proofs.SlotMoments.{book_trace_step, request_on, run_slot, slot_on, slot_step}
use Rattle.pawn_book.proofs.Sounds.{get-with_book}
use Rattle.pawn_book.specs.BookStep.{BookValue, Makes, Outcome, Refuses, Says, bearer_commands, bearer_step, book_after}
use Rattle.pawn_book.specs.BookStep.{book_step, changed_book, is_live, outcome_of_step, live_at, only_live, out_of}
use Rattle.pawn_book.specs.BookStep.{pledge_in, present_receipts}
use Rattle.pawn_book.specs.Books.{AddTerms, Bearer, BearerRequest, Caller, Change, Full, ImportBook, MakeBook}
use Rattle.pawn_book.specs.Books.{OnReceipt, Present, PutPledge, Request}
use Rattle.pawn_book.specs.Changes.{numbered_pledges}
use Rattle.pawn_book.specs.Common.{Answered, Changed, Command, StepResult, PledgeValue, Receipt, Refused, Stamp, flat_map}
use Rattle.pawn_book.specs.Common.{list_all, pledge_step}
use Rattle.pawn_book.specs.HostStep.{Host, host_after, host_step, rows, with_book, within_limit}
use Rattle.pawn_book.specs.Keeping.{pledges_of}
use Rattle.pawn_book.specs.Laws.{book_run}
use Rattle.pawn_book.specs.Machines.{is_in, is_slots, no_pledge, reply_alone, solo, solo_from, solo_reply}
use Rattle.pawn_book.specs.Runs.{Event, Mark, host_after_event, host_after_mark, is_settled, no_memory, no_store}
use Rattle.pawn_book.specs.Runs.{read_as, request_in, run_host}
use Rattle.pawn_book.specs.Slots.{BearersAddEvents, BooksAnswerAlone, EqualBookTracesAnswerAlike, EqualTracesAnswerAlike}
use Rattle.pawn_book.specs.Slots.{OtherBooksStay, SlotsAnswerAlone, SlotsAreHeld, adds_event}
use Rattle.pawn_book.specs.Traces.{book_trace, enters, is_live_in, slot_events, slot_of, slot_trace, within_slot}
use Rattle.std.proofs.Common.{◌≡◌, ℕ, List, [], ◌∷◌, ◌++◌, Some, None, Ok, Err, refl, ◌∙◌, ap, sym, subst, arith}
use Rattle.std.proofs.Common.{if◌then◌else◌, Option, ◌==◌, Bool, true, false, nat_lt, ◌&&◌, map}
use Rattle.std.proofs.lemmas.Bool.{and_parts}
use Rattle.std.proofs.lemmas.Bool.Decides.{nat_tests}
use Rattle.std.specs.FinMap.{get}

-- where a book is set
set_get : (h : Host) (c b : ℕ) (book : Option BookValue) → (book ≡ None → get h.books c ≡ None)
    → get (with_book h c book).books b ≡ (if c == b then book else get h.books b)
set_get h c b None none = grind (arith, nat_tests, none refl)
set_get h c b (Some book) none = get-with_book h c book b ∙ grind (arith, nat_tests)

none_before : (before : Option BookValue) (change : Change) → changed_book before change ≡ None → before ≡ None
none_before None change is = refl
none_before (Some book) (MakeBook b new) is = cc is
none_before (Some book) (AddTerms b version terms) is = cc is
none_before (Some book) (PutPledge b n p) is = cc is
none_before (Some book) (ImportBook b key rows) is = cc is

-- each book after an outcome of book c
pub host_get : (h : Host) (c b : ℕ) (o : Outcome) → get (host_after h c o).books b ≡ (if c == b then book_after (get h.books c) o else get h.books b)
host_get h c b (Refuses why) = grind (arith, nat_tests)
host_get h c b (Says out) = grind (arith, nat_tests)
host_get h c b (Makes change reply) = set_get h c b (changed_book (get h.books c) change) (none_before (get h.books c) change)

-- no request changes another book
pub other_books_stay : OtherBooksStay
other_books_stay h operator b stamp request other =
    let no : (request.book == b) ≡ false = grind (arith, nat_tests, other) in
    host_get h request.book b (host_step h operator stamp request)
    ∙ ap (λ v. if v then book_after (get h.books request.book) (host_step h operator stamp request) else get h.books b) no

-- if the rows are full, the machine stays the same
limited_follows : (slot : List Receipt) (h : Host) (b : ℕ) (stamp : Stamp) (caller : Caller) (o : Outcome) → Follows slot (get h.books b) stamp caller o
    → Follows slot (get h.books b) stamp caller (within_limit h b o)
limited_follows slot h b stamp caller (Refuses why) follows = follows
limited_follows slot h b stamp caller (Says out) follows = follows
limited_follows slot h b stamp caller (Makes change reply) follows =
    elim (nat_lt h.limit (rows (with_book h b (changed_book (get h.books b) change)))) as
    (λ v. Follows slot (get h.books b) stamp caller (if v then Refuses Full else Makes change reply)) [
      | true ↦ λ q. refl
      | false ↦ follows
    ]

host_follows : (slot : List Receipt) (h : Host) (operator : ℕ) (stamp : Stamp) (request : Request)
    → Follows slot (get h.books request.book) stamp request.caller (host_step h operator stamp request)
host_follows slot h operator stamp request =
    limited_follows slot h request.book stamp request.caller (book_step (get h.books request.book) operator request.book stamp request.caller)
    (step_follows slot (get h.books request.book) operator request.book stamp request.caller)

-- an outcome at the request's book, seen from book b
seen : (slot : List Receipt) (h : Host) (b : ℕ) (stamp : Stamp) (request : Request) (o : Outcome) (q : ℕ)
    → Follows slot (get h.books request.book) stamp request.caller o → solo_from slot (slot_of slot (get h.books b))
    (if request.book == b then slot_events slot (get h.books b) stamp request.caller o else []) q ≡ slot_of slot (get (host_after h request.book o).books b) q
seen slot h b stamp request o q follows = from (request.book == b) refl where
  after : (v : Bool) → request.book == b ≡ v
      → (if v then book_after (get h.books request.book) o else get h.books b) ≡ get (host_after h request.book o).books b
  after v is = sym (host_get h request.book b o ∙ ap (λ v. if v then book_after (get h.books request.book) o else get h.books b) is)

  from : (v : Bool) → request.book == b ≡ v → solo_from slot (slot_of slot (get h.books b))
      (if v then slot_events slot (get h.books b) stamp request.caller o else []) q ≡ slot_of slot (get (host_after h request.book o).books b) q
  from true is =
      let same : request.book ≡ b = grind (arith, nat_tests, is) in
      subst (λ (c : ℕ). solo_from slot (slot_of slot (get h.books c)) (slot_events slot (get h.books c) stamp request.caller o) q ≡ slot_of slot
      (get (host_after h request.book o).books b) q) same (follows q ∙ ap (λ x. slot_of slot x q) (after true is))
  from false is = ap (λ x. slot_of slot x q) (after false is)

marked_follows : {F : Type 0} (b : ℕ) (slot : List Receipt) (h : Host) (operator : ℕ) (stamp : Stamp) (mark : Mark F) (q : ℕ) → solo_from slot
    (slot_of slot (get h.books b)) (slot_on b slot h operator stamp (request_in mark)) q ≡ slot_of slot (get (host_after_mark h operator stamp mark).books b) q
marked_follows b slot h operator stamp (read_as (Ok request)) q =
    seen slot h b stamp request (host_step h operator stamp request) q (host_follows slot h operator stamp request)
marked_follows b slot h operator stamp (read_as (Err fault)) q = refl
marked_follows b slot h operator stamp no_memory q = refl
marked_follows b slot h operator stamp no_store q = refl

pub event_follows : {F : Type 0} (b : ℕ) (slot : List Receipt) (h : Host) (operator : ℕ) (event : Event F) → solo_from slot (slot_of slot (get h.books b))
    (slot_on b slot h operator event.stamp (request_in event.mark)) ≡ slot_of slot (get (host_after_event h operator event).books b)
event_follows b slot h operator event = λ i q. marked_follows b slot h operator event.stamp event.mark q i

run_follows : {F : Type 0} (b : ℕ) (slot : List Receipt) (h : Host) (operator : ℕ) (events : List (Event F))
    → solo_from slot (slot_of slot (get h.books b)) (run_slot b slot h operator events) ≡ slot_of slot (get (run_host h operator events).books b)
run_follows b slot h operator [] = refl
run_follows b slot h operator (event ∷ events) =
    ap (solo_from slot (slot_of slot (get h.books b))) (slot_step b slot h operator event events) ∙ solo_from-append slot (slot_of slot (get h.books b))
    (slot_on b slot h operator event.stamp (request_in event.mark)) (run_slot b slot (host_after_event h operator event) operator events)
    ∙ ap (λ m. solo_from slot m (run_slot b slot (host_after_event h operator event) operator events)) (event_follows b slot h operator event)
    ∙ run_follows b slot (host_after_event h operator event) operator events

enter_start : (slot : List Receipt) (book : Option BookValue) (q : ℕ)
    → solo_from slot no_pledge (flat_map (enters slot) (numbered_pledges 1 (pledges_of book))) q ≡ slot_of slot book q
enter_start slot None q = refl
enter_start slot (Some book) q = enter_book slot book.pledges no_pledge q (λ n. refl)

pub entered_start : (slot : List Receipt) (book : Option BookValue)
    → solo_from slot no_pledge (flat_map (enters slot) (numbered_pledges 1 (pledges_of book))) ≡ slot_of slot book
entered_start slot book = λ i q. enter_start slot book q i

-- a slot's machine has exactly the pledges in the slot
pub slot_is_held : {F : Type 0} (h : Host) (operator b : ℕ) (slot : List Receipt) (events : List (Event F))
    → solo slot (slot_trace b slot h operator events) ≡ slot_of slot (get (run_host h operator events).books b)
slot_is_held h operator b slot events =
    solo_from-append slot no_pledge (flat_map (enters slot) (numbered_pledges 1 (pledges_of (get h.books b)))) (run_slot b slot h operator events)
    ∙ ap (λ m. solo_from slot m (run_slot b slot h operator events)) (entered_start slot (get h.books b)) ∙ run_follows b slot h operator events

pub slots_are_held : {F : Type 0} → SlotsAreHeld F
slots_are_held h operator b slot events n = ap (λ m. m n) (slot_is_held h operator b slot events)

-- replies to a slot

in_live : (slot : List Receipt) (r : Receipt) (p : PledgeValue) → is_in slot r ≡ true → is_live r.secret p ≡ true → is_live_in slot r.number p ≡ true
in_live [] r p e live = cc e
in_live (t ∷ ts) r p e live = grind (arith, nat_tests, e, live, in_live ts r p)

-- a receipt of the slot finds the same pledge in the slot as in the book
live_in_slot : (slot : List Receipt) (r : Receipt) (o : Option PledgeValue) → is_in slot r ≡ true
    → only_live r.secret o ≡ only_live r.secret (within_slot slot r.number o)
live_in_slot slot r None e = refl
live_in_slot slot r (Some p) e =
    elim (is_live r.secret p) as
    (λ v. is_live r.secret p ≡ v → (if v then Some p else None) ≡ only_live r.secret (if is_live_in slot r.number p then Some p else None)) [
      | true ↦ λ live. rw (in_live slot r p e live, live) refl
      | false ↦
          λ dead. elim (is_live_in slot r.number p) as (λ w. None ≡ only_live r.secret (if w then Some p else None)) [ true ↦ rw dead refl | false ↦ refl ]
    ] refl

all_live_in_slot : (slot : List Receipt) (before : Option BookValue) (rs : List Receipt) → list_all (is_in slot) rs ≡ true
    → map (live_at (pledge_in before)) rs ≡ map (live_at (slot_of slot before)) rs
all_live_in_slot slot before [] e = refl
all_live_in_slot slot before (r ∷ rs) e =
    let both = and_parts (is_in slot r) (list_all (is_in slot) rs) e in
    λ i. live_in_slot slot r (pledge_in before r.number) both.0 i ∷ all_live_in_slot slot before rs both.1 i

pub bearer_in_slot : (slot : List Receipt) (before : Option BookValue) (b : ℕ) (stamp : Stamp) (asked : BearerRequest) → is_slots slot asked ≡ true
    → bearer_step (pledge_in before) b stamp asked ≡ bearer_step (slot_of slot before) b stamp asked
bearer_in_slot slot before b stamp (OnReceipt r command) e = ap (bearer_commands b r.number stamp command) (live_in_slot slot r (pledge_in before r.number) e)
bearer_in_slot slot before b stamp (Present rs) e = ap (present_receipts stamp) (all_live_in_slot slot before rs e)

-- if the reply is settled, the step is that of the book
limited_settled : (h : Host) (b : ℕ) (o : Outcome) → is_settled (out_of (within_limit h b o)) ≡ true → within_limit h b o ≡ o
limited_settled h b (Refuses why) e = refl
limited_settled h b (Says out) e = refl
limited_settled h b (Makes change reply) e =
    elim (nat_lt h.limit (rows (with_book h b (changed_book (get h.books b) change)))) as
    (λ v. is_settled (out_of (if v then Refuses Full else Makes change reply)) ≡ true → (if v then Refuses Full else Makes change reply) ≡ Makes change reply) [
      | true ↦ λ e. cc e
      | false ↦ λ e. refl
    ] e

pub settled_step : (h : Host) (operator : ℕ) (stamp : Stamp) (request : Request) → is_settled (out_of (host_step h operator stamp request)) ≡ true
    → host_step h operator stamp request ≡ book_step (get h.books request.book) operator request.book stamp request.caller
settled_step h operator stamp request settled =
    limited_settled h request.book (book_step (get h.books request.book) operator request.book stamp request.caller) settled

-- each settled reply to a slot's request is the reply of the slot's machine alone
pub slots_answer_alone : {F : Type 0} → SlotsAnswerAlone F
slots_answer_alone h operator b slot before stamp asked mine settled =
    let now = run_host h operator before in
    ap out_of (settled_step now operator stamp (record { book = b; caller = Bearer asked }) settled
    ∙ bearer_in_slot slot (get now.books b) b stamp asked mine ∙ ap (λ m. bearer_step m b stamp asked) (sym (slot_is_held h operator b slot before)))

-- equal traces get equal replies
pub equal_traces_answer_alike : {F : Type 0} → EqualTracesAnswerAlike F
equal_traces_answer_alike h g operator b slot before others stamp asked mine settled other same =
    slots_answer_alone h operator b slot before stamp asked mine settled
    ∙ ap (λ trace. solo_reply slot trace b stamp asked) same ∙ sym (slots_answer_alone g operator b slot others stamp asked mine other)

-- a bearer's command is added to the trace if the slot's machine accepts it

joins_live : (slot : List Receipt) (before : Option BookValue) (b : ℕ) (stamp : Stamp) (r : Receipt) (command : Command) (p : PledgeValue)
    → pledge_in before r.number ≡ Some p → is_live_in slot r.number p ≡ true → (j : StepResult)
    → slot_events slot before stamp (Bearer (OnReceipt r command)) (outcome_of_step b r.number j) ≡ adds_event r.number stamp command
    (outcome_of_step b r.number j)
joins_live slot before b stamp r command p at live (Refused why) = refl
joins_live slot before b stamp r command p at live (Answered done) = refl
joins_live slot before b stamp r command p at live (Changed next done) = rw (at, live) refl

joins_found : (slot : List Receipt) (before : Option BookValue) (b : ℕ) (stamp : Stamp) (r : Receipt) (command : Command) (o : Option PledgeValue)
    → pledge_in before r.number ≡ o → is_in slot r ≡ true → slot_events slot before stamp (Bearer (OnReceipt r command)) (bearer_commands b r.number stamp
    command (only_live r.secret o)) ≡ adds_event r.number stamp command (bearer_commands b r.number stamp command (only_live r.secret o))
joins_found slot before b stamp r command None at mine = refl
joins_found slot before b stamp r command (Some p) at mine =
    elim (is_live r.secret p) as (λ v. is_live r.secret p ≡ v
    → slot_events slot before stamp (Bearer (OnReceipt r command)) (bearer_commands b r.number stamp command (if v then Some p else None))
    ≡ adds_event r.number stamp command (bearer_commands b r.number stamp command (if v then Some p else None))) [
      | true ↦ λ live. joins_live slot before b stamp r command p at (in_live slot r p mine live) (pledge_step p stamp command)
      | false ↦ λ dead. refl
    ] refl

pub bearers_add_events : {F : Type 0} → BearersAddEvents F
bearers_add_events h operator b slot before stamp r command mine settled =
    let now = run_host h operator before in
    ap (slot_events slot (get now.books b) stamp (Bearer (OnReceipt r command)))
    (settled_step now operator stamp (record { book = b; caller = Bearer (OnReceipt r command) }) settled) ∙ joins_found slot
    (get now.books b) b stamp r command (pledge_in (get now.books b) r.number) refl mine ∙ ap (adds_event r.number stamp command) (bearer_in_slot slot
    (get now.books b) b stamp (OnReceipt r command) mine ∙ ap (λ m. bearer_step m b stamp (OnReceipt r command)) (sym (slot_is_held h operator b slot before)))

-- a book alone

unsettled_same : (h : Host) (b : ℕ) (o : Outcome) → is_settled (out_of o) ≡ false → host_after h b o ≡ h
unsettled_same h b (Refuses why) unsettled = refl
unsettled_same h b (Says out) unsettled = refl
unsettled_same h b (Makes change reply) unsettled = cc unsettled

request_alone : (h : Host) (operator b : ℕ) (stamp : Stamp) (request : Request) (o : Outcome)
    → (is_settled (out_of o) ≡ true → o ≡ book_step (get h.books request.book) operator request.book stamp request.caller) → book_run (get h.books b) operator b
    (if (request.book == b) && is_settled (out_of o) then (stamp, request.caller) ∷ [] else []) ≡ get (host_after h request.book o).books b
request_alone h operator b stamp request o settled = from (request.book == b) refl (is_settled (out_of o)) refl where
  after : (v : Bool) → request.book == b ≡ v
      → get (host_after h request.book o).books b ≡ (if v then book_after (get h.books request.book) o else get h.books b)
  after v is = host_get h request.book b o ∙ ap (λ v. if v then book_after (get h.books request.book) o else get h.books b) is

  from : (v : Bool) → request.book == b ≡ v → (s : Bool) → is_settled (out_of o) ≡ s
      → book_run (get h.books b) operator b (if v && s then (stamp, request.caller) ∷ [] else []) ≡ get (host_after h request.book o).books b
  from false other s is = sym (after false other)
  from true same false is = ap (λ (g : Host). get g.books b) (sym (unsettled_same h request.book o is))
  from true same true is =
      let here : request.book ≡ b = grind (arith, nat_tests, same) in
      sym (after true same ∙ ap (book_after (get h.books request.book)) (settled is)
      ∙ ap (λ (c : ℕ). book_after (get h.books c) (book_step (get h.books c) operator c stamp request.caller)) here)

marked_alone : {F : Type 0} (h : Host) (operator b : ℕ) (stamp : Stamp) (mark : Mark F)
    → book_run (get h.books b) operator b (request_on b h operator stamp (request_in mark)) ≡ get (host_after_mark h operator stamp mark).books b
marked_alone h operator b stamp (read_as (Ok request)) =
    request_alone h operator b stamp request (host_step h operator stamp request) (settled_step h operator stamp request)
marked_alone h operator b stamp (read_as (Err fault)) = refl
marked_alone h operator b stamp no_memory = refl
marked_alone h operator b stamp no_store = refl

book_run-append : (book : Option BookValue) (operator b : ℕ) (xs ys : List (Stamp × Caller))
    → book_run book operator b (xs ++ ys) ≡ book_run (book_run book operator b xs) operator b ys
book_run-append book operator b [] ys = refl
book_run-append book operator b (x ∷ xs) ys = book_run-append (book_after book (book_step book operator b x.0 x.1)) operator b xs ys

pub book_is_alone : {F : Type 0} (h : Host) (operator b : ℕ) (events : List (Event F))
    → book_run (get h.books b) operator b (book_trace b h operator events) ≡ get (run_host h operator events).books b
book_is_alone h operator b [] = refl
book_is_alone h operator b (event ∷ events) =
    ap (book_run (get h.books b) operator b) (book_trace_step b h operator event events) ∙ book_run-append (get h.books b) operator b
    (request_on b h operator event.stamp (request_in event.mark)) (book_trace b (host_after_event h operator event) operator events)
    ∙ ap (λ x. book_run x operator b (book_trace b (host_after_event h operator event) operator events)) (marked_alone h operator b event.stamp event.mark)
    ∙ book_is_alone (host_after_event h operator event) operator b events

pub books_answer_alone : {F : Type 0} → BooksAnswerAlone F
books_answer_alone h operator before stamp request settled =
    ap out_of (settled_step (run_host h operator before) operator stamp request settled
    ∙ ap (λ book. book_step book operator request.book stamp request.caller) (sym (book_is_alone h operator request.book before)))

pub equal_book_traces_answer_alike : {F : Type 0} → EqualBookTracesAnswerAlike F
equal_book_traces_answer_alike h g operator before others stamp request settled also start same =
    books_answer_alone h operator before stamp request settled
    ∙ ap (λ book. reply_alone book operator request.book (book_trace request.book h operator before) stamp request.caller) start ∙ ap (λ trace. reply_alone
    (get g.books request.book) operator request.book trace stamp request.caller) same ∙ sym (books_answer_alone g operator others stamp request also)
