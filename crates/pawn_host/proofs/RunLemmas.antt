-- Lemmas on one item of a run.
use Rattle.pawn_book.specs.Changes.{with_change}
use Rattle.pawn_book.specs.Plans.{Acts, Commits, Gates, IsLeftByAct, IsLeftByStep, IsRefused, IsUnwell, next_host}
use Rattle.pawn_book.specs.declared.change.Change.{Change}
use Rattle.pawn_book.specs.declared.reply.Reply.{Reply}
use Rattle.pawn_book.specs.declared.request.Caller.{Caller}
use Rattle.pawn_host.proofs.CrashLemmas.{goes_wider}
use Rattle.pawn_host.specs.Common.{Answered, Bearer, BearerRequest, BookValue, Denied, Host, IsSound, Out, Outcome}
use Rattle.pawn_host.specs.Common.{Present, Receipt, Refusal, Refuses, Request, Says, SaysRequest, Shown, Stamp}
use Rattle.pawn_host.specs.Common.{Replied, View, Viewer, WireFault, are_unknown, fault_text, gate_step, get}
use Rattle.pawn_host.specs.Common.{host_after, host_step, memory_text, no_memory, no_store, out_of, out_text, pledge_in}
use Rattle.pawn_host.specs.Common.{read_as, reply_text, rows, show_pledge, view_step, within_limit}
use Rattle.pawn_host.specs.Crashes.{IsDone}
use Rattle.pawn_host.specs.Keeps.{GoesTo, IsActed, IsKeyOf, Kept, Start, States, answer_bytes}
use Rattle.pawn_host.specs.Run.{said_text}
use Rattle.pawn_host.specs.declared.service.Answer.{Answer}
use Rattle.pawn_host.specs.declared.service.Answer.TheVariants.{Bytes, Memory}
use Rattle.pawn_pledge.specs.Pledge.{PledgeValue}
use Rattle.pawn_view.proofs.StatementLemmas.{some_same}
use Rattle.pawn_view.specs.Shown.{live_pledges, presentation_of, pledge_at, statement_of}
use Rattle.pawn_view.specs.Text.{presented_text, statement_text}
use Rattle.std.proofs.Common.{◌≡◌, ◌∙◌, ℕ, Bool, true, false, List, [], ◌∷◌, ◌++◌, ◌⊎◌, ◌<◌, arith, inl, inr, refl, ap}
use Rattle.std.proofs.Common.{sym, subst, Option, Some, None, Result, Ok, Err, codes, if◌then◌else◌, option_map, ◌==◌}
use Rattle.std.proofs.Common.{append-nil}
use Rattle.std.proofs.lemmas.Bool.Decides.{nat_tests}
use Rattle.pawn_reply.specs.declared.reply.Out.TheVariants as wire

-- memory ran out, and nothing changed
pub acted_memory : (start : Start) (stamp : Stamp) (bytes reply : List ℕ) (kept : Kept) → reply ≡ memory_text → GoesTo kept start.host start.leaves
    → IsActed start stamp bytes reply kept
acted_memory start stamp bytes reply kept is goes = record { mark = no_memory; marked = tt; text = is; goes = goes_wider goes (λ left by. inl by) }

-- ---- bytes that are no request

is_memory : (e : WireFault) → (e ≡ WireFault.Memory) ⊎ (e ≡ WireFault.Memory → ⊥)
is_memory WireFault.BadHead = inr (λ m. cc)
is_memory WireFault.Transfer = inr (λ m. cc)
is_memory WireFault.BadLength = inr (λ m. cc)
is_memory WireFault.BodyTooLong = inr (λ m. cc)
is_memory WireFault.NoRoute = inr (λ m. cc)
is_memory WireFault.WrongMethod = inr (λ m. cc)
is_memory WireFault.BadKey = inr (λ m. cc)
is_memory WireFault.NoReceipt = inr (λ m. cc)
is_memory (WireFault.Csv fault) = inr (λ m. cc)
is_memory WireFault.TooManyReceipts = inr (λ m. cc)
is_memory WireFault.BadReceipt = inr (λ m. cc)
is_memory WireFault.BadBody = inr (λ m. cc)
is_memory WireFault.Memory = inl refl

not_memory : Refusal.Full ≡ Refusal.Memory → ⊥
not_memory e = cc

not_store : Refusal.Full ≡ Refusal.Store → ⊥
not_store e = cc

err_same : (a b : WireFault) → ◌≡◌ {A = Result Request WireFault} (Err a) (Err b) → a ≡ b
err_same a b e = cc

faulted_bytes : (start : Start) (stamp : Stamp) (bytes reply : List ℕ) (kept : Kept) (e : WireFault)
    → (e ≡ WireFault.Memory) ⊎ SaysRequest bytes (Err e) → reply ≡ fault_text e → GoesTo kept start.host start.leaves → IsActed start stamp bytes reply kept
faulted_bytes start stamp bytes reply kept e (inl m) is goes = acted_memory start stamp bytes reply kept (is ∙ ap fault_text m) goes
faulted_bytes start stamp bytes reply kept e (inr x) is goes = elim (is_memory e) [
  | inl m ↦ acted_memory start stamp bytes reply kept (is ∙ ap fault_text m) goes
  | inr other ↦ record { mark = read_as (Err e); marked = (x, λ m. other (err_same e WireFault.Memory m)); text = is; goes = goes }
]

pub acted_fault : (start : Start) (stamp : Stamp) (bytes : List ℕ) (answer : Answer) (kept : Kept) (e : WireFault)
    → (e ≡ WireFault.Memory) ⊎ SaysRequest bytes (Err e) → States answer (out_text (wire.Fault e)) → GoesTo kept start.host start.leaves
    → IsActed start stamp bytes (answer_bytes answer) kept
acted_fault start stamp bytes (Bytes v) kept e read is goes = faulted_bytes start stamp bytes v.items kept e read is goes
acted_fault start stamp bytes Memory kept e read is goes = acted_memory start stamp bytes memory_text kept refl goes

-- ---- requests

-- the host of the keeper after a request's step
abbrev pub GoesByStep : Start → Stamp → Request → Kept → Type 0
GoesByStep start stamp request kept = GoesTo kept (next_host start.host start.operator stamp request)
    (IsLeftByStep start.host request.book (host_step start.host start.operator stamp request) start.leaves)

-- the outcome is that of the step
pub goes_by : (start : Start) (stamp : Stamp) (request : Request) (kept : Kept) (o : Outcome) → host_step start.host start.operator stamp request ≡ o
    → GoesTo kept (host_after start.host request.book o) (IsLeftByStep start.host request.book o start.leaves) → GoesByStep start stamp request kept
goes_by start stamp request kept o is goes =
    subst (λ (o : Outcome). GoesTo kept (host_after start.host request.book o) (IsLeftByStep start.host request.book o start.leaves)) (sym is) goes

-- the reply is that of the host's step
pub acted_said : (start : Start) (stamp : Stamp) (bytes reply : List ℕ) (kept : Kept) (request : Request) (out : Out)
    → SaysRequest bytes (Ok request) → out_of (host_step start.host start.operator stamp request) ≡ out → reply ≡ said_text (Answered out)
    → GoesByStep start stamp request kept → IsActed start stamp bytes reply kept
acted_said start stamp bytes reply kept request out read is text goes = record {
  mark = read_as (Ok request);
  marked = (read, λ m. cc);
  text = text ∙ ap (λ (o : Out). said_text (Answered o)) (sym is);
  goes = goes;
}

-- nothing changed; but if the keeper did not answer the request, a crash may leave a host with its change
abbrev pub GoesUnmade : Start → Stamp → Request → Refusal → Kept → Type 0
GoesUnmade start stamp request why kept = (IsUnwell why × GoesTo kept start.host (IsLeftByAct start.host start.operator stamp request start.leaves (Err why)))
    ⊎ ((host_step start.host start.operator stamp request ≡ Refuses why) × GoesTo kept start.host start.leaves)

-- the keeper did not answer
goes_unwell : (start : Start) (stamp : Stamp) (bytes : List ℕ) (request : Request) (why : Refusal) (kept : Kept) → SaysRequest bytes (Ok request)
    → GoesTo kept start.host (IsLeftByAct start.host start.operator stamp request start.leaves (Err why))
    → GoesTo kept start.host (λ left. start.leaves left ⊎ IsDone start.host start.operator stamp bytes left)
goes_unwell start stamp bytes request why kept read goes = goes_wider goes from where
  from : (left : Host) → IsLeftByAct start.host start.operator stamp request start.leaves (Err why) left
      → start.leaves left ⊎ IsDone start.host start.operator stamp bytes left
  from left (inl same) = inl same
  from left (inr done) = inr (request, read, done.1)

-- the request was refused, and the answer reports that
pub acted_unmade : (start : Start) (stamp : Stamp) (bytes : List ℕ) (answer : Answer) (kept : Kept) (request : Request) (why : Refusal)
    → SaysRequest bytes (Ok request) → States answer (out_text (wire.Refused why)) → GoesUnmade start stamp request why kept
    → (start.Steady → why ≡ Refusal.Store → ⊥) → IsActed start stamp bytes (answer_bytes answer) kept
acted_unmade start stamp bytes Memory kept request why read is (inl unwell) calm =
    record { mark = no_memory; marked = tt; text = refl; goes = goes_unwell start stamp bytes request why kept read unwell.1 }
acted_unmade start stamp bytes Memory kept request why read is (inr refused) calm = acted_memory start stamp bytes memory_text kept refl refused.1
acted_unmade start stamp bytes (Bytes v) kept request why read is (inl (inl memory, goes)) calm = record {
  mark = no_memory;
  marked = tt;
  text = is ∙ ap (λ (w : Refusal). out_text (wire.Refused w)) memory;
  goes = goes_unwell start stamp bytes request why kept read goes;
}
acted_unmade start stamp bytes (Bytes v) kept request why read is (inl (inr store, goes)) calm = record {
  mark = no_store;
  marked = λ steady. calm steady store;
  text = is ∙ ap (λ (w : Refusal). out_text (wire.Refused w)) store;
  goes = goes_unwell start stamp bytes request why kept read goes;
}
acted_unmade start stamp bytes (Bytes v) kept request why read is (inr refused) calm =
    acted_said start stamp bytes v.items kept request (Denied why) read (ap out_of refused.0) is
    (goes_by start stamp request kept (Refuses why) refused.0 refused.1)

-- the same, if the keeper was only read
pub acted_refused : (start : Start) (stamp : Stamp) (bytes : List ℕ) (answer : Answer) (kept : Kept) (request : Request) (why : Refusal)
    → SaysRequest bytes (Ok request) → States answer (out_text (wire.Refused why)) → GoesTo kept start.host start.leaves
    → IsRefused (host_step start.host start.operator stamp request) why → (start.Steady → why ≡ Refusal.Store → ⊥)
    → IsActed start stamp bytes (answer_bytes answer) kept
acted_refused start stamp bytes answer kept request why read is goes (inl unwell) calm =
    acted_unmade start stamp bytes answer kept request why read is (inl (unwell, goes_wider goes (λ left by. inl by))) calm
acted_refused start stamp bytes answer kept request why read is goes (inr step) calm =
    acted_unmade start stamp bytes answer kept request why read is (inr (step, goes)) calm

-- the request was done, and the answer reports that
pub acted_done : (start : Start) (stamp : Stamp) (bytes text : List ℕ) (kept : Kept) (request : Request) (reply : Reply)
    → SaysRequest bytes (Ok request) → text ≡ out_text (wire.Done reply) → Acts start.host start.operator stamp request (Ok reply) kept.stands → ((left : Host)
    → kept.leaves left → IsLeftByAct start.host start.operator stamp request start.leaves (Ok reply) left) → IsActed start stamp bytes text kept
acted_done start stamp bytes text kept request reply read is acts crash =
    acted_said start stamp bytes text kept request (Replied reply) read acts.0 is (record { stands_for = acts.1; sound = acts.2; crash = crash })

-- a change was not made: if there was no room for it, a crash does not leave it either
pub goes_unmade : (start : Start) (stamp : Stamp) (request : Request) (kept : Kept) (change : Option Change) (why : Refusal) → IsSound start.host
    → Commits start.host change (Err why) kept.stands → Acts start.host start.operator stamp request (Err why) kept.stands → ((left : Host) → kept.leaves left
    → IsLeftByAct start.host start.operator stamp request start.leaves (Err why) left) → GoesUnmade start stamp request why kept
goes_unmade start stamp request kept change why sound made (at, inl unwell) crash = inl (unwell, record { stands_for = at; sound = sound; crash = crash })
goes_unmade start stamp request kept None why sound made (at, inr step) crash = absurd made
goes_unmade start stamp request kept (Some change) why sound made (at, inr step) crash = from made.1 where
  still : (left : Host) → why ≡ Refusal.Full → IsLeftByAct start.host start.operator stamp request start.leaves (Err why) left → start.leaves left
  still left full (inl same) = same
  still left full (inr (inl memory, done)) = absurd (not_memory (sym full ∙ memory))
  still left full (inr (inr store, done)) = absurd (not_store (sym full ∙ store))

  from : IsUnwell why ⊎ ((why ≡ Refusal.Full) × (start.host.limit < rows (with_change start.host change))) → GoesUnmade start stamp request why kept
  from (inl unwell) = inl (unwell, record { stands_for = at; sound = sound; crash = crash })
  from (inr full) = inr (step, record { stands_for = at; sound = sound; crash = λ left by. still left full.0 (crash left by) })

pub err_is : {V : Type 0} (r : Result V Refusal) (why : Refusal) → r ≡ Err why → why ≡ Refusal.Store → r ≡ Err Refusal.Store
err_is r why is store = is ∙ ap (λ (w : Refusal). Err w) store

-- the answer has the text of the host's step
pub acted_text : (start : Start) (stamp : Stamp) (bytes : List ℕ) (answer : Answer) (kept : Kept) (request : Request) (said : Out) (kind out : List ℕ)
    → SaysRequest bytes (Ok request) → host_step start.host start.operator stamp request ≡ Says said → reply_text 200 kind out ≡ said_text (Answered said)
    → States answer (reply_text 200 kind out) → GoesTo kept start.host start.leaves → IsActed start stamp bytes (answer_bytes answer) kept
acted_text start stamp bytes Memory kept request said kind out read step same states goes = acted_memory start stamp bytes memory_text kept refl goes
acted_text start stamp bytes (Bytes v) kept request said kind out read step same states goes =
    acted_said start stamp bytes v.items kept request said read (ap out_of step) (states ∙ same) (goes_by start stamp request kept (Says said) step goes)

-- the type of a plain text
abbrev pub plain : List ℕ
plain = codes "text/plain; charset=utf-8"

-- ---- receipts

abbrev pub present_request : ℕ → List Receipt → Request
present_request book receipts = record { book = book; caller = Bearer (Present receipts) }

-- the outcome for receipts, which depends on whether one of them is live
step_unknown : (h : Host) (operator : ℕ) (stamp : Stamp) (book : ℕ) (receipts : List Receipt) → are_unknown (live_pledges h book receipts) ≡ true
    → host_step h operator stamp (present_request book receipts) ≡ Refuses Refusal.NoSuchReceipt
step_unknown h operator stamp book receipts is =
    ap (λ (b : Bool). within_limit h book (if b then Refuses Refusal.NoSuchReceipt else Says (Shown stamp.day (live_pledges h book receipts)))) is

step_known : (h : Host) (operator : ℕ) (stamp : Stamp) (book : ℕ) (receipts : List Receipt) → are_unknown (live_pledges h book receipts) ≡ false
    → host_step h operator stamp (present_request book receipts) ≡ Says (Shown stamp.day (live_pledges h book receipts))
step_known h operator stamp book receipts is =
    ap (λ (b : Bool). within_limit h book (if b then Refuses Refusal.NoSuchReceipt else Says (Shown stamp.day (live_pledges h book receipts)))) is

text_known : (u : Bool) (shown text : List ℕ) → (if u then None else Some shown) ≡ Some text → (u ≡ false) × (text ≡ shown)
text_known true shown text is = cc
text_known false shown text is = (refl, sym (some_same is))

text_unknown : (u : Bool) (shown : List ℕ) → (let none : Option (List ℕ) = None in (if u then None else Some shown) ≡ none) → u ≡ true
text_unknown true shown is = refl
text_unknown false shown is = cc

-- there was nothing to show
pub nothing_shown : (h : Host) (operator : ℕ) (stamp : Stamp) (book day : ℕ) (receipts : List Receipt) → presentation_of h book receipts day ≡ None
    → host_step h operator stamp (present_request book receipts) ≡ Refuses Refusal.NoSuchReceipt
nothing_shown h operator stamp book day receipts is = step_unknown h operator stamp book receipts
    (text_unknown (are_unknown (live_pledges h book receipts)) (presented_text day (live_pledges h book receipts)) is)

-- the answer has the text of the receipts
pub acted_shown : (start : Start) (stamp : Stamp) (bytes : List ℕ) (answer : Answer) (kept : Kept) (book day : ℕ) (receipts : List Receipt) (text out : List ℕ)
    → SaysRequest bytes (Ok (present_request book receipts)) → day ≡ stamp.day → presentation_of start.host book receipts day ≡ Some text → text ≡ out
    → States answer (reply_text 200 plain out) → GoesTo kept start.host start.leaves → IsActed start stamp bytes (answer_bytes answer) kept
acted_shown start stamp bytes answer kept book day receipts text out read day_is is all states goes =
    let shown = live_pledges start.host book receipts in
    let known = text_known (are_unknown shown) (presented_text day shown) text is in
    let step = step_known start.host start.operator stamp book receipts known.0 in
    let same : out ≡ presented_text stamp.day shown = sym all ∙ known.1 ∙ ap (λ (x : ℕ). presented_text x shown) day_is in
    acted_text start stamp bytes answer kept (present_request book receipts) (Shown stamp.day shown) plain out read step
    (ap (reply_text 200 plain) same) states goes

-- ---- what a viewer asks for

abbrev pub view_request : ℕ → ℕ → View → Request
view_request book key view = record { book = book; caller = Viewer key view }

abbrev pub show_request : ℕ → ℕ → ℕ → Request
show_request book key number = view_request book key (View.Pledge number)

-- the outcome of a request with the book's key
pub step_past_gate : (h : Host) (operator : ℕ) (stamp : Stamp) (book key : ℕ) (view : View) (with_key : IsKeyOf h book key)
    → host_step h operator stamp (view_request book key view) ≡ within_limit h book (view_step with_key.0 stamp view)
step_past_gate h operator stamp book key view with_key =
    let at = with_key.0 in
    let same : (at.key == key) ≡ true = grind (arith, nat_tests, with_key.2) in
    ap (λ (o : Option BookValue). within_limit h book (gate_step o key (λ (k : BookValue). view_step k stamp view))) with_key.1
    ∙ ap (λ (v : Bool). within_limit h book (if v then view_step at stamp view else Refuses Refusal.NoSuchBook)) same

-- the same for a pledge
step_key : (h : Host) (operator : ℕ) (stamp : Stamp) (book key number : ℕ) → IsKeyOf h book key
    → host_step h operator stamp (show_request book key number) ≡ within_limit h book (show_pledge stamp (pledge_at h book number))
step_key h operator stamp book key number with_key = step_past_gate h operator stamp book key (View.Pledge number) with_key
    ∙ ap (λ (o : Option BookValue). within_limit h book (show_pledge stamp (pledge_in o number))) (sym with_key.1)

-- there is no such pledge
pub no_pledge : (h : Host) (operator : ℕ) (stamp : Stamp) (book key number day : ℕ) → IsKeyOf h book key → statement_of h book number day ≡ None
    → host_step h operator stamp (show_request book key number) ≡ Refuses Refusal.NoSuchPledge
no_pledge h operator stamp book key number day with_key none = step_key h operator stamp book key number with_key ∙ from (pledge_at h book number) none where
  from : (o : Option PledgeValue) → option_map (statement_text day) o ≡ None → within_limit h book (show_pledge stamp o) ≡ Refuses Refusal.NoSuchPledge
  from None none = refl
  from (Some p) none = cc none

-- the answer has the statement of a pledge
pub acted_statement : (start : Start) (stamp : Stamp) (bytes : List ℕ) (answer : Answer) (kept : Kept) (book key number day : ℕ) (text out : List ℕ)
    → SaysRequest bytes (Ok (show_request book key number)) → IsKeyOf start.host book key → day ≡ stamp.day
    → statement_of start.host book number day ≡ Some text → text ≡ out → States answer (reply_text 200 plain out) → GoesTo kept start.host start.leaves
    → IsActed start stamp bytes (answer_bytes answer) kept
acted_statement start stamp bytes answer kept book key number day text out read with_key day_is is all states goes =
    from (pledge_at start.host book number) refl is where
      from : (o : Option PledgeValue) → pledge_at start.host book number ≡ o → option_map (statement_text day) o ≡ Some text
          → IsActed start stamp bytes (answer_bytes answer) kept
      from None there is = cc is
      from (Some p) there is =
          let said : Out = Shown stamp.day (Some p ∷ []) in
          let step : host_step start.host start.operator stamp (show_request book key number) ≡ Says said =
          step_key start.host start.operator stamp book key number with_key ∙ ap (λ o. within_limit start.host book (show_pledge stamp o)) there in
          let same : out ≡ presented_text stamp.day (Some p ∷ []) =
          sym all ∙ sym (some_same is) ∙ ap (λ (x : ℕ). statement_text x p) day_is ∙ sym (append-nil (statement_text stamp.day p)) in
          acted_text start stamp bytes answer kept (show_request book key number) said plain out read step (ap (reply_text 200 plain) same) states goes

-- the key was that of another book or of none, or the keeper did not answer
pub gate_refused : (h : Host) (operator : ℕ) (stamp : Stamp) (book key : ℕ) (view : View) (why : Refusal) → Gates (get h.books book) key (Err why)
    → IsUnwell why ⊎ (host_step h operator stamp (view_request book key view) ≡ Refuses why)
gate_refused h operator stamp book key view why refused =
    elim (refused (λ (k : BookValue). view_step k stamp view)) [
      | inl unwell ↦ inl unwell
      | inr is ↦ inr (ap (within_limit h book) is)
    ]

-- what was written into an empty buffer
pub all_written : (old new out text : List ℕ) → out ≡ new → new ≡ old ++ text → old ≡ [] → text ≡ out
all_written old new out text same written empty = sym (same ∙ written ∙ ap (λ (x : List ℕ). x ++ text) empty)

-- a request from its parts
pub read_view : (bytes : List ℕ) (request : Request) (key : ℕ) (view : View) → request.caller ≡ Viewer key view
    → SaysRequest bytes (Ok request) → SaysRequest bytes (Ok (view_request request.book key view))
read_view bytes request key view called read =
    subst (λ (caller : Caller). SaysRequest bytes (Ok (record { book = request.book; caller = caller }))) called read

pub read_present : (bytes : List ℕ) (request : Request) (asked : BearerRequest) (receipts : List Receipt) → request.caller ≡ Bearer asked
    → asked ≡ Present receipts → SaysRequest bytes (Ok request) → SaysRequest bytes (Ok (present_request request.book receipts))
read_present bytes request asked receipts called is read =
    subst (λ (caller : Caller). SaysRequest bytes (Ok (record { book = request.book; caller = caller }))) (called ∙ ap Bearer is) read
