-- Each answer of a run is the answer of a machine that gets nothing but the requests of its slot.
use Rattle.pawn_book.proofs.SlotRuns.{books_answer_alone, slots_answer_alone}
use Rattle.pawn_book.proofs.Sounds.{absurd_none, some_is}
use Rattle.pawn_host.proofs.RunMore.{marked_all}
use Rattle.pawn_host.specs.Common.{Denied, Exported, Host, Listed, Mark, Out, Refusal, Request, SaysRequest, Shown}
use Rattle.pawn_host.specs.Common.{Stamp, Replied, WireFault, book_trace, get, host_after_event, host_step, is_settled}
use Rattle.pawn_host.specs.Common.{mark_reply, no_memory, no_store, out_of, read_as, reply_alone, slot_trace}
use Rattle.pawn_host.specs.Common.{solo_reply}
use Rattle.pawn_host.specs.Headline.{AnswerAlone, IsRunOfSlots, IsSettled, by_bearer, reply_bytes}
use Rattle.pawn_host.specs.Keeps.{IsRun, Kept, Start}
use Rattle.pawn_host.specs.Laws.{EqualBookTracesReplyAlike, EqualTracesReplyAlike, RunsAnswerAlone}
use Rattle.pawn_host.specs.Run.{IsMarkOf, IsMarked, Item, event_of, events, host_after_run, replies, said_text}
use Rattle.pawn_wire.proofs.RequestLemmas.{reads_unique}
use Rattle.std.proofs.Common.{◌≡◌, ℕ, zero, suc, List, [], ◌∷◌, take, true, Some, Ok, refl, ◌∙◌, ap, sym, subst, All}
use Rattle.std.proofs.Common.{Result, slice_get}
use Rattle.std.proofs.lemmas.List.Elements.{All-head, All-tail}

-- the answer at a place is the reply to the item at that place
answer_at : (h : Host) (operator : ℕ) (items : List Item) (i : ℕ) (item : Item) (answer : List ℕ) → slice_get items i ≡ Some item
    → slice_get (replies h operator items) i ≡ Some answer
    → answer ≡ said_text (mark_reply (host_after_run h operator (take i items)) operator item.stamp item.mark)
answer_at h operator [] i item answer is told = absurd_none is
answer_at h operator (x ∷ items) zero item answer is told =
    sym (some_is _ answer told) ∙ ap (λ (y : Item). said_text (mark_reply h operator y.stamp y.mark)) (some_is x item is)
answer_at h operator (x ∷ items) (suc i) item answer is told = answer_at (host_after_event h operator (event_of x)) operator items i item answer is told

-- the item at that place has its mark
marked_at : (Steady : Type 0) (items : List Item) (i : ℕ) (item : Item) → All (IsMarked Steady) items → slice_get items i ≡ Some item → IsMarked Steady item
marked_at Steady [] i item marked is = absurd_none is
marked_at Steady (x ∷ items) zero item marked is = subst (IsMarked Steady) (some_is x item is) (All-head (IsMarked Steady) x items marked)
marked_at Steady (x ∷ items) (suc i) item marked is = marked_at Steady items i item (All-tail (IsMarked Steady) x items marked) is

-- an answer that is none of the three texts is settled
settled_refusal : (why : Refusal) → IsSettled (reply_bytes (Denied why)) → is_settled (Denied why) ≡ true
settled_refusal Refusal.Full settled = absurd (settled.0 refl)
settled_refusal Refusal.Memory settled = absurd (settled.1 refl)
settled_refusal Refusal.Store settled = absurd (settled.2 refl)
settled_refusal why settled = refl

settled_out : (out : Out) → IsSettled (reply_bytes out) → is_settled out ≡ true
settled_out (Replied reply) settled = refl
settled_out (Denied why) settled = settled_refusal why settled
settled_out (Shown day pledges) settled = refl
settled_out (Listed day capacity items) settled = refl
settled_out (Exported rows) settled = refl

-- bytes that are a request were read as that request
request_read : (bytes : List ℕ) (request : Request) (said : Result Request WireFault) → SaysRequest bytes (Ok request) → SaysRequest bytes said
    → said ≡ Ok request
request_read bytes request said asked read = reads_unique bytes said (Ok request) read asked

-- a settled answer is the host's reply to the request, and that reply is settled
pub record IsHostsReply (h : Host) (operator : ℕ) (stamp : Stamp) (request : Request) (answer : List ℕ) : Type 0 where
  pub text : answer ≡ reply_bytes (out_of (host_step h operator stamp request))
  pub settled : is_settled (out_of (host_step h operator stamp request)) ≡ true

hosts_reply : (Steady : Type 0) (h : Host) (operator : ℕ) (stamp : Stamp) (bytes : List ℕ) (mark : Mark WireFault) (request : Request) (answer : List ℕ)
    → IsMarkOf Steady bytes mark → answer ≡ said_text (mark_reply h operator stamp mark) → SaysRequest bytes (Ok request) → IsSettled answer
    → IsHostsReply h operator stamp request answer
hosts_reply Steady h operator stamp bytes (read_as said) request answer marked told asked settled =
    let text : answer ≡ reply_bytes (out_of (host_step h operator stamp request)) =
    told ∙ ap (λ (r : Result Request WireFault). said_text (mark_reply h operator stamp (read_as r))) (request_read bytes request said asked marked.0) in
    record { text = text; settled = settled_out (out_of (host_step h operator stamp request)) (subst IsSettled text settled) }
hosts_reply Steady h operator stamp bytes no_memory request answer marked told asked settled = absurd (settled.1 told)
hosts_reply Steady h operator stamp bytes no_store request answer marked told asked settled = absurd (settled.2 told)

reply_at : (h : Host) (operator : ℕ) (items : List Item) (i : ℕ) (item : Item) (request : Request) (answer : List ℕ) → All (IsMarked ⊥) items
    → slice_get items i ≡ Some item → slice_get (replies h operator items) i ≡ Some answer
    → SaysRequest item.bytes (Ok request) → IsSettled answer → IsHostsReply (host_after_run h operator (take i items)) operator item.stamp request answer
reply_at h operator items i item request answer marked is told asked settled =
    hosts_reply ⊥ (host_after_run h operator (take i items)) operator item.stamp item.bytes item.mark request answer
    (marked_at ⊥ items i item marked is) (answer_at h operator items i item answer is told) asked settled

pub runs_answer_alone : RunsAnswerAlone
runs_answer_alone h operator items marked = record {
  books = λ i item answer is told request asked settled.
      let reply = reply_at h operator items i item request answer marked is told asked settled in
      reply.text ∙ ap reply_bytes (books_answer_alone h operator (events (take i items)) item.stamp request reply.settled);
  slots = λ i item answer is told b slot asked read mine settled.
      let reply = reply_at h operator items i item (by_bearer b asked) answer marked is told read settled in
      reply.text ∙ ap reply_bytes (slots_answer_alone h operator b slot (events (take i items)) item.stamp asked mine reply.settled);
}

pub equal_traces_answer_alike : EqualTracesReplyAlike
equal_traces_answer_alike h g operator items others marked also i j item twin answer other is told twin_is twin_told b slot asked read twin_read stamps mine
    settled twin_settled same =
    (runs_answer_alone h operator items marked).slots i item answer is told b slot asked read mine settled ∙ ap (λ trace. reply_bytes (solo_reply slot trace b
    item.stamp asked)) same ∙ ap (λ (stamp : Stamp). reply_bytes (solo_reply slot (slot_trace b slot g operator (events (take j others))) b stamp asked)) stamps
    ∙ sym ((runs_answer_alone g operator others also).slots j twin other twin_is twin_told b slot asked twin_read mine twin_settled)

pub equal_book_traces_answer_alike : EqualBookTracesReplyAlike
equal_book_traces_answer_alike h g operator items others marked also i j item twin answer other is told twin_is twin_told request read twin_read stamps settled
    twin_settled start same =
    (runs_answer_alone h operator items marked).books i item answer is told request read settled ∙ ap (λ book. reply_bytes
    (reply_alone book operator request.book (book_trace request.book h operator (events (take i items))) item.stamp request.caller)) start ∙ ap (λ trace.
    reply_bytes (reply_alone (get g.books request.book) operator request.book trace item.stamp request.caller)) same ∙ ap (λ (stamp : Stamp). reply_bytes
    (reply_alone (get g.books request.book) operator request.book (book_trace request.book g operator (events (take j others))) stamp request.caller)) stamps
    ∙ sym ((runs_answer_alone g operator others also).books j twin other twin_is twin_told request twin_read twin_settled)

pub run_of_slots : (start : Start) (given : List (Stamp × List ℕ)) (answers : List (List ℕ)) (kept : Kept) → IsRun start given answers kept
    → IsRunOfSlots start given answers kept
run_of_slots start given answers kept run =
    let marked : All (IsMarked ⊥) run.items = marked_all start.Steady ⊥ run.items (λ (never : ⊥). absurd never) run.marked in
    record {
      run = run;
      alone = subst (AnswerAlone start.host start.operator run.items) (sym run.answers_are) (runs_answer_alone start.host start.operator run.items marked);
    }
