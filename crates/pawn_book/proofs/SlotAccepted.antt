-- Each command of a slot's trace is accepted in its turn.
use Rattle.pawn_book.proofs.MadeLemmas.{BookIs, CommandIs, MadeBy, PledgeIs, RowsAre, TermsAre, made_by}
use Rattle.pawn_book.proofs.Places.{pledge_past}
use Rattle.pawn_book.proofs.Plans.{taken_is, without_lists}
use Rattle.pawn_book.proofs.SlotMachine.{does_asked}
use Rattle.pawn_book.proofs.SlotMoments.{run_slot, slot_on, slot_step}
use Rattle.pawn_book.proofs.SlotRuns.{entered_start, event_follows}
use Rattle.pawn_book.specs.BookStep.{BookValue, Makes, Outcome, Refuses, Says, book_head, book_step, changed_book}
use Rattle.pawn_book.specs.BookStep.{pledge_from}
use Rattle.pawn_book.specs.Books.{Caller, Change, Full, ImportBook, PutPledge, Reply}
use Rattle.pawn_book.specs.Changes.{numbered_pledges}
use Rattle.pawn_book.specs.Common.{PledgeValue, Receipt, Stamp, flat_map}
use Rattle.pawn_book.specs.HostStep.{Host, host_step, rows, with_book, within_limit}
use Rattle.pawn_book.specs.Keeping.{pledges_of}
use Rattle.pawn_book.specs.Laws.{command_of}
use Rattle.pawn_book.specs.Machines.{no_pledge, solo_from, solo_step}
use Rattle.pawn_book.specs.Runs.{Event, Mark, host_after_event, no_memory, no_store, read_as, request_in}
use Rattle.pawn_book.specs.Slots.{AreAccepted, IsAccepted, TracesAreAccepted}
use Rattle.pawn_book.specs.Traces.{Did, Entered, SlotEvent, did, enters, is_live_in, slot_events, slot_of, within_slot}
use Rattle.std.proofs.Common.{◌≡◌, ℕ, ◌+◌, List, [], ◌∷◌, ◌++◌, Some, None, Ok, Err, refl, ◌∙◌, ap, sym, subst, arith}
use Rattle.std.proofs.Common.{if◌then◌else◌, Option, ◌==◌, Bool, true, false, is_some, nat_lt}
use Rattle.std.proofs.lemmas.Bool.Decides.{nat_tests}
use Rattle.std.specs.FinMap.{get}

accepted-append : (slot : List Receipt) (m : ℕ → Option PledgeValue) (es fs : List SlotEvent) → AreAccepted slot m es
    → AreAccepted slot (solo_from slot m es) fs → AreAccepted slot m (es ++ fs)
accepted-append slot m [] fs h k = k
accepted-append slot m (Entered n p ∷ es) fs h k = accepted-append slot (solo_step slot (Entered n p) m) es fs h k
accepted-append slot m (Did n stamp command ∷ es) fs h k = (h.0, accepted-append slot (solo_step slot (Did n stamp command) m) es fs h.1 k)

accepted_entering : (slot : List Receipt) (m : ℕ → Option PledgeValue) (n : ℕ) (p : PledgeValue) → AreAccepted slot m (enters slot (n, p))
accepted_entering slot m n p = elim (is_live_in slot n p) as (λ v. AreAccepted slot m (if v then Entered n p ∷ [] else [])) [ true ↦ tt | false ↦ tt ]

accepted_all : (slot : List Receipt) (m : ℕ → Option PledgeValue) (k : ℕ) (ps : List PledgeValue)
    → AreAccepted slot m (flat_map (enters slot) (numbered_pledges k ps))
accepted_all slot m k [] = tt
accepted_all slot m k (p ∷ ps) =
    accepted-append slot m (enters slot (k, p)) (flat_map (enters slot) (numbered_pledges (k + 1) ps)) (accepted_entering slot m k p)
    (accepted_all slot (solo_from slot m (enters slot (k, p))) (k + 1) ps)

accepted_put : (slot : List Receipt) (m : ℕ → Option PledgeValue) (n : ℕ) (p : PledgeValue) (old : Option PledgeValue) (did : List SlotEvent)
    → m n ≡ within_slot slot n old → ((o : PledgeValue) → old ≡ Some o → m n ≡ Some o → AreAccepted slot m did)
    → AreAccepted slot m ((if is_some (within_slot slot n old) then did else enters slot (n, p)) ++ [])
accepted_put slot m n p None did at step = accepted-append slot m (enters slot (n, p)) [] (accepted_entering slot m n p) tt
accepted_put slot m n p (Some o) did at step =
    elim (is_live_in slot n o) as
    (λ v. m n ≡ (if v then Some o else None) → AreAccepted slot m ((if is_some (if v then Some o else None) then did else enters slot (n, p)) ++ [])) [
      | true ↦ λ e. accepted-append slot m did [] (step o refl e) tt
      | false ↦ λ e. accepted-append slot m (enters slot (n, p)) [] (accepted_entering slot m n p) tt
    ] at

abbrev pub Accepts : List Receipt → Option BookValue → Stamp → Caller → Outcome → Type 0
Accepts slot before stamp caller o = AreAccepted slot (slot_of slot before) (slot_events slot before stamp caller o)

accepts_put : (slot : List Receipt) (book : BookValue) (b n : ℕ) (p : PledgeValue) (stamp : Stamp) (caller : Caller) (reply : Reply) (old : Option PledgeValue)
    → pledge_from 1 book.pledges n ≡ old → ((o : PledgeValue) → old ≡ Some o → slot_of slot (Some book) n ≡ Some o
    → AreAccepted slot (slot_of slot (Some book)) (did n stamp (command_of caller))) → Accepts slot (Some book) stamp caller (Makes (PutPledge b n p) reply)
accepts_put slot book b n p stamp caller reply old is step =
    let Q : Option PledgeValue → Type 0 =
    λ x. AreAccepted slot (slot_of slot (Some book)) ((if is_some (within_slot slot n x) then did n stamp (command_of caller) else enters slot (n, p)) ++ []) in
    subst Q (sym is) (accepted_put slot (slot_of slot (Some book)) n p old (did n stamp (command_of caller)) (ap (within_slot slot n) is) step)

made_accepted : (slot : List Receipt) (before : Option BookValue) (operator b : ℕ) (stamp : Stamp) (caller : Caller) (change : Change) (reply : Reply)
    → MadeBy before operator b stamp caller change reply → Accepts slot before stamp caller (Makes change reply)
made_accepted slot before operator b stamp caller change reply (BookIs key new asks passes none makes says) =
    subst (λ (c : Change). Accepts slot before stamp caller (Makes c reply)) (sym makes) tt
made_accepted slot before operator b stamp caller change reply (TermsAre key new book terms asks stands passes absent answer makes says) =
    subst (λ (c : Change). Accepts slot before stamp caller (Makes c reply)) (sym makes) tt
made_accepted slot before operator b stamp caller change reply (PledgeIs key opening book p asks stands passes absent answer makes says) =
    let number = (taken_is (book_head book) opening stamp _ p answer).number in
    subst (λ o. Accepts slot o stamp caller (Makes change reply)) (sym stands)
    (subst (λ (c : Change). Accepts slot (Some book) stamp caller (Makes c reply)) (sym makes) (accepts_put slot book b p.agreement.number p stamp caller reply
    None (pledge_past 1 book.pledges p.agreement.number (omega (arith, number))) (λ o e at. cc e)))
made_accepted slot before operator b stamp caller change reply (RowsAre key import_key rows book asks stands passes unfilled makes says) =
    subst (λ o. Accepts slot o stamp caller (Makes change reply)) (sym stands)
    (subst (λ (c : Change). Accepts slot (Some book) stamp caller (Makes c reply)) (sym makes) (subst (λ (at : BookValue). Accepts slot (Some at) stamp caller
    (Makes (ImportBook b import_key rows) reply)) (sym (without_lists book unfilled.terms unfilled.pledges)) (accepted_all slot no_pledge 1 rows.pledges)))
made_accepted slot before operator b stamp caller change reply (CommandIs book n command stands asks did) =
    subst (λ o. Accepts slot o stamp caller (Makes change reply)) (sym stands) (subst (λ (c : Change). Accepts slot (Some book) stamp caller (Makes c reply))
    (sym did.makes) (accepts_put slot book b n did.next stamp caller reply (Some did.old) did.stands (λ o same in_slot.
    subst (AreAccepted slot (slot_of slot (Some book))) (sym (does_asked caller n stamp command asks))
    (subst (λ x. IsAccepted x stamp command) (sym (in_slot ∙ sym same)) (did.next, did.done, did.step), tt))))

step_accepted : (slot : List Receipt) (before : Option BookValue) (operator b : ℕ) (stamp : Stamp) (caller : Caller)
    → Accepts slot before stamp caller (book_step before operator b stamp caller)
step_accepted slot before operator b stamp caller = from (book_step before operator b stamp caller) refl where
  from : (o : Outcome) → book_step before operator b stamp caller ≡ o → Accepts slot before stamp caller o
  from (Refuses why) is = tt
  from (Says out) is = tt
  from (Makes change reply) is = made_accepted slot before operator b stamp caller change reply (made_by before operator b stamp caller change reply is)

limited_accepted : (slot : List Receipt) (h : Host) (b : ℕ) (stamp : Stamp) (caller : Caller) (o : Outcome) → Accepts slot (get h.books b) stamp caller o
    → Accepts slot (get h.books b) stamp caller (within_limit h b o)
limited_accepted slot h b stamp caller (Refuses why) k = k
limited_accepted slot h b stamp caller (Says out) k = k
limited_accepted slot h b stamp caller (Makes change reply) k =
    elim (nat_lt h.limit (rows (with_book h b (changed_book (get h.books b) change)))) as
    (λ v. Accepts slot (get h.books b) stamp caller (if v then Refuses Full else Makes change reply)) [ true ↦ tt | false ↦ k ]

marked_accepted : {F : Type 0} (b : ℕ) (slot : List Receipt) (h : Host) (operator : ℕ) (stamp : Stamp) (mark : Mark F)
    → AreAccepted slot (slot_of slot (get h.books b)) (slot_on b slot h operator stamp (request_in mark))
marked_accepted b slot h operator stamp (read_as (Ok request)) = from (request.book == b) refl where
  from : (v : Bool) → request.book == b ≡ v → AreAccepted slot (slot_of slot (get h.books b))
      (if v then slot_events slot (get h.books b) stamp request.caller (host_step h operator stamp request) else [])
  from false is = tt
  from true is =
      let same : request.book ≡ b = grind (arith, nat_tests, is) in
      subst (λ (c : ℕ). Accepts slot (get h.books c) stamp request.caller (host_step h operator stamp request)) same
      (limited_accepted slot h request.book stamp request.caller _ (step_accepted slot (get h.books request.book) operator request.book stamp request.caller))
marked_accepted b slot h operator stamp (read_as (Err fault)) = tt
marked_accepted b slot h operator stamp no_memory = tt
marked_accepted b slot h operator stamp no_store = tt

run_accepted : {F : Type 0} (b : ℕ) (slot : List Receipt) (h : Host) (operator : ℕ) (events : List (Event F))
    → AreAccepted slot (slot_of slot (get h.books b)) (run_slot b slot h operator events)
run_accepted b slot h operator [] = tt
run_accepted b slot h operator (event ∷ events) =
    subst (AreAccepted slot (slot_of slot (get h.books b))) (sym (slot_step b slot h operator event events)) (accepted-append slot (slot_of slot
    (get h.books b)) (slot_on b slot h operator event.stamp (request_in event.mark)) (run_slot b slot (host_after_event h operator event) operator events)
    (marked_accepted b slot h operator event.stamp event.mark) (subst (λ m. AreAccepted slot m (run_slot b slot (host_after_event h operator event) operator
    events)) (sym (event_follows b slot h operator event)) (run_accepted b slot (host_after_event h operator event) operator events)))

pub traces_are_accepted : {F : Type 0} → TracesAreAccepted F
traces_are_accepted h operator b slot events =
    accepted-append slot no_pledge (flat_map (enters slot) (numbered_pledges 1 (pledges_of (get h.books b)))) (run_slot b slot h operator events)
    (accepted_all slot no_pledge 1 (pledges_of (get h.books b)))
    (subst (λ m. AreAccepted slot m (run_slot b slot h operator events)) (sym (entered_start slot (get h.books b))) (run_accepted b slot h operator events))
