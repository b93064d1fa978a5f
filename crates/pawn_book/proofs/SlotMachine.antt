-- What one step of a book does to the machine of a slot.
use Rattle.pawn_book.proofs.MadeLemmas.{BookIs, CommandIs, MadeBy, PledgeIs, RowsAre, TermsAre, made_by}
use Rattle.pawn_book.proofs.Places.{pledge_below, pledge_from-put, pledge_past, pledge_within}
use Rattle.pawn_book.proofs.Plans.{taken_is, without_lists}
use Rattle.pawn_book.specs.BookStep.{BookValue, Makes, Outcome, Refuses, Says, book_after, book_head, book_step}
use Rattle.pawn_book.specs.BookStep.{pledge_from}
use Rattle.pawn_book.specs.Books.{Bearer, Broker, Caller, Change, Import, ImportBook, OnPledge, OnReceipt, Operator}
use Rattle.pawn_book.specs.Books.{Present, PutPledge, PutTerms, Reply, TakePledge, Viewer}
use Rattle.pawn_book.specs.Changes.{numbered_pledges}
use Rattle.pawn_book.specs.Common.{Command, PledgeValue, Receipt, Stamp, flat_map}
use Rattle.pawn_book.specs.Laws.{Asks, command_of}
use Rattle.pawn_book.specs.Machines.{after_command, after_step, no_pledge, solo_from, solo_step, with_pledge}
use Rattle.pawn_book.specs.Traces.{Did, Entered, SlotEvent, did, enters, is_live_in, slot_events, slot_of, touches}
use Rattle.pawn_book.specs.Traces.{within_slot}
use Rattle.std.proofs.Common.{◌≡◌, ℕ, ◌+◌, ◌<◌, ◌≤◌, List, [], ◌∷◌, ◌++◌, length, Some, None, refl, ◌∙◌, ap, sym, subst}
use Rattle.std.proofs.Common.{arith, if◌then◌else◌, Option, ◌==◌, true, false, is_some, nat_lt}
use Rattle.std.proofs.lemmas.Bool.Decides.{nat_tests}

pub solo_from-append : (slot : List Receipt) (m : ℕ → Option PledgeValue) (es fs : List SlotEvent)
    → solo_from slot m (es ++ fs) ≡ solo_from slot (solo_from slot m es) fs
solo_from-append slot m [] fs = refl
solo_from-append slot m (e ∷ es) fs = solo_from-append slot (solo_step slot e m) es fs

-- a pledge enters or not: the machine has it exactly if it is in the slot
pub enter_one : (slot : List Receipt) (m : ℕ → Option PledgeValue) (n : ℕ) (p : PledgeValue) (q : ℕ) → m n ≡ None
    → solo_from slot m (enters slot (n, p)) q ≡ (if q == n then within_slot slot n (Some p) else m q)
enter_one slot m n p q none =
    elim (is_live_in slot n p) as
    (λ v. is_live_in slot n p ≡ v → solo_from slot m (if v then Entered n p ∷ [] else []) q ≡ (if q == n then (if v then Some p else None) else m q)) [
      | true ↦ λ e. rw e refl
      | false ↦ λ e. grind (arith, nat_tests, none)
    ] refl

-- a pledge is set at n, with or without an earlier one there: the machine changes accordingly
pub put_one : (slot : List Receipt) (m : ℕ → Option PledgeValue) (n : ℕ) (p : PledgeValue) (old : Option PledgeValue) (did : List SlotEvent) (q : ℕ)
    → m n ≡ within_slot slot n old → ((o : PledgeValue) → old ≡ Some o → m n ≡ Some o → solo_from slot m did ≡ with_pledge slot n p m)
    → solo_from slot m (if is_some (within_slot slot n old) then did else enters slot (n, p)) q ≡ (if q == n then within_slot slot n (Some p) else m q)
put_one slot m n p None did q at step = enter_one slot m n p q at
put_one slot m n p (Some o) did q at step =
    elim (is_live_in slot n o) as (λ v. m n ≡ (if v then Some o else None)
    → solo_from slot m (if is_some (if v then Some o else None) then did else enters slot (n, p)) q ≡ (if q == n then within_slot slot n (Some p) else m q)) [
      | true ↦ λ e. ap (λ f. f q) (step o refl e)
      | false ↦ λ e. enter_one slot m n p q e
    ] at

-- a whole list enters, none of which was there before
enter_all : (slot : List Receipt) (k : ℕ) (ps : List PledgeValue) (m : ℕ → Option PledgeValue) (q : ℕ) → ((n : ℕ) → k ≤ n → m n ≡ None)
    → solo_from slot m (flat_map (enters slot) (numbered_pledges k ps)) q ≡ (if nat_lt q k then m q else within_slot slot q (pledge_from k ps q))
enter_all slot k [] m q none = grind (arith, nat_tests, none q)
enter_all slot k (p ∷ ps) m q none =
    let first : (n : ℕ)
    → solo_from slot m (enters slot (k, p)) n ≡ (if n == k then within_slot slot k (Some p) else m n) = λ n. enter_one slot m k p n (none k (omega arith)) in
    let later : (n : ℕ) → k + 1 ≤ n
    → solo_from slot m (enters slot (k, p)) n ≡ None = λ n le. let less : k ≤ n = omega arith in grind (arith, nat_tests, first n, none n less) in
    ap (λ f. f q) (solo_from-append slot m (enters slot (k, p)) (flat_map (enters slot) (numbered_pledges (k + 1) ps)))
    ∙ enter_all slot (k + 1) ps (solo_from slot m (enters slot (k, p))) q later
    ∙ enter_end (solo_from slot m (enters slot (k, p)) q) (first q) where
      enter_end : (o : Option PledgeValue) → o ≡ (if q == k then within_slot slot k (Some p) else m q) → (if nat_lt q (k + 1) then o else within_slot slot q
          (pledge_from (k + 1) ps q)) ≡ (if nat_lt q k then m q else within_slot slot q (if q == k then Some p else pledge_from (k + 1) ps q))
      enter_end o e = grind (arith, nat_tests, e)

-- from an empty machine
pub enter_book : (slot : List Receipt) (ps : List PledgeValue) (m : ℕ → Option PledgeValue) (q : ℕ) → ((n : ℕ) → m n ≡ None)
    → solo_from slot m (flat_map (enters slot) (numbered_pledges 1 ps)) q ≡ within_slot slot q (pledge_from 1 ps q)
enter_book slot ps m q none = enter_all slot 1 ps m q (λ n le. none n) ∙ first where
  first : (if nat_lt q 1 then m q else within_slot slot q (pledge_from 1 ps q)) ≡ within_slot slot q (pledge_from 1 ps q)
  first = let below : q < 1 → pledge_from 1 ps q ≡ None = pledge_below 1 ps q in grind (arith, nat_tests, none q)

-- after the events of an outcome the machine has what is in the slot after the outcome
abbrev pub Follows : List Receipt → Option BookValue → Stamp → Caller → Outcome → Type 0
Follows slot before stamp caller o = (q : ℕ)
    → solo_from slot (slot_of slot before) (slot_events slot before stamp caller o) q ≡ slot_of slot (book_after before o) q

within_put : (slot : List Receipt) (n q : ℕ) (p : PledgeValue) (o : Option PledgeValue)
    → (if q == n then within_slot slot n (Some p) else within_slot slot q o) ≡ within_slot slot q (if q == n then Some p else o)
within_put slot n q p o = grind (arith, nat_tests)

put_follows : (slot : List Receipt) (book : BookValue) (b n : ℕ) (p : PledgeValue) (stamp : Stamp) (caller : Caller) (reply : Reply) (old : Option PledgeValue)
    → pledge_from 1 book.pledges n ≡ old → 1 ≤ n → n ≤ 1 + length book.pledges → ((o : PledgeValue) → old ≡ Some o → slot_of slot (Some book) n ≡ Some o
    → solo_from slot (slot_of slot (Some book)) (did n stamp (command_of caller)) ≡ with_pledge slot n p (slot_of slot (Some book)))
    → Follows slot (Some book) stamp caller (Makes (PutPledge b n p) reply)
put_follows slot book b n p stamp caller reply old is low high step q =
    ap (λ f. f q) (solo_from-append slot (slot_of slot (Some book)) (touches slot (Some book) stamp caller (n, p)) [])
    ∙ ap (λ o. solo_from slot (slot_of slot (Some book)) (if is_some (within_slot slot n o) then did n stamp (command_of caller) else enters slot (n, p)) q) is
    ∙ put_one slot (slot_of slot (Some book)) n p old (did n stamp (command_of caller)) q (ap (within_slot slot n) is) step
    ∙ within_put slot n q p (pledge_from 1 book.pledges q) ∙ ap (within_slot slot q) (sym (pledge_from-put 1 book.pledges n p q low high))

-- the command that a caller asks for is the one that is done
pub does_asked : (caller : Caller) (n : ℕ) (stamp : Stamp) (command : Command) → Asks caller n command
    → did n stamp (command_of caller) ≡ Did n stamp command ∷ []
does_asked (Operator key new) n stamp command asks = absurd asks
does_asked (Broker key (PutTerms new)) n stamp command asks = absurd asks
does_asked (Broker key (TakePledge opening)) n stamp command asks = absurd asks
does_asked (Broker key (OnPledge m own)) n stamp command asks = ap (λ (c : Command). Did n stamp c ∷ []) asks.1
does_asked (Broker key (Import import_key rows)) n stamp command asks = absurd asks
does_asked (Viewer key view) n stamp command asks = absurd asks
does_asked (Bearer (Present receipts)) n stamp command asks = absurd asks
does_asked (Bearer (OnReceipt r own)) n stamp command asks = ap (λ (c : Command). Did n stamp c ∷ []) asks.1

-- a change, by the kind of request that made it
made_follows : (slot : List Receipt) (before : Option BookValue) (operator b : ℕ) (stamp : Stamp) (caller : Caller) (change : Change) (reply : Reply)
    → MadeBy before operator b stamp caller change reply → Follows slot before stamp caller (Makes change reply)
made_follows slot before operator b stamp caller change reply (BookIs key new asks passes none makes says) =
    subst (λ o. Follows slot o stamp caller (Makes change reply)) (sym none)
    (subst (λ (c : Change). Follows slot None stamp caller (Makes c reply)) (sym makes) (λ q. refl))
made_follows slot before operator b stamp caller change reply (TermsAre key new book terms asks stands passes absent answer makes says) =
    subst (λ o. Follows slot o stamp caller (Makes change reply)) (sym stands)
    (subst (λ (c : Change). Follows slot (Some book) stamp caller (Makes c reply)) (sym makes) (λ q. refl))
made_follows slot before operator b stamp caller change reply (PledgeIs key opening book p asks stands passes absent answer makes says) =
    let number = (taken_is (book_head book) opening stamp _ p answer).number in
    let low : 1 ≤ p.agreement.number = omega (arith, number) in
    let high : p.agreement.number ≤ 1 + length book.pledges = omega (arith, number) in
    subst (λ o. Follows slot o stamp caller (Makes change reply)) (sym stands)
    (subst (λ (c : Change). Follows slot (Some book) stamp caller (Makes c reply)) (sym makes) (put_follows slot book b p.agreement.number p stamp caller reply
    None (pledge_past 1 book.pledges p.agreement.number (omega (arith, number))) low high (λ o e at. cc e)))
made_follows slot before operator b stamp caller change reply (RowsAre key import_key rows book asks stands passes unfilled makes says) =
    subst (λ o. Follows slot o stamp caller (Makes change reply)) (sym stands) (subst (λ (c : Change). Follows slot (Some book) stamp caller (Makes c reply))
    (sym makes) (subst (λ (at : BookValue). Follows slot (Some at) stamp caller (Makes (ImportBook b import_key rows) reply))
    (sym (without_lists book unfilled.terms unfilled.pledges)) (λ q. enter_book slot rows.pledges no_pledge q (λ n. refl))))
made_follows slot before operator b stamp caller change reply (CommandIs book n command stands asks did) =
    let within = pledge_within 1 book.pledges n did.old did.stands in
    let high : n ≤ 1 + length book.pledges = omega (arith, within) in
    subst (λ o. Follows slot o stamp caller (Makes change reply)) (sym stands) (subst (λ (c : Change). Follows slot (Some book) stamp caller (Makes c reply))
    (sym did.makes) (put_follows slot book b n did.next stamp caller reply (Some did.old) did.stands within.0 high (λ o same in_slot.
    ap (solo_from slot (slot_of slot (Some book))) (does_asked caller n stamp command asks) ∙ ap (λ x. after_command slot n stamp command x
    (slot_of slot (Some book))) (in_slot ∙ sym same) ∙ ap (λ j. after_step slot n j (slot_of slot (Some book))) did.step)))

-- one step of a book
pub step_follows : (slot : List Receipt) (before : Option BookValue) (operator b : ℕ) (stamp : Stamp) (caller : Caller)
    → Follows slot before stamp caller (book_step before operator b stamp caller)
step_follows slot before operator b stamp caller = from (book_step before operator b stamp caller) refl where
  from : (o : Outcome) → book_step before operator b stamp caller ≡ o → Follows slot before stamp caller o
  from (Refuses why) is = λ q. refl
  from (Says out) is = λ q. refl
  from (Makes change reply) is = made_follows slot before operator b stamp caller change reply (made_by before operator b stamp caller change reply is)
