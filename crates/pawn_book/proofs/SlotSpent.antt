-- A spent receipt (replaced by a declaration, or surrendered) stays spent.
use Rattle.pawn_book.proofs.KeptLemmas.{put_there}
use Rattle.pawn_book.proofs.MadeLemmas.{BookIs, CommandIs, MadeBy, PledgeIs, RowsAre, TermsAre, made_by}
use Rattle.pawn_book.proofs.Places.{pledge_from-put, pledge_within}
use Rattle.pawn_book.proofs.Plans.{taken_is}
use Rattle.pawn_book.proofs.RepeatLemmas.{did_on}
use Rattle.pawn_book.proofs.SlotRuns.{host_get, settled_step}
use Rattle.pawn_book.proofs.Sounds.{absurd_none, some_is}
use Rattle.pawn_book.specs.BookStep.{BookValue, Makes, Outcome, Refuses, Says, Shown, are_unknown, bearer_commands}
use Rattle.pawn_book.specs.BookStep.{bearer_step, book_after, book_head, book_step, changed_book, is_secret, live_at}
use Rattle.pawn_book.specs.BookStep.{only_live, out_of, pledge_from, pledge_in, put_from}
use Rattle.pawn_book.specs.Books.{BearerRequest, Caller, Change, Full, NoSuchReceipt, OnReceipt, Present, Reply}
use Rattle.pawn_book.specs.Common.{Each, IsSpent, PledgeValue, Receipt, Stamp, list_any, live_of}
use Rattle.pawn_book.specs.HostStep.{Host, host_after, host_step, rows, with_book, within_limit}
use Rattle.pawn_book.specs.Runs.{Mark, host_after_event, host_after_mark, is_settled, no_memory, no_store, read_as}
use Rattle.pawn_book.specs.Slots.{EarlierReceiptsAreSpent, IsSpentReceipt, PresentsSpent, SpentIsUnknown}
use Rattle.pawn_book.specs.Slots.{SpentReceiptsStaySpent}
use Rattle.pawn_pledge.proofs.Receipts.{earlier_are_spent, spent-changed}
use Rattle.std.proofs.Common.{◌≡◌, ℕ, ◌+◌, ◌≤◌, List, [], ◌∷◌, length, Some, None, Ok, Err, refl, ◌∙◌, ap, sym, subst}
use Rattle.std.proofs.Common.{arith, if◌then◌else◌, Option, ◌==◌, Bool, true, false, nat_lt, map}
use Rattle.std.proofs.lemmas.Bool.Decides.{nat_tests}
use Rattle.std.specs.FinMap.{get}

-- a pledge is set at k
spent_put : (book : BookValue) (b k : ℕ) (new : PledgeValue) (r : Receipt) → 1 ≤ k → k ≤ 1 + length book.pledges → (r.number ≡ k → IsSpent new r.secret)
    → IsSpentReceipt (Some book) r → IsSpentReceipt (Some (record book { pledges = put_from 1 book.pledges k new })) r
spent_put book b k new r low high now spent = from (r.number == k) refl where
  there : (v : Bool) → (r.number == k) ≡ v
      → pledge_from 1 (put_from 1 book.pledges k new) r.number ≡ (if v then Some new else pledge_from 1 book.pledges r.number)
  there v is = pledge_from-put 1 book.pledges k new r.number low high ∙ ap (λ v. if v then Some new else pledge_from 1 book.pledges r.number) is

  from : (v : Bool) → (r.number == k) ≡ v → IsSpentReceipt (Some (record book { pledges = put_from 1 book.pledges k new })) r
  from true is = record { pledge = new; found = there true is; spent = now (grind (arith, nat_tests, is)) }
  from false is = record { pledge = spent.pledge; found = there false is ∙ spent.found; spent = spent.spent }

spent_made : (before : Option BookValue) (operator b : ℕ) (stamp : Stamp) (caller : Caller) (change : Change) (reply : Reply) (r : Receipt)
    → MadeBy before operator b stamp caller change reply → IsSpentReceipt before r → IsSpentReceipt (changed_book before change) r
spent_made before operator b stamp caller change reply r (BookIs key new asks passes none makes says) spent =
    absurd_none (ap (λ book. pledge_in book r.number) (sym none) ∙ spent.found)
spent_made before operator b stamp caller change reply r (TermsAre key new book terms asks stands passes absent answer makes says) spent =
    let here : IsSpentReceipt (Some book) r = subst (λ o. IsSpentReceipt o r) stands spent in
    subst (λ o. IsSpentReceipt (changed_book o change) r) (sym stands) (subst (λ (c : Change). IsSpentReceipt (changed_book (Some book) c) r) (sym makes)
    (record { pledge = here.pledge; found = here.found; spent = here.spent }))
spent_made before operator b stamp caller change reply r (PledgeIs key opening book p asks stands passes absent answer makes says) spent =
    let number = (taken_is (book_head book) opening stamp _ p answer).number in
    let low : 1 ≤ p.agreement.number = omega (arith, number) in
    let high : p.agreement.number ≤ 1 + length book.pledges = omega (arith, number) in
    let here : IsSpentReceipt (Some book) r = subst (λ o. IsSpentReceipt o r) stands spent in
    let within = pledge_within 1 book.pledges r.number here.pledge here.found in
    subst (λ o. IsSpentReceipt (changed_book o change) r) (sym stands) (subst (λ (c : Change). IsSpentReceipt (changed_book (Some book) c) r) (sym makes)
    (spent_put book b p.agreement.number p r low high (λ same. absurd (omega (arith, within, same, number))) here))
spent_made before operator b stamp caller change reply r (RowsAre key import_key rows book asks stands passes unfilled makes says) spent =
    absurd_none (sym (ap (λ ps. pledge_from 1 ps r.number) unfilled.pledges) ∙ ap (λ o. pledge_in o r.number) (sym stands) ∙ spent.found)
spent_made before operator b stamp caller change reply r (CommandIs book n command stands asks did) spent =
    let within = pledge_within 1 book.pledges n did.old did.stands in
    let high : n ≤ 1 + length book.pledges = omega (arith, within) in
    let here : IsSpentReceipt (Some book) r = subst (λ o. IsSpentReceipt o r) stands spent in
    subst (λ o. IsSpentReceipt (changed_book o change) r) (sym stands)
    (subst (λ (c : Change). IsSpentReceipt (changed_book (Some book) c) r) (sym did.makes) (spent_put book b n did.next r within.0 high (λ same.
    let old : here.pledge ≡ did.old = sym (some_is did.old here.pledge (sym did.stands ∙ ap (pledge_from 1 book.pledges) (sym same) ∙ here.found)) in
    spent-changed did.old did.next stamp command did.done r.secret (subst (λ (p : PledgeValue). IsSpent p r.secret) old here.spent) did.step) here))

spent_limited : (h : Host) (b : ℕ) (o : Outcome) (r : Receipt) → IsSpentReceipt (get h.books b) r → IsSpentReceipt (book_after (get h.books b) o) r
    → IsSpentReceipt (book_after (get h.books b) (within_limit h b o)) r
spent_limited h b (Refuses why) r before after = after
spent_limited h b (Says out) r before after = after
spent_limited h b (Makes change reply) r before after =
    elim (nat_lt h.limit (rows (with_book h b (changed_book (get h.books b) change)))) as
    (λ v. IsSpentReceipt (book_after (get h.books b) (if v then Refuses Full else Makes change reply)) r) [
      | true ↦ before
      | false ↦ after
    ]

spent_step : (before : Option BookValue) (operator b : ℕ) (stamp : Stamp) (caller : Caller) (r : Receipt) → IsSpentReceipt before r
    → IsSpentReceipt (book_after before (book_step before operator b stamp caller)) r
spent_step before operator b stamp caller r spent = from (book_step before operator b stamp caller) refl where
  from : (o : Outcome) → book_step before operator b stamp caller ≡ o → IsSpentReceipt (book_after before o) r
  from (Refuses why) is = spent
  from (Says out) is = spent
  from (Makes change reply) is = spent_made before operator b stamp caller change reply r (made_by before operator b stamp caller change reply is) spent

spent_marked : {F : Type 0} (h : Host) (operator b : ℕ) (stamp : Stamp) (mark : Mark F) (r : Receipt) → IsSpentReceipt (get h.books b) r
    → IsSpentReceipt (get (host_after_mark h operator stamp mark).books b) r
spent_marked h operator b stamp (read_as (Ok request)) r spent = from (request.book == b) refl where
  from : (v : Bool) → (request.book == b) ≡ v → IsSpentReceipt (get (host_after h request.book (host_step h operator stamp request)).books b) r
  from v is =
      subst (λ o. IsSpentReceipt o r) (sym (host_get h request.book b (host_step h operator stamp request)
      ∙ ap (λ v. if v then book_after (get h.books request.book) (host_step h operator stamp request) else get h.books b) is)) (by v is)
    where
      by : (v : Bool) → (request.book == b) ≡ v
          → IsSpentReceipt (if v then book_after (get h.books request.book) (host_step h operator stamp request) else get h.books b) r
      by false is = spent
      by true is =
          let same : request.book ≡ b = grind (arith, nat_tests, is) in
          let here : IsSpentReceipt (get h.books request.book) r = subst (λ (c : ℕ). IsSpentReceipt (get h.books c) r) (sym same) spent in
          spent_limited h request.book _ r here (spent_step (get h.books request.book) operator request.book stamp request.caller r here)
spent_marked h operator b stamp (read_as (Err fault)) r spent = spent
spent_marked h operator b stamp no_memory r spent = spent
spent_marked h operator b stamp no_store r spent = spent

pub spent_receipts_stay : {F : Type 0} → SpentReceiptsStaySpent F
spent_receipts_stay h operator b [] r spent = spent
spent_receipts_stay h operator b (event ∷ events) r spent =
    spent_receipts_stay (host_after_event h operator event) operator b events r (spent_marked h operator b event.stamp event.mark r spent)

pub earlier_receipts_are_spent : EarlierReceiptsAreSpent
earlier_receipts_are_spent h operator stamp request command r p change reply asks replaces stands issued is =
    let steps : book_step (get h.books request.book) operator request.book stamp request.caller ≡ Makes change reply =
    sym (settled_step h operator stamp request (ap (λ o. is_settled (out_of o)) is)) ∙ is in
    subst (λ o. IsSpentReceipt o r) (sym (host_get h request.book request.book (host_step h operator stamp request)
    ∙ ap (λ v. if v then book_after (get h.books request.book) (host_step h operator stamp request) else get h.books request.book) (here request.book)
    ∙ ap (book_after (get h.books request.book)) is)) (from (get h.books request.book) stands steps) where
      here : (n : ℕ) → (n == n) ≡ true
      here n = grind (arith, nat_tests)

      from : (o : Option BookValue) → pledge_in o r.number ≡ Some p → book_step o operator request.book stamp request.caller ≡ Makes change reply
          → IsSpentReceipt (changed_book o change) r
      from None at makes = absurd_none at
      from (Some book) at makes =
          let did = did_on book operator request.book stamp request.caller r.number command change reply asks makes in
          let same : p ≡ did.old = sym (some_is did.old p (sym did.stands ∙ at)) in
          let old : list_any (λ i. i.secret == r.secret) did.old.secrets ≡ true =
          subst (λ (q : PledgeValue). list_any (λ i. i.secret == r.secret) q.secrets ≡ true) same issued in
          subst (λ (c : Change). IsSpentReceipt (changed_book (Some book) c) r) (sym did.makes) (record {
            pledge = did.next;
            found = put_there 1 book.pledges r.number did.old did.next did.stands;
            spent = earlier_are_spent did.old did.next stamp command did.done r.secret replaces did.step old;
          })

-- a secret that is not the live one
not_secret : (s : ℕ) (o : Option ℕ) → (o ≡ Some s → ⊥) → is_secret s o ≡ false
not_secret s None other = refl
not_secret s (Some t) other = let apart : t ≡ s → ⊥ = λ same. other (ap Some same) in grind (arith, nat_tests, apart)

spent_unknown : (book : Option BookValue) (r : Receipt) → IsSpentReceipt book r → live_at (pledge_in book) r ≡ None
spent_unknown book r spent =
    ap (only_live r.secret) spent.found ∙ ap (λ v. if v then Some spent.pledge else None) (not_secret r.secret (live_of spent.pledge) spent.spent.not_live)

all_unknown : (book : Option BookValue) (rs : List Receipt) → Each (IsSpentReceipt book) rs → are_unknown (map (live_at (pledge_in book)) rs) ≡ true
all_unknown book [] each = refl
all_unknown book (r ∷ rs) each = ap (λ o. are_unknown (o ∷ map (live_at (pledge_in book)) rs)) (spent_unknown book r each.0) ∙ all_unknown book rs each.1

spent_alone : (book : Option BookValue) (b : ℕ) (stamp : Stamp) (asked : BearerRequest) → PresentsSpent book asked
    → bearer_step (pledge_in book) b stamp asked ≡ Refuses NoSuchReceipt
spent_alone book b stamp (OnReceipt r command) spent = ap (bearer_commands b r.number stamp command) (spent_unknown book r spent)
spent_alone book b stamp (Present rs) each =
    ap (λ v. if v then Refuses NoSuchReceipt else Says (Shown stamp.day (map (live_at (pledge_in book)) rs))) (all_unknown book rs each)

pub spent_is_unknown : SpentIsUnknown
spent_is_unknown = record { alone = spent_alone; among_others = spent_unknown }
