-- A run goes on by one item.
use Rattle.pawn_host.proofs.CrashLemmas.{goes-append}
use Rattle.pawn_host.proofs.SessionLemmas.{map-snoc, marked_since}
use Rattle.pawn_host.specs.Common.{Host, Stamp, event_reply, host_after_event}
use Rattle.pawn_host.specs.Keeps.{IsActed, IsRun, Kept, Start, answer_bytes, replies_by, start_after}
use Rattle.pawn_host.specs.Run.{IsMarked, Item, event_of, host_after_run, input_of, replies, said_text}
use Rattle.pawn_host.specs.declared.service.Answer.{Answer}
use Rattle.std.proofs.Common.{◌≡◌, ℕ, ◌+◌, ◌<◌, List, [], ◌∷◌, ◌++◌, length, map, take, get_or, refl, ap, sym, ◌∙◌}
use Rattle.std.proofs.Common.{subst, Vec, Global, All}
use Rattle.std.proofs.lemmas.List.{map_more}
use Rattle.std.proofs.lemmas.List.Elements.{All-append, All-cons, All-head, All-nil, All-tail}

-- one run after another
pub replies-append : (h : Host) (operator : ℕ) (a b : List Item)
    → replies h operator (a ++ b) ≡ replies h operator a ++ replies (host_after_run h operator a) operator b
replies-append h operator [] b = refl
replies-append h operator (x ∷ a) b =
    ap (λ (l : List (List ℕ)). said_text (event_reply h operator (event_of x)) ∷ l) (replies-append (host_after_event h operator (event_of x)) operator a b)

-- marks that are right for a keeper are right for the same keeper at an earlier time, because a steady keeper stays steady
pub marked_all : (Now Before : Type 0) (items : List Item) → (Before → Now) → All (IsMarked Now) items → All (IsMarked Before) items
marked_all Now Before [] stays marked = All-nil (IsMarked Before)
marked_all Now Before (i ∷ items) stays marked =
    All-cons (IsMarked Before) i items (marked_since Now Before i.bytes i.mark stays (All-head (IsMarked Now) i items marked))
    (marked_all Now Before items stays (All-tail (IsMarked Now) i items marked))

run_more : (start : Start) (given : List (Stamp × List ℕ)) (answers : List (List ℕ)) (kept kept' : Kept) (stamp : Stamp) (bytes reply : List ℕ)
    → (r : IsRun start given answers kept) → IsActed (start_after start r.items) stamp bytes reply kept'
    → IsRun start (given ++ (stamp, bytes) ∷ []) (answers ++ reply ∷ []) kept'
run_more start given answers kept kept' stamp bytes reply r a =
    let item : Item = record { stamp = stamp; bytes = bytes; mark = a.mark } in
    record {
      items = r.items ++ item ∷ [];
      marked =
          All-append (IsMarked start.Steady) r.items (item ∷ []) r.marked (All-cons (IsMarked start.Steady) item [] a.marked (All-nil (IsMarked start.Steady)));
      given_is = map-snoc input_of r.items item ∙ ap (λ (l : List (Stamp × List ℕ)). l ++ (stamp, bytes) ∷ []) r.given_is;
      answers_are = ap (λ (l : List (List ℕ)). l ++ reply ∷ []) r.answers_are ∙ ap (λ (t : List ℕ). replies_by start r.items ++ t ∷ []) a.text
          ∙ sym (replies-append start.host start.operator r.items (item ∷ []));
      goes = goes-append start kept' r.items (item ∷ []) a.goes;
    }

-- one iteration of the loop over the items
pub run_turn : (start : Start) (kept kept' : Kept) (i : ℕ) (items : List (Stamp × Vec ℕ Global)) (item : Stamp × Vec ℕ Global) (answers answers' : List Answer)
    (answer : Answer) → i < length items → item ≡ get_or items i item → answers' ≡ answers ++ answer ∷ []
    → (r : IsRun start (map (λ p. (p.0, p.1.items)) (take i items)) (map answer_bytes answers) kept) → IsActed (start_after start r.items) item.0 item.1.items
    (answer_bytes answer) kept' → IsRun start (map (λ p. (p.0, p.1.items)) (take (i + 1) items)) (map answer_bytes answers') kept'
run_turn start kept kept' i items item answers answers' answer lt is grown r a =
    let F : Stamp × Vec ℕ Global → Stamp × List ℕ = λ p. (p.0, p.1.items) in
    let more = run_more start (map F (take i items)) (map answer_bytes answers) kept kept' item.0 item.1.items (answer_bytes answer) r a in
    let given : map F (take i items) ++ (item.0, item.1.items) ∷ [] ≡ map F (take (i + 1) items) =
    ap (λ (p : Stamp × Vec ℕ Global). map F (take i items) ++ F p ∷ []) is ∙ sym (map_more F items i item lt) in
    let told : map answer_bytes answers ++ answer_bytes answer ∷ [] ≡ map answer_bytes answers' = sym (map-snoc answer_bytes answers answer)
    ∙ ap (map answer_bytes) (sym grown) in
    subst (λ (t : List (List ℕ)). IsRun start (map F (take (i + 1) items)) t kept') told
    (subst (λ (l : List (Stamp × List ℕ)). IsRun start l (map answer_bytes answers ++ answer_bytes answer ∷ []) kept') given more)
