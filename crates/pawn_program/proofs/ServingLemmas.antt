-- One connection more.
use Rattle.pawn_book.specs.HostStep.{Host}
use Rattle.pawn_host.proofs.CrashLemmas.{goes-append, goes_from}
use Rattle.pawn_host.proofs.RunMore.{marked_all}
use Rattle.pawn_host.specs.Crashes.{IsLeftByRun}
use Rattle.pawn_host.specs.Keeps.{Start, Kept, GoesTo, GoesBy, host_by, start_after}
use Rattle.pawn_host.specs.Run.{Item, IsMarked, host_after_run}
use Rattle.pawn_host.specs.Session.{Given, stamps_of, IsLeftBy, acted_count}
use Rattle.pawn_host.specs.Split.{most_requests}
use Rattle.pawn_host.specs.declared.session.Ended.{Ended}
use Rattle.pawn_host.specs.declared.session.IoFault.{IoFault}
use Rattle.pawn_host.specs.declared.session.SessionEnd.{SessionEnd}
use Rattle.pawn_host.specs.declared.session.SessionEnd.TheVariants.{End, Cut, Closed, Faulted, Limit, NoStamp, Memory}
use Rattle.pawn_pledge.specs.declared.command.Stamp.{Stamp}
use Rattle.pawn_program.specs.Serving.{GivesInOrder, stamps_among, items_of, IsSession, AreServed}
use Rattle.std.proofs.Common.{◌≡◌, ℕ, ◌+◌, ◌≤◌, List, [], ◌∷◌, ◌++◌, length, map, refl, arith, Option, Some, None}
use Rattle.std.proofs.Common.{Result, Ok, Err, sym, ◌∙◌, ap, subst, append-nil, append_assoc, length-append, All}
use Rattle.std.proofs.lemmas.List.Elements.{All-append, All-cons, All-nil}
use Rattle.std.specs.Iterator.{Yields}
use Rattle.pawn_host.specs.Session as session

-- ---- what an iterator gave

gives_then : {S A : Type 0} (steps : S → Option A → S → Type 0) (from mid to : S) (one two : List (Option A)) → GivesInOrder steps from one mid
    → GivesInOrder steps mid two to → GivesInOrder steps from (one ++ two) to
gives_then steps from mid to [] two first then = subst (λ (s : _). GivesInOrder steps s two to) (sym first) then
gives_then steps from mid to (a ∷ one) two first then = (first.0, first.1, gives_then steps first.0 mid to one two first.2 then)

gives_all : {S A : Type 0} (steps : S → Option A → S → Type 0) (from to : S) (xs : List A) → Yields steps from xs to
    → GivesInOrder steps from (map (λ x. Some x) xs) to
gives_all steps from to [] yields = yields
gives_all steps from to (x ∷ xs) yields = (yields.0, yields.1, gives_all steps yields.0 to xs yields.2)

among_all : (xs : List Stamp) → stamps_among (map (λ x. Some x) xs) ≡ xs
among_all [] = refl
among_all (x ∷ xs) = ap (λ (l : List Stamp). x ∷ l) (among_all xs)

among_then : (one two : List (Option Stamp)) → stamps_among (one ++ two) ≡ stamps_among one ++ stamps_among two
among_then [] two = refl
among_then (None ∷ one) two = among_then one two
among_then (Some x ∷ one) two = ap (λ (l : List Stamp). x ∷ l) (among_then one two)

-- ---- the items of one session more

items_of-append : (one two : List (List Item)) → items_of (one ++ two) ≡ items_of one ++ items_of two
items_of-append [] two = refl
items_of-append (s ∷ one) two = ap (λ (l : List Item). s ++ l) (items_of-append one two) ∙ sym (append_assoc s (items_of one) (items_of two))

items_of-snoc : (sessions : List (List Item)) (items : List Item) → items_of (sessions ++ items ∷ []) ≡ items_of sessions ++ items
items_of-snoc [] items = append-nil items
items_of-snoc (s ∷ sessions) items = ap (λ (l : List Item). s ++ l) (items_of-snoc sessions items) ∙ sym (append_assoc s (items_of sessions) items)

stamps_of-append : (one two : List Item) → stamps_of (one ++ two) ≡ stamps_of one ++ stamps_of two
stamps_of-append [] two = refl
stamps_of-append (i ∷ one) two = ap (λ (l : List Stamp). i.stamp ∷ l) (stamps_of-append one two)

-- what a session did to the stamps and to the keeper
record Sat {S : Type 0} (steps : S → Option Stamp → S → Type 0) (from to : S) (start : Start) (acted : ℕ) (kept : Kept) : Type 0 where
  pub items : List Item
  pub count : length items ≡ acted
  pub marked : All (IsMarked start.Steady) items
  pub given : List (Option Stamp)
  pub gives : GivesInOrder steps from given to
  pub taken : stamps_among given ≡ stamps_of items
  pub goes : GoesBy start items kept

none_more : {S : Type 0} (steps : S → Option Stamp → S → Type 0) (from to last : S) (items : List Item) → Yields steps from (stamps_of items) to → to ≡ last
    → (given : List (Option Stamp)) × GivesInOrder steps from given last × (stamps_among given ≡ stamps_of items)
none_more steps from to last items taken same = (
  map (λ x. Some x) (stamps_of items),
  gives_all steps from last (stamps_of items) (subst (λ (s : _). Yields steps from (stamps_of items) s) same taken),
  among_all (stamps_of items),
)

dry : {S : Type 0} (steps : S → Option Stamp → S → Type 0) (from to last : S) (items : List Item) → Yields steps from (stamps_of items) to → steps to None last
    → (given : List (Option Stamp)) × GivesInOrder steps from given last × (stamps_among given ≡ stamps_of items)
dry steps from to last items taken none =
    let all : List (Option Stamp) = map (λ x. Some x) (stamps_of items) in
    let among : stamps_among (all ++ None ∷ []) ≡ stamps_of items = among_then all (None ∷ []) ∙ append-nil (stamps_among all) ∙ among_all (stamps_of items) in
    (all ++ None ∷ [], gives_then steps from to last all (None ∷ []) (gives_all steps from to (stamps_of items) taken) (last, none, refl), among)

given_by : {S : Type 0} (steps : S → Option Stamp → S → Type 0) (from to last : S) (items : List Item) (how : SessionEnd)
    → Yields steps from (stamps_of items) to → IsLeftBy steps how to last
    → (given : List (Option Stamp)) × GivesInOrder steps from given last × (stamps_among given ≡ stamps_of items)
given_by steps from to last items End taken left = none_more steps from to last items taken left
given_by steps from to last items Cut taken left = none_more steps from to last items taken left
given_by steps from to last items Closed taken left = none_more steps from to last items taken left
given_by steps from to last items Limit taken left = none_more steps from to last items taken left
given_by steps from to last items Faulted taken left = none_more steps from to last items taken left
given_by steps from to last items Memory taken left = none_more steps from to last items taken left
given_by steps from to last items NoStamp taken left = dry steps from to last items taken left

sat : {S : Type 0} (steps : S → Option Stamp → S → Type 0) (given : Given S) (stamps : S) (written : Option (List ℕ)) (result : Result Ended IoFault)
    (kept : Kept) → session.IsSession steps given stamps written result kept → Sat steps given.stamps stamps given.start (acted_count result) kept
sat steps given stamps written (Ok ended) kept s =
    let answers = given_by steps given.stamps s.to stamps s.items ended.how s.served.taken s.left in
    record { items = s.items; count = s.count; marked = s.served.marked; given = answers.0; gives = answers.1; taken = answers.2; goes = s.served.goes }
sat steps given stamps written (Err fault) kept s =
    let answers = none_more steps given.stamps stamps stamps s.items s.served.taken refl in
    record { items = s.items; count = s.count; marked = s.served.marked; given = answers.0; gives = answers.1; taken = answers.2; goes = s.served.goes }

-- ---- connections in turn

pub served_none : {S : Type 0} {steps : S → Option Stamp → S → Type 0} {from : S} {start : Start} {kept : Kept} → GoesTo kept start.host start.leaves
    → AreServed steps from from start 0 kept
served_none goes =
    record { sessions = []; count = refl; each = All-nil IsSession; marked = All-nil (IsMarked _); given = []; gives = refl; taken = refl; goes = goes }

-- one connection more, whose session began where the one before it left the service and the stamps
pub served_more : {S : Type 0} (steps : S → Option Stamp → S → Type 0) (from : S) (start : Start) (answered : ℕ) (given : Given S) (to : S) (kept kept' : Kept)
    (written : Option (List ℕ)) (result : Result Ended IoFault) → (so : AreServed steps from given.stamps start answered kept)
    → (start.Steady → given.start.Steady) → given.start.operator ≡ start.operator → ((left : Host) → given.start.leaves left
    → (start_after start (items_of so.sessions)).leaves left) → given.start.host ≡ host_by start (items_of so.sessions) → acted_count result ≤ most_requests
    → session.IsSession steps given to written result kept' → AreServed steps from to start (answered + 1) kept'
served_more steps from start answered given to kept kept' written result so stays same wider there most here =
    let past : List Item = items_of so.sessions in
    let one = sat steps given to written result kept' here in
    let items : items_of (so.sessions ++ one.items ∷ []) ≡ past ++ one.items = items_of-snoc so.sessions one.items in
    let goes : GoesBy (start_after start past) one.items kept' =
    subst (λ (h : Host). GoesTo kept' (host_after_run h start.operator one.items) (IsLeftByRun h start.operator one.items (start_after start past).leaves))
    there (goes_from (start_after start past) given.start one.items kept' same wider one.goes) in
    record {
      sessions = so.sessions ++ one.items ∷ [];
      count = length-append so.sessions (one.items ∷ []) ∙ ap (λ (n : ℕ). n + 1) so.count;
      each = All-append IsSession so.sessions (one.items ∷ []) so.each (All-cons IsSession one.items [] (omega (arith, one.count, most)) (All-nil IsSession));
      marked = subst (All (IsMarked start.Steady)) (sym items)
          (All-append (IsMarked start.Steady) past one.items so.marked (marked_all given.start.Steady start.Steady one.items stays one.marked));
      given = so.given ++ one.given;
      gives = gives_then steps from given.stamps to so.given one.given so.gives one.gives;
      taken = among_then so.given one.given ∙ ap (λ (l : List Stamp). l ++ stamps_among one.given) so.taken
          ∙ ap (λ (l : List Stamp). stamps_of past ++ l) one.taken ∙ sym (ap stamps_of items ∙ stamps_of-append past one.items);
      goes = subst (λ (l : List Item). GoesBy start l kept') (sym items) (goes-append start kept' past one.items goes);
    }

-- further connections, which began where those before them left the service and the stamps
pub served_then : {S : Type 0} (steps : S → Option Stamp → S → Type 0) (from mid to : S) (start next : Start) (answered more : ℕ) (kept kept' : Kept)
    → (so : AreServed steps from mid start answered kept) → (start.Steady → next.Steady) → next.operator ≡ start.operator
    → ((left : Host) → next.leaves left → (start_after start (items_of so.sessions)).leaves left) → next.host ≡ host_by start (items_of so.sessions)
    → AreServed steps mid to next more kept' → AreServed steps from to start (answered + more) kept'
served_then steps from mid to start next answered more kept kept' so stays same wider there then =
    let past : List Item = items_of so.sessions in
    let new : List Item = items_of then.sessions in
    let items : items_of (so.sessions ++ then.sessions) ≡ past ++ new = items_of-append so.sessions then.sessions in
    let goes : GoesBy (start_after start past) new kept' =
    subst (λ (h : Host). GoesTo kept' (host_after_run h start.operator new) (IsLeftByRun h start.operator new (start_after start past).leaves)) there
    (goes_from (start_after start past) next new kept' same wider then.goes) in
    record {
      sessions = so.sessions ++ then.sessions;
      count = length-append so.sessions then.sessions ∙ (λ i. so.count i + then.count i);
      each = All-append IsSession so.sessions then.sessions so.each then.each;
      marked = subst (All (IsMarked start.Steady)) (sym items)
          (All-append (IsMarked start.Steady) past new so.marked (marked_all next.Steady start.Steady new stays then.marked));
      given = so.given ++ then.given;
      gives = gives_then steps from mid to so.given then.given so.gives then.gives;
      taken = among_then so.given then.given ∙ ap (λ (l : List Stamp). l ++ stamps_among then.given) so.taken
          ∙ ap (λ (l : List Stamp). stamps_of past ++ l) then.taken ∙ sym (ap stamps_of items ∙ stamps_of-append past new);
      goes = subst (λ (l : List Item). GoesBy start l kept') (sym items) (goes-append start kept' past new goes);
    }

-- after another call of the keeper that keeps all hosts that it stands for and adds none that a crash may leave
pub served_on : {S : Type 0} (steps : S → Option Stamp → S → Type 0) (from to : S) (start : Start) (answered : ℕ) (kept kept' : Kept)
    → ((h : Host) → kept.stands h → kept'.stands h) → ((left : Host) → kept'.leaves left → kept.leaves left)
    → AreServed steps from to start answered kept → AreServed steps from to start answered kept'
served_on steps from to start answered kept kept' same fewer so = record {
  sessions = so.sessions;
  count = so.count;
  each = so.each;
  marked = so.marked;
  given = so.given;
  gives = so.gives;
  taken = so.taken;
  goes = record { stands_for = same _ so.goes.stands_for; sound = so.goes.sound; crash = λ left by. so.goes.crash left (fewer left by) };
}
