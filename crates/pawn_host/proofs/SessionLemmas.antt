-- A session so far, and how it ends.
use Rattle.pawn_book.proofs.Reading.{on_then}
use Rattle.pawn_host.proofs.CrashLemmas.{seen_from, goes_from, goes-append}
use Rattle.pawn_host.proofs.FindLemmas.{not_by_writer}
use Rattle.pawn_host.proofs.SplitLemmas.{SplitsOn, splits_start, splits_more, splits_closed, splits_begun}
use Rattle.pawn_host.proofs.SplitLemmas.{splits_under_way, splits_goes_on, splits_ending, stops_end, stops_cut}
use Rattle.pawn_host.proofs.SplitLemmas.{stops_fault, stops_limit}
use Rattle.pawn_host.specs.Common.{Appends, HeadFacts, Host, Keeping, Keeps, Mark, Stamp, WireFault, Yields}
use Rattle.pawn_host.specs.Common.{event_reply, fault_text, mark_reply, memory_text, no_memory, no_store, prepend_known}
use Rattle.pawn_host.specs.Common.{read_as, wire_fault}
use Rattle.pawn_host.specs.Finding.{FindsHead, FindsRest, IsCausedBy, StopsBy}
use Rattle.pawn_host.specs.Keeps.{GoesTo, IsActed, Kept, Start, StaysOpen, host_by, start_after, start_of}
use Rattle.pawn_host.specs.Run.{IsMarkOf, IsMarked, Item, event_of, said_text}
use Rattle.pawn_host.specs.Session.{AreTaken, DueAfter, EndsAs, Given, HadRoom, HasRoom, IsFinished, IsLeft, IsLeftBy}
use Rattle.pawn_host.specs.Session.{IsOver, IsServed, IsSession, IsWithinMost, acted_count, answer_text, requests_of}
use Rattle.pawn_host.specs.Session.{stamps_of}
use Rattle.pawn_host.specs.Split.{Begins, Ending, IsUnderWay, Splits, StopsAt, at_end, at_limit, closed, cut, faulted}
use Rattle.pawn_host.specs.Split.{most_requests}
use Rattle.pawn_host.specs.declared.service.Service.{Service}
use Rattle.pawn_host.specs.declared.session.Cause.{Cause}
use Rattle.pawn_host.specs.declared.session.Cause.TheVariants.{Read, Reads, Write}
use Rattle.pawn_host.specs.declared.session.Ended.{Ended}
use Rattle.pawn_host.specs.declared.session.IoFault.{IoFault}
use Rattle.pawn_host.specs.declared.session.Rest.{Rest}
use Rattle.pawn_host.specs.declared.session.Rest.TheVariants.{AtEnd, CutOff, Faulty, NoMemory, Stopped}
use Rattle.pawn_host.specs.declared.session.SessionEnd.{SessionEnd}
use Rattle.pawn_host.specs.declared.session.SessionEnd.TheVariants.{End, Cut, Closed, Faulted, Limit, NoStamp, Memory}
use Rattle.std.proofs.Common.{◌≡◌, ◌≢◌, ℕ, suc, ◌+◌, ◌<◌, ◌≤◌, true, false, List, [], ◌∷◌, ◌++◌, length, take, drop}
use Rattle.std.proofs.Common.{map, inl, inr, refl, arith, Option, Some, None, Result, Ok, Err, sym, ◌∙◌, ap, subst}
use Rattle.std.proofs.Common.{append_assoc, append-nil, length-append, IfSome, Bool, IfErr, OnOk, take_all}
use Rattle.std.proofs.KnownBytes.{Appends-nil, Appends-trans}
use Rattle.std.proofs.Math.Seq.{take-append-add}
use Rattle.std.proofs.lemmas.List.Elements.{All-append, All-cons, All-nil}

-- ---- one more item

pub answer_text-snoc : (start : Start) (items : List Item) (i : Item)
    → answer_text start (items ++ i ∷ []) ≡ answer_text start items ++ said_text (mark_reply (host_by start items) start.operator i.stamp i.mark)
answer_text-snoc start [] i = append-nil (said_text (mark_reply start.host start.operator i.stamp i.mark))
answer_text-snoc start (x ∷ items) i =
    let one : List ℕ = said_text (event_reply start.host start.operator (event_of x)) in
    let next : Start = start_after start (x ∷ []) in
    ap (λ (l : List ℕ). one ++ l) (answer_text-snoc next items i)
    ∙ sym (append_assoc one (answer_text next items) (said_text (mark_reply (host_by next items) start.operator i.stamp i.mark)))

Yields-snoc : {S A : Type 0} (steps : S → Option A → S → Type 0) (s : S) (xs : List A) (t u : S) (x : A) → Yields steps s xs t → steps t (Some x) u
    → Yields steps s (xs ++ x ∷ []) u
Yields-snoc steps s [] t u x y step = (u, subst (λ (v : _). steps v (Some x) u) (sym y) step, refl)
Yields-snoc steps s (a ∷ xs) t u x y step = (y.0, y.1, Yields-snoc steps y.0 xs t u x y.2 step)

-- these stamps were taken so far
pub record TakenSoFar {S : Type 0} (steps : S → Option Stamp → S → Type 0) (from to : S) (acted : ℕ) : Type 0 where
  pub stamps : List Stamp
  pub count : length stamps ≡ acted
  pub taken : Yields steps from stamps to

pub taken_none : {S : Type 0} (steps : S → Option Stamp → S → Type 0) (from : S) → TakenSoFar steps from from 0
taken_none steps from = record { stamps = []; count = refl; taken = refl }

pub taken_more : {S : Type 0} {steps : S → Option Stamp → S → Type 0} {from to : S} {acted : ℕ} (to' : S) (x : Stamp) → TakenSoFar steps from to acted
    → steps to (Some x) to' → TakenSoFar steps from to' (acted + 1)
taken_more {steps = steps} {from = from} {to = to} to' x so step = record {
  stamps = so.stamps ++ x ∷ [];
  count = length-append so.stamps (x ∷ []) ∙ ap (λ (n : ℕ). n + 1) so.count;
  taken = Yields-snoc steps from so.stamps to to' x so.taken step;
}

-- the stamps that were taken, and where that left the iterator
pub are_taken : {S : Type 0} {steps : S → Option Stamp → S → Type 0} {from to : S} {acted : ℕ} (last : S) (result : Result Ended IoFault)
    → TakenSoFar steps from to acted → acted ≡ acted_count result → IsLeft steps result to last → AreTaken steps from last result
are_taken {to = to} last result so count left = record { stamps = so.stamps; to = to; count = so.count ∙ count; taken = so.taken; left = left }

-- the state that a session leaves when it is over, depending on its result
pub record Leaves {S : Type 0} (steps : S → Option Stamp → S → Type 0) (to : S) (acted reads : ℕ) (read_failed failed : Bool)
    (result : Result Ended IoFault) : Type 0 where
  pub count : acted ≡ acted_count result
  pub left : IsLeft steps result to to
  pub room : IsWithinMost result
  pub whole : OnOk result ((read_failed ≡ false) × (failed ≡ false))
  pub cause : IfErr result (λ fault. IsCausedBy fault.cause read_failed reads failed)

module _ {S : Type 0} (steps : S → Option Stamp → S → Type 0) (to : S) (acted sent reads : ℕ) (old new : Option (List ℕ)) (read_failed failed : Bool) where
  finished_leaves : (how : SessionEnd) (text : List ℕ) (result : Result Ended IoFault) → IsLeftBy steps how to to → HasRoom how acted → acted < 1000
      → read_failed ≡ false → IsFinished how acted sent text old new failed result → Leaves steps to acted reads read_failed failed result
  finished_leaves how text (Ok ended) left room few readable is = record {
    count = sym is.1;
    left = subst (λ (h : SessionEnd). IsLeftBy steps h to to) (sym is.0) left;
    room = subst (λ (h : SessionEnd). HasRoom h ended.acted) (sym is.0) (subst (HasRoom how) (sym is.1) room);
    whole = (readable, is.3);
    cause = tt;
  }
  finished_leaves how text (Err fault) left room few readable is = record {
    count = sym is.3;
    left = refl;
    room = subst (λ (c : Cause). HadRoom c fault.acted) (sym is.2) (omega (arith, is.3, few));
    whole = tt;
    cause = subst (λ (c : Cause). IsCausedBy c read_failed reads failed) (sym is.2) is.6;
  }

  pub over_leaves : (rest : Rest) (result : Result Ended IoFault) → acted < 1000 → StopsBy (Err rest) false read_failed reads
      → IsOver rest acted sent old new failed result → Leaves steps to acted reads read_failed failed result
  over_leaves AtEnd result few readable is = finished_leaves End [] result refl few few readable is
  over_leaves CutOff result few readable is = finished_leaves Cut [] result refl few few readable is
  over_leaves (Faulty f) result few readable is = finished_leaves Faulted (fault_text (wire_fault f)) result refl few few readable is
  over_leaves NoMemory result few readable is = finished_leaves Memory memory_text result refl few few readable is
  over_leaves (Stopped cause) result few by is = subst (Leaves steps to acted reads read_failed failed) (sym is.0) record {
    count = refl;
    left = refl;
    room = room cause (not_by_writer cause read_failed reads by);
    whole = tt;
    cause = subst (IsCausedBy cause read_failed reads) (sym is.2) by;
  } where
    room : (cause : Cause) → cause ≢ Write → HadRoom cause acted
    room Read by_reader = few
    room Reads by_reader = few
    room Write by_reader = absurd (by_reader refl)

pub map-snoc : {A B : Type 0} (f : A → B) (xs : List A) (x : A) → map f (xs ++ x ∷ []) ≡ map f xs ++ f x ∷ []
map-snoc f [] x = refl
map-snoc f (a ∷ xs) x = ap (λ (l : List _). f a ∷ l) (map-snoc f xs x)

length-map : {A B : Type 0} (f : A → B) (xs : List A) → length (map f xs) ≡ length xs
length-map f [] = refl
length-map f (a ∷ xs) = ap (λ (n : ℕ). suc n) (length-map f xs)

-- ---- so far

-- the rest after a request of this length
pub left_behind : (left buffer : List ℕ) (needed n : ℕ) → left ≡ drop needed buffer → needed ≡ n → left ≡ drop n buffer
left_behind left buffer needed n dropped same = dropped ∙ ap (λ (k : ℕ). drop k buffer) same

-- the input of a session over this service
abbrev pub given_by : {K S : Type 0} → Keeping K → Service K → Host → S → Option (List ℕ) → Option (List ℕ) → Given S
given_by k service h stamps stream written = record { start = start_of k service h; stamps = stamps; stream = stream; written = written }

module _ {S : Type 0} (steps : S → Option Stamp → S → Type 0) (given : Given S) where
  -- these requests were acted on and answered, and the rest of the stream is left
  pub record SoFar (to : S) (kept : Kept) (rest new : Option (List ℕ)) (acted sent : ℕ) : Type 0 where
    pub items : List Item
    pub served : IsServed steps given items to kept
    pub count : length items ≡ acted
    pub sent_is : sent ≡ length (answer_text given.start items)
    pub wrote : Appends given.written new (answer_text given.start items)
    pub splits : SplitsOn given.stream rest (requests_of items)

-- no request was acted on yet
pub starts : {S : Type 0} {steps : S → Option Stamp → S → Type 0} {given : Given S} {kept : Kept} (buffer : List ℕ)
    → GoesTo kept given.start.host given.start.leaves → buffer ≡ [] → SoFar steps given given.stamps kept (prepend_known buffer given.stream) given.written 0 0
starts {given = given} buffer goes empty = record {
  items = [];
  served = record { marked = All-nil (IsMarked _); taken = refl; goes = goes };
  count = refl;
  sent_is = refl;
  wrote = Appends-nil given.written;
  splits = subst (λ (b : List ℕ). SplitsOn given.stream (prepend_known b given.stream) []) (sym empty) (splits_start given.stream);
}

module _ {S : Type 0} (steps : S → Option Stamp → S → Type 0) (given : Given S) where
  -- one more request was acted on
  record Stepped (to : S) (kept : Kept) (acted : ℕ) (before : List ℕ) (requests : List (List ℕ)) (text bytes : List ℕ) : Type 0 where
    pub items : List Item
    pub served : IsServed steps given items to kept
    pub count : length items ≡ acted + 1
    pub text_is : answer_text given.start items ≡ before ++ text
    pub requests_is : requests_of items ≡ requests ++ bytes ∷ []

few_requests : (items : List Item) (acted : ℕ) → length items ≡ acted → acted < 1000 → length (requests_of items) < 1000
few_requests items acted count few = omega (arith, length-map (λ (i : Item). i.bytes) items)

nothing_more : (old new : Option (List ℕ)) (text : List ℕ) → Appends old new text → Appends old new (text ++ [])
nothing_more old new text h = subst (λ (t : List ℕ). Appends old new t) (sym (append-nil text)) h

-- a mark over a keeper is one over a keeper that was steady before
pub marked_since : (Now Before : Type 0) (bytes : List ℕ) (mark : Mark WireFault) → (Before → Now) → IsMarkOf Now bytes mark → IsMarkOf Before bytes mark
marked_since Now Before bytes (read_as said) stays marked = marked
marked_since Now Before bytes no_memory stays marked = marked
marked_since Now Before bytes no_store stays marked = λ before. marked (stays before)

-- the same item, by equal bytes, an equal text and the same operator, and seen from an earlier start
pub acted_at : (now before : Start) (stamp : Stamp) (bytes bytes' reply text : List ℕ) (kept : Kept) → IsActed now stamp bytes reply kept
    → (before.Steady → now.Steady) → now.operator ≡ before.operator → ((left : Host) → now.leaves left → before.leaves left) → bytes ≡ bytes' → text ≡ reply
    → IsActed (seen_from before now) stamp bytes' text kept
acted_at now before stamp bytes bytes' reply text kept acted stays same wider e f =
    let a = subst (λ (b : List ℕ). IsActed now stamp b reply kept) e acted in
    record {
      mark = a.mark;
      marked = marked_since now.Steady before.Steady bytes' a.mark stays a.marked;
      text = f ∙ a.text ∙ ap (λ (o : ℕ). said_text (mark_reply now.host o stamp a.mark)) same;
      goes = goes_from before now (record { stamp = stamp; bytes = bytes'; mark = a.mark } ∷ []) kept same wider a.goes;
    }

-- the next item of a session: the service, which now holds the host after these items, acted on the first `len` bytes of
-- the buffer
pub acted_next : {K : Type 0} {k : Keeping K} (old now : Service K) (h : Host) (items : List Item) (stamp : Stamp) (whole buffer reply text : List ℕ)
    (needed len : ℕ) (kept : Kept) → StaysOpen k old now
    → IsActed (start_of k now (host_by (start_of k old h) items)) stamp (take needed whole) reply kept
    → ((left : Host) → (start_of k now (host_by (start_of k old h) items)).leaves left → (start_after (start_of k old h) items).leaves left)
    → whole ≡ buffer → needed ≡ len → text ≡ reply → IsActed (start_after (start_of k old h) items) stamp (take len buffer) text kept
acted_next {k = k} old now h items stamp whole buffer reply text needed len kept stays acted wider same exact written =
    acted_at (start_of k now (host_by (start_of k old h) items)) (start_after (start_of k old h) items) stamp (take needed whole) (take len buffer) reply text
    kept acted stays.on.stays stays.operator wider (ap (take needed) same ∙ ap (λ (n : ℕ). take n buffer) exact) written

-- one call of a service after another
pub open_then : {K : Type 0} {k : Keeping K} {a b c : Service K} → StaysOpen k a b → StaysOpen k b c → StaysOpen k a c
open_then first then = record { on = on_then first.on then.on; operator = then.operator ∙ first.operator }

-- what was written of the reply
wrote_more : (old new new' : Option (List ℕ)) (before text after : List ℕ) (count : ℕ) → after ≡ before ++ text → Appends old new before
    → Appends new new' (take count text) → Appends old new' (take (length before + count) after)
wrote_more old new new' before text after count is wrote send =
    let front : take (length before + count) after ≡ before ++ take count text = ap (take (length before + count)) is ∙ take-append-add before text count in
    subst (λ (t : List ℕ). Appends old new' t) (sym front) (Appends-trans old new new' before (take count text) wrote send)

module _ {S : Type 0} {steps : S → Option Stamp → S → Type 0} {given : Given S} where
  -- an end without a last text
  pub ended : {to : S} {kept : Kept} {rest new : Option (List ℕ)} {acted sent : ℕ} (how : SessionEnd) (so : SoFar steps given to kept rest new acted sent)
      → (last : S) → IsLeftBy steps how to last → EndsAs how given.stream (requests_of so.items) []
      → IsSession steps given last new (Ok (record { how = how; acted = acted })) kept
  ended {to} {kept} {rest} {new} {acted} {sent} how so last stamps ends = record {
    items = so.items;
    to = to;
    last = [];
    served = so.served;
    left = stamps;
    count = so.count;
    wrote = nothing_more given.written new (answer_text given.start so.items) so.wrote;
    ends = ends;
  }

  pub ended_limit : {to : S} {kept : Kept} {rest new : Option (List ℕ)} {acted sent : ℕ} (so : SoFar steps given to kept rest new acted sent)
      → acted ≡ 1000 → IsSession steps given to new (Ok (record { how = Limit; acted = 1000 })) kept
  ended_limit {to} {kept} {rest} {new} {acted} {sent} so many =
      subst (λ (k : ℕ). IsSession steps given to new (Ok (record { how = Limit; acted = k })) kept) many (ended Limit so to refl (
        refl,
        splits_ending given.stream rest (requests_of so.items) at_limit so.splits
            (stops_limit rest (length (requests_of so.items)) (omega (arith, so.count, length-map (λ (i : Item). i.bytes) so.items))),
      ))

  pub ended_dry : {to u : S} {kept : Kept} {rest new : Option (List ℕ)} {acted sent : ℕ} (head : HeadFacts) (so : SoFar steps given to kept rest new acted sent)
      → acted < 1000 → steps to None u → IfSome rest (λ r. FindsHead r (Ok head))
      → IsSession steps given u new (Ok (record { how = NoStamp; acted = acted })) kept
  ended_dry {u = u} {rest = rest} {acted = acted} head so few dry first =
      ended NoStamp so u dry (refl, splits_goes_on given.stream rest (requests_of so.items) head so.splits first (few_requests so.items acted so.count few))

  -- broken off by the reader
  broken_off : {to : S} {kept : Kept} {rest new : Option (List ℕ)} {acted sent : ℕ} (cause : Cause) (so : SoFar steps given to kept rest new acted sent)
      → acted < 1000 → cause ≢ Write → IsSession steps given to new (Err (record { cause = cause; acted = acted; sent = sent })) kept
  broken_off {to} {kept} {rest} {new} {acted} {sent} cause so few by_reader =
      let all : length (answer_text given.start so.items ++ []) ≡ sent = ap length (append-nil (answer_text given.start so.items)) ∙ sym so.sent_is in
      let whole_text : answer_text given.start so.items ≡ take sent (answer_text given.start so.items ++ []) =
      sym (append-nil (answer_text given.start so.items)) ∙ sym (take_all sent (answer_text given.start so.items ++ []) (omega arith)) in
      record {
        items = so.items;
        last = [];
        served = so.served;
        count = so.count;
        sent = omega arith;
        all_sent = λ _. sym all;
        wrote = subst (λ (t : List ℕ). Appends given.written new t) whole_text so.wrote;
        due = due cause by_reader;
      } where
        under_way : IfSome given.stream (λ x. IsUnderWay x (requests_of so.items))
        under_way = splits_under_way given.stream rest (requests_of so.items) so.splits (few_requests so.items acted so.count few)

        due : (cause : Cause) → cause ≢ Write → DueAfter cause given.stream (requests_of so.items) []
        due Read by_reader = (refl, under_way)
        due Reads by_reader = (refl, under_way)
        due Write by_reader = absurd (by_reader refl)

  -- a last text was written, or a part of it
  finished : {to : S} {kept : Kept} {rest new : Option (List ℕ)} {acted sent : ℕ} (new' : Option (List ℕ)) (failed : Bool) (how : SessionEnd) (text : List ℕ)
      (result : Result Ended IoFault) (so : SoFar steps given to kept rest new acted sent)
      → IsLeftBy steps how to to → EndsAs how given.stream (requests_of so.items) text → DueAfter Write given.stream (requests_of so.items) text
      → IsFinished how acted sent text new new' failed result → IsSession steps given to new' result kept
  finished {to} {kept} {rest} {new} {acted} {sent} new' failed how text (Ok ended) so stamps ends due fin = record {
    items = so.items;
    to = to;
    last = text;
    served = so.served;
    left = subst (λ (h : SessionEnd). IsLeftBy steps h to to) (sym fin.0) stamps;
    count = so.count ∙ sym fin.1;
    wrote = Appends-trans given.written new new' (answer_text given.start so.items) text so.wrote fin.2;
    ends = subst (λ (h : SessionEnd). EndsAs h given.stream (requests_of so.items) text) (sym fin.0) ends;
  }
  finished {to} {kept} {rest} {new} {acted} {sent} new' failed how text (Err fault) so stamps ends due fin =
      let n : ℕ = fin.0 in
      let sum : fault.sent ≡ length (answer_text given.start so.items) + n = fin.4 ∙ ap (λ (k : ℕ). k + n) so.sent_is in
      let front : take fault.sent (answer_text given.start so.items ++ text) ≡ answer_text given.start so.items ++ take n text =
      ap (λ (k : ℕ). take k (answer_text given.start so.items ++ text)) sum ∙ take-append-add (answer_text given.start so.items) text n in
      record {
        items = so.items;
        last = text;
        served = so.served;
        count = so.count ∙ sym fin.3;
        sent = omega (arith, length-append (answer_text given.start so.items) text, sum, fin.1);
        all_sent = λ other. absurd (other fin.2);
        wrote = subst (λ (t : List ℕ). Appends given.written new' t) (sym front)
            (Appends-trans given.written new new' (answer_text given.start so.items) (take n text) so.wrote fin.5);
        due = subst (λ (c : Cause). DueAfter c given.stream (requests_of so.items) text) (sym fin.2) due;
      }

  -- no further request came
  pub over : {to : S} {kept : Kept} {rest new : Option (List ℕ)} {acted sent : ℕ} (new' : Option (List ℕ)) (was read_failed failed : Bool) (reads : ℕ)
      (last : Rest) (result : Result Ended IoFault) (so : SoFar steps given to kept rest new acted sent) → acted < 1000 → IfSome rest (λ r. FindsRest r last)
      → StopsBy (Err last) was read_failed reads → IsOver last acted sent new new' failed result → IsSession steps given to new' result kept
  over {to} {kept} {rest} {new} {acted} {sent} new' was read_failed failed reads last result so few first stops is = by last first stops is where
    requests : List (List ℕ)
    requests = requests_of so.items

    fewer : length requests < 1000
    fewer = few_requests so.items acted so.count few

    under_way : IfSome given.stream (λ x. IsUnderWay x requests)
    under_way = splits_under_way given.stream rest requests so.splits fewer

    begins : (s : Option (List ℕ)) → IfSome s (λ x. IsUnderWay x requests) → IfSome s (λ x. Begins x requests)
    begins None x = tt
    begins (Some s) x = inl (x.0, x.1, omega (arith, x.2))

    ends : (e : Ending) → IfSome rest (λ r. StopsAt e (length requests) r) → IfSome given.stream (λ x. Splits x requests e)
    ends e stops = splits_ending given.stream rest requests e so.splits stops

    by : (last : Rest) → IfSome rest (λ r. FindsRest r last) → StopsBy (Err last) was read_failed reads → IsOver last acted sent new new' failed result
        → IsSession steps given to new' result kept
    by AtEnd first stops is = finished new' failed End [] result so refl (refl, ends at_end (stops_end rest (length requests) fewer first))
        (inl (refl, begins given.stream under_way)) is
    by CutOff first stops is = finished new' failed Cut [] result so refl (refl, ends cut (stops_cut rest (length requests) fewer first))
        (inl (refl, begins given.stream under_way)) is
    by (Faulty f) first stops is =
        let split = ends (faulted f) (stops_fault rest (length requests) f fewer first) in
        finished new' failed Faulted (fault_text (wire_fault f)) result so refl (f, refl, split) (inr (inr (f, refl, split))) is
    by NoMemory first stops is = finished new' failed Memory memory_text result so refl (refl, under_way) (inr (inl (refl, under_way))) is
    by (Stopped cause) first stops is =
        subst (λ (r : Result Ended IoFault). IsSession steps given to new' r kept) (sym is.0) (subst (λ (n : Option (List ℕ)). IsSession steps given to n
        (Err (record { cause = cause; acted = acted; sent = sent })) kept) (sym is.1) (broken_off cause so few (not_by_writer cause read_failed reads stops)))

  stepped : {to : S} {kept : Kept} {rest new : Option (List ℕ)} {acted sent : ℕ} (to' : S) (kept' : Kept) (stamp : Stamp) (text bytes : List ℕ)
      (so : SoFar steps given to kept rest new acted sent) → steps to (Some stamp) to' → IsActed (start_after given.start so.items) stamp bytes text kept'
      → Stepped steps given to' kept' acted (answer_text given.start so.items) (requests_of so.items) text bytes
  stepped {to} {kept} {rest} {new} {acted} {sent} to' kept' stamp text bytes so step a =
      let item : Item = record { stamp = stamp; bytes = bytes; mark = a.mark } in
      record {
        items = so.items ++ item ∷ [];
        served = record {
          marked = All-append (IsMarked given.start.Steady) so.items (item ∷ []) so.served.marked
              (All-cons (IsMarked given.start.Steady) item [] a.marked (All-nil (IsMarked given.start.Steady)));
          taken = subst (λ (xs : List Stamp). Yields steps given.stamps xs to') (sym (map-snoc (λ (i : Item). i.stamp) so.items item))
              (Yields-snoc steps given.stamps (stamps_of so.items) to to' stamp so.served.taken step);
          goes = goes-append given.start kept' so.items (item ∷ []) a.goes;
        };
        count = length-append so.items (item ∷ []) ∙ ap (λ (n : ℕ). n + 1) so.count;
        text_is = answer_text-snoc given.start so.items item ∙ ap (λ (l : List ℕ). answer_text given.start so.items ++ l) (sym a.text);
        requests_is = map-snoc (λ (i : Item). i.bytes) so.items item;
      }

  -- the reply could not be written whole
  pub broken_write : {to : S} {kept : Kept} {rest new : Option (List ℕ)} {acted sent : ℕ} (to' : S) (kept' : Kept) (new' left : Option (List ℕ)) (stamp : Stamp)
      (head : HeadFacts) (count : ℕ) (text buffer : List ℕ) (so : SoFar steps given to kept rest new acted sent)
      → acted < 1000 → steps to (Some stamp) to' → IsActed (start_after given.start so.items) stamp (take (head.len + head.body) buffer) text kept'
      → IfSome rest (λ r. FindsHead r (Ok head)) → Keeps rest (prepend_known buffer left) → head.len + head.body ≤ length buffer → count < length text
      → Appends new new' (take count text) → IsSession steps given to' new' (Err (record { cause = Write; acted = acted + 1; sent = sent + count })) kept'
  broken_write {rest = rest} {new = new} {acted = acted} {sent = sent} to' kept' new' left stamp head count text buffer so few step a first kept fits short
      send =
      let st = stepped to' kept' stamp text (take (head.len + head.body) buffer) so step a in
      let begun = splits_begun given.stream rest left (requests_of so.items) buffer head so.splits first kept fits (few_requests so.items acted so.count few) in
      let all : sent + count ≤ length (answer_text given.start st.items ++ []) = omega (
        arith,
        ap length (append-nil (answer_text given.start st.items)),
        ap length st.text_is,
        length-append (answer_text given.start so.items) text,
        so.sent_is,
        short,
      ) in
      let front : take (length (answer_text given.start so.items) + count) (answer_text given.start st.items) ≡ take (sent + count)
      (answer_text given.start st.items ++ []) =
      ap (λ (k : ℕ). take (k + count) (answer_text given.start st.items)) (sym so.sent_is)
      ∙ ap (take (sent + count)) (sym (append-nil (answer_text given.start st.items))) in
      record {
        items = st.items;
        last = [];
        served = st.served;
        count = st.count;
        sent = all;
        all_sent = λ other. absurd (other refl);
        wrote = subst (λ (t : List ℕ). Appends given.written new' t) front
            (wrote_more given.written new new' (answer_text given.start so.items) text (answer_text given.start st.items) count st.text_is so.wrote send);
        due = inl (refl, subst (λ (rs : List (List ℕ)). IfSome given.stream (λ x. Begins x rs)) (sym st.requests_is) begun);
      }

  -- the reply was written, and the stream is closed
  pub ended_closed : {to : S} {kept : Kept} {rest new : Option (List ℕ)} {acted sent : ℕ} (to' : S) (kept' : Kept) (new' left : Option (List ℕ)) (stamp : Stamp)
      (head : HeadFacts) (count : ℕ) (text buffer : List ℕ) (so : SoFar steps given to kept rest new acted sent)
      → acted < 1000 → steps to (Some stamp) to' → IsActed (start_after given.start so.items) stamp (take (head.len + head.body) buffer) text kept'
      → IfSome rest (λ r. FindsHead r (Ok head)) → Keeps rest (prepend_known buffer left) → head.len + head.body ≤ length buffer → count ≡ length text
      → Appends new new' (take count text) → head.closes ≡ true → IsSession steps given to' new' (Ok (record { how = Closed; acted = acted + 1 })) kept'
  ended_closed {rest = rest} {new = new} {acted = acted} {sent = sent} to' kept' new' left stamp head count text buffer so few step a first kept fits full send
      closes =
      let st = stepped to' kept' stamp text (take (head.len + head.body) buffer) so step a in
      let split =
      splits_closed given.stream rest left (requests_of so.items) buffer head so.splits first closes kept fits (few_requests so.items acted so.count few) in
      let size : length (answer_text given.start st.items) ≡ length (answer_text given.start so.items) + count =
      omega (arith, ap length st.text_is, length-append (answer_text given.start so.items) text, full) in
      let front : take (length (answer_text given.start so.items) + count) (answer_text given.start st.items) ≡ answer_text given.start st.items ++ [] =
      take_all (length (answer_text given.start so.items) + count) (answer_text given.start st.items) (omega arith)
      ∙ sym (append-nil (answer_text given.start st.items)) in
      record {
        items = st.items;
        to = to';
        last = [];
        served = st.served;
        left = refl;
        count = st.count;
        wrote = subst (λ (t : List ℕ). Appends given.written new' t) front
            (wrote_more given.written new new' (answer_text given.start so.items) text (answer_text given.start st.items) count st.text_is so.wrote send);
        ends = (refl, subst (λ (rs : List (List ℕ)). IfSome given.stream (λ x. Splits x rs closed)) (sym st.requests_is) split);
      }

  -- the reply was written, and the session goes on
  pub goes_on : {to : S} {kept : Kept} {rest new : Option (List ℕ)} {acted sent : ℕ} (to' : S) (kept' : Kept) (new' left : Option (List ℕ)) (stamp : Stamp)
      (head : HeadFacts) (count : ℕ) (text buffer buffer' : List ℕ) (so : SoFar steps given to kept rest new acted sent) → acted < 1000 → steps to (Some stamp)
      to' → IsActed (start_after given.start so.items) stamp (take (head.len + head.body) buffer) text kept' → IfSome rest (λ r. FindsHead r (Ok head))
      → Keeps rest (prepend_known buffer left) → head.len + head.body ≤ length buffer → count ≡ length text → Appends new new' (take count text) → head.closes
      ≡ false → buffer' ≡ drop (head.len + head.body) buffer → SoFar steps given to' kept' (prepend_known buffer' left) new' (acted + 1) (sent + count)
  goes_on {rest = rest} {new = new} {acted = acted} {sent = sent} to' kept' new' left stamp head count text buffer buffer' so few step a first kept fits full
      send closes dropped =
      let st = stepped to' kept' stamp text (take (head.len + head.body) buffer) so step a in
      let split = splits_more given.stream rest left (requests_of so.items) buffer head so.splits first closes kept fits in
      let size : length (answer_text given.start st.items) ≡ length (answer_text given.start so.items) + count =
      omega (arith, ap length st.text_is, length-append (answer_text given.start so.items) text, full) in
      let front : take (length (answer_text given.start so.items) + count) (answer_text given.start st.items) ≡ answer_text given.start st.items =
      take_all (length (answer_text given.start so.items) + count) (answer_text given.start st.items) (omega arith) in
      record {
        items = st.items;
        served = st.served;
        count = st.count;
        sent_is = ap (λ (k : ℕ). k + count) so.sent_is ∙ sym size;
        wrote = subst (λ (t : List ℕ). Appends given.written new' t) front
            (wrote_more given.written new new' (answer_text given.start so.items) text (answer_text given.start st.items) count st.text_is so.wrote send);
        splits = subst (λ (b : List ℕ). SplitsOn given.stream (prepend_known b left) (requests_of st.items)) (sym dropped)
            (subst (λ (rs : List (List ℕ)). SplitsOn given.stream (prepend_known (drop (head.len + head.body) buffer) left) rs) (sym st.requests_is) split);
      }

-- no more requests than the limit were acted on
pub within_most : (result : Result Ended IoFault) → IsWithinMost result → acted_count result ≤ most_requests
within_most (Ok ended) room = by_how ended.how ended.acted room where
  by_how : (how : SessionEnd) (acted : ℕ) → HasRoom how acted → acted ≤ most_requests
  by_how End acted room = omega arith
  by_how how acted room = omega arith
within_most (Err fault) room = by_cause fault.cause fault.acted room where
  by_cause : (cause : Cause) (acted : ℕ) → HadRoom cause acted → acted ≤ most_requests
  by_cause Read acted room = omega arith
  by_cause cause acted room = omega arith
