-- The result of a session over a reader and a writer.
use Rattle.pawn_host.specs.Common.{Appends, Consumes, HeadFault, Stamp, Yields, concat, fault_text, memory_text}
use Rattle.pawn_host.specs.Common.{wire_fault}
use Rattle.pawn_host.specs.Keeps.{Start, Kept, GoesBy, replies_by}
use Rattle.pawn_host.specs.Run.{Item, IsMarked}
use Rattle.pawn_host.specs.Split.{at_end, cut, closed, faulted, at_limit, Splits, Begins, BeginsAndGoesOn, IsUnderWay}
use Rattle.pawn_host.specs.Split.{AreWanted, most_requests}
use Rattle.pawn_host.specs.declared.session.Cause.{Cause}
use Rattle.pawn_host.specs.declared.session.Cause.TheVariants.{Read, Reads, Write}
use Rattle.pawn_host.specs.declared.session.Ended.{Ended}
use Rattle.pawn_host.specs.declared.session.IoFault.{IoFault}
use Rattle.pawn_host.specs.declared.session.Rest.{Rest}
use Rattle.pawn_host.specs.declared.session.Rest.TheVariants.{AtEnd, CutOff, Faulty, NoMemory, Stopped}
use Rattle.pawn_host.specs.declared.session.SessionEnd.{SessionEnd}
use Rattle.std.specs.Prelude.{◌≡◌, ◌≢◌, ℕ, ◌+◌, ◌<◌, ◌≤◌, ◌⊎◌, All, Bool, true, false, List, [], ◌++◌, length, take}
use Rattle.std.specs.Prelude.{map, Option, None, IfSome, Result, Ok, Err}

abbrev pub stamps_of : List Item → List Stamp
stamps_of items = map (λ i. i.stamp) items

abbrev pub requests_of : List Item → List (List ℕ)
requests_of items = map (λ i. i.bytes) items

-- the replies to these items, joined together
abbrev pub answer_text : Start → List Item → List ℕ
answer_text start items = concat (replies_by start items)

-- all that the session has to write: the replies, and a last text after them
abbrev pub due_text : Start → List Item → List ℕ → List ℕ
due_text start items last = answer_text start items ++ last

-- what holds for the stream and for the last text, depending on how the session ended
abbrev pub EndsAs : SessionEnd → Option (List ℕ) → List (List ℕ) → List ℕ → Type 0
EndsAs SessionEnd.End left requests last = (last ≡ []) × IfSome left (λ s. Splits s requests at_end)
EndsAs SessionEnd.Cut left requests last = (last ≡ []) × IfSome left (λ s. Splits s requests cut)
EndsAs SessionEnd.Closed left requests last = (last ≡ []) × IfSome left (λ s. Splits s requests closed)
EndsAs SessionEnd.Limit left requests last = (last ≡ []) × IfSome left (λ s. Splits s requests at_limit)
EndsAs SessionEnd.Faulted left requests last = (f : HeadFault) × (last ≡ fault_text (wire_fault f)) × IfSome left (λ s. Splits s requests (faulted f))
EndsAs SessionEnd.NoStamp left requests last = (last ≡ []) × IfSome left (λ s. BeginsAndGoesOn s requests)
EndsAs SessionEnd.Memory left requests last = (last ≡ memory_text) × IfSome left (λ s. IsUnderWay s requests)

-- The text that was still due after the replies when a session was broken off. `Read` and `Reads` occur before a
-- further request is found, so the stream was still under way. `Write` may occur at a request's reply, or at the last
-- text.
abbrev pub DueAfter : Cause → Option (List ℕ) → List (List ℕ) → List ℕ → Type 0
DueAfter Read left requests last = (last ≡ []) × IfSome left (λ s. IsUnderWay s requests)
DueAfter Reads left requests last = (last ≡ []) × IfSome left (λ s. IsUnderWay s requests)
DueAfter Write left requests last = ((last ≡ []) × IfSome left (λ s. Begins s requests))
    ⊎ ((last ≡ memory_text) × IfSome left (λ s. IsUnderWay s requests))
    ⊎ ((f : HeadFault) × (last ≡ fault_text (wire_fault f)) × IfSome left (λ s. Splits s requests (faulted f)))

-- the requests that a session acted on, however it ended
abbrev pub acted_count : Result Ended IoFault → ℕ
acted_count (Ok ended) = ended.acted
acted_count (Err fault) = fault.acted

-- How many requests were acted on, compared with the limit. If the session looked for a further request, they are fewer
-- than the limit. A session that ended by its limit acted on exactly as many. A session that was closed, or was broken
-- off at a reply, may have reached the limit.
abbrev pub HasRoom : SessionEnd → ℕ → Type 0
HasRoom SessionEnd.End acted = acted < most_requests
HasRoom SessionEnd.Cut acted = acted < most_requests
HasRoom SessionEnd.Closed acted = acted ≤ most_requests
HasRoom SessionEnd.Faulted acted = acted < most_requests
HasRoom SessionEnd.Limit acted = acted ≡ most_requests
HasRoom SessionEnd.NoStamp acted = acted < most_requests
HasRoom SessionEnd.Memory acted = acted < most_requests

-- how many requests were acted on, compared with the limit, if the session was broken off
abbrev pub HadRoom : Cause → ℕ → Type 0
HadRoom Read acted = acted < most_requests
HadRoom Write acted = acted ≤ most_requests
HadRoom Reads acted = acted < most_requests

-- the same for every result of a session
abbrev pub IsWithinMost : Result Ended IoFault → Type 0
IsWithinMost (Ok ended) = HasRoom ended.how ended.acted
IsWithinMost (Err fault) = HadRoom fault.cause fault.acted

-- this many reads were made, each while more was wanted; the bytes read are a prefix of what was left of the stream
pub record IsReadWhileWanted (count : ℕ) (before after : Option (List ℕ)) : Type 0 where
  pub pieces : List (List ℕ)
  pub count_is : length pieces ≡ count
  pub wanted : AreWanted [] pieces
  pub gave : Consumes before after (concat pieces)

module _ {S : Type 0} (steps : S → Option Stamp → S → Type 0) where
  -- the state of the stamps after a session: if it ended because there was no stamp, one more call was made, and it
  -- returned none
  abbrev pub IsLeftBy : SessionEnd → S → S → Type 0
  IsLeftBy SessionEnd.NoStamp to new = steps to None new
  IsLeftBy SessionEnd.End to new = to ≡ new
  IsLeftBy SessionEnd.Cut to new = to ≡ new
  IsLeftBy SessionEnd.Closed to new = to ≡ new
  IsLeftBy SessionEnd.Limit to new = to ≡ new
  IsLeftBy SessionEnd.Faulted to new = to ≡ new
  IsLeftBy SessionEnd.Memory to new = to ≡ new

  abbrev pub IsLeft : Result Ended IoFault → S → S → Type 0
  IsLeft (Ok ended) to new = IsLeftBy ended.how to new
  IsLeft (Err fault) to new = to ≡ new

  -- one stamp was taken for each request that was acted on, and no other
  pub record AreTaken (from new : S) (result : Result Ended IoFault) : Type 0 where
    pub stamps : List Stamp
    pub to : S
    pub count : length stamps ≡ acted_count result
    pub taken : Yields steps from stamps to
    pub left : IsLeft result to new

-- the input of a session: the start of the service, the stamps, and, if they are known, the bytes of its stream and the
-- bytes that were written before
pub record Given (S : Type 0) : Type 1 where
  pub start : Start
  pub stamps : S
  pub stream : Option (List ℕ)
  pub written : Option (List ℕ)

module _ {S : Type 0} (steps : S → Option Stamp → S → Type 0) (given : Given S) where
  -- these items have the stamps that the iterator returned, and the keeper goes on to the host after them
  pub record IsServed (items : List Item) (to : S) (kept : Kept) : Type 0 where
    pub marked : All (IsMarked given.start.Steady) items
    pub taken : Yields steps given.stamps (stamps_of items) to
    pub goes : GoesBy given.start items kept

  -- the session ended after it acted on the first requests of its stream and wrote their replies
  pub record HasEnded (stamps : S) (written : Option (List ℕ)) (ended : Ended) (kept : Kept) : Type 0 where
    pub items : List Item
    pub to : S
    pub last : List ℕ
    pub served : IsServed items to kept
    pub left : IsLeftBy steps ended.how to stamps
    pub count : length items ≡ ended.acted
    pub wrote : Appends given.written written (due_text given.start items last)
    pub ends : EndsAs ended.how given.stream (requests_of items) last

  -- the session was broken off
  pub record IsBrokenOff (stamps : S) (written : Option (List ℕ)) (fault : IoFault) (kept : Kept) : Type 0 where
    pub items : List Item
    pub last : List ℕ
    pub served : IsServed items stamps kept
    pub count : length items ≡ fault.acted
    pub sent : fault.sent ≤ length (due_text given.start items last)
    pub all_sent : fault.cause ≢ Write → fault.sent ≡ length (due_text given.start items last)
    pub wrote : Appends given.written written (take fault.sent (due_text given.start items last))
    pub due : DueAfter fault.cause given.stream (requests_of items) last

  -- the effect of a session, in terms of the stamps that are left, the bytes written so far, its result, and the keeper
  -- after it
  abbrev pub IsSession : S → Option (List ℕ) → Result Ended IoFault → Kept → Type 0
  IsSession stamps written (Ok ended) kept = HasEnded stamps written ended kept
  IsSession stamps written (Err fault) kept = IsBrokenOff stamps written fault kept

-- the last text was written, or only a part of it because the writer failed
abbrev pub IsFinished : SessionEnd → ℕ → ℕ → List ℕ → Option (List ℕ) → Option (List ℕ) → Bool → Result Ended IoFault → Type 0
IsFinished how acted sent text old new failed (Ok ended) =
    (ended.how ≡ how) × (ended.acted ≡ acted) × Appends old new text × (failed ≡ false)
IsFinished how acted sent text old new failed (Err fault) =
    (n : ℕ) × (n < length text) × (fault.cause ≡ Write) × (fault.acted ≡ acted) × (fault.sent ≡ sent + n) × Appends old new (take n text) × (failed ≡ true)

-- how a session ends in which no further request was found
abbrev pub IsOver : Rest → ℕ → ℕ → Option (List ℕ) → Option (List ℕ) → Bool → Result Ended IoFault → Type 0
IsOver AtEnd acted sent old new failed result = IsFinished SessionEnd.End acted sent [] old new failed result
IsOver CutOff acted sent old new failed result = IsFinished SessionEnd.Cut acted sent [] old new failed result
IsOver (Faulty f) acted sent old new failed result = IsFinished SessionEnd.Faulted acted sent (fault_text (wire_fault f)) old new failed result
IsOver NoMemory acted sent old new failed result = IsFinished SessionEnd.Memory acted sent memory_text old new failed result
IsOver (Stopped cause) acted sent old new failed result =
    (result ≡ Err (record { cause = cause; acted = acted; sent = sent })) × (new ≡ old) × (failed ≡ false)
