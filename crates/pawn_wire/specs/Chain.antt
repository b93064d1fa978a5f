-- Steps that follow each other, each of which may end in a fault.
use Rattle.pawn_base.specs.Refusals.{IsSaid}
use Rattle.pawn_wire.specs.Types.{Memory, WireFault}
use Rattle.std.specs.Prelude.{◌≡◌, ◌⊎◌, Option, Some, None, Result, Ok, Err, MatchResult}

-- one step and then the next, which gets its result; or the fault of the first
abbrev pub after : {A B : Type 0} → Result A WireFault → (A → Result B WireFault) → Result B WireFault
after (Ok a) next = next a
after (Err fault) next = Err fault

-- one part and then the next, which gets it; nothing if the first is missing
abbrev pub and_then : {A B : Type 0} → Option A → (A → Option B) → Option B
and_then None next = None
and_then (Some a) next = next a

-- a part, or this fault if it is missing
abbrev pub or_fault : {A : Type 0} → WireFault → Option A → Result A WireFault
or_fault fault None = Err fault
or_fault fault (Some a) = Ok a

-- the answer is `said`, or memory ran out
abbrev pub Says : {A : Type 0} → Result A WireFault → Result A WireFault → Type 0
Says answer said = IsSaid (λ fault. fault ≡ Memory) said answer

-- the answer is the part, or this fault if the part is missing, or memory ran out
abbrev pub GivesPart : {A : Type 0} → WireFault → Result A WireFault → Option A → Type 0
GivesPart missing answer part =
    MatchResult answer (λ a. part ≡ Some a) (λ fault. (fault ≡ Memory) ⊎ ((fault ≡ missing) × (part ≡ None)))

-- the answer is one of those allowed, or memory ran out
abbrev pub OrMemory : {A : Type 0} → (Result A WireFault → Type 0) → Result A WireFault → Type 0
OrMemory May answer = MatchResult answer (λ a. May (Ok a)) (λ fault. (fault ≡ Memory) ⊎ May (Err fault))
