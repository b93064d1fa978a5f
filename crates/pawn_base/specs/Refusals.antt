-- Refusals in order: the first condition that holds decides.
use Rattle.std.specs.Prelude.{◌≡◌, ◌⊎◌, Bool, false, if◌then◌else◌, List, [], ◌∷◌, Result, Ok, Err, IsOk}

-- the first refusal whose condition holds; if none holds, the answer
abbrev pub first_of : {V E : Type 0} → List (Bool × E) → Result V E → Result V E
first_of [] answer = answer
first_of (row ∷ rows) answer = if row.0 then Err row.1 else first_of rows answer

-- no condition of the list holds
abbrev pub NoneApplies : {E : Type 0} → List (Bool × E) → Type 0
NoneApplies [] = Unit {0}
NoneApplies (row ∷ rows) = (row.0 ≡ false) × NoneApplies rows

-- the result is the one that the rules state, or an error that `excuse` admits: out of memory, or a keeper that failed
abbrev pub IsSaid : {V E : Type 0} → (E → Type 0) → Result V E → Result V E → Type 0
IsSaid excuse said (Ok value) = said ≡ Ok value
IsSaid excuse said (Err why) = excuse why ⊎ (said ≡ Err why)

-- the error is `memory`, and the rules would have accepted
abbrev pub IsWant : {V E : Type 0} → E → Result V E → E → Type 0
IsWant memory said why = (why ≡ memory) × IsOk said
