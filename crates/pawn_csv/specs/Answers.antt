-- How the answers of the code compare with those of the specification of the order of rows.
use Rattle.pawn_csv.specs.Order.{Begun}
use Rattle.pawn_csv.specs.Types.{Cause}
use Rattle.std.specs.Prelude.{◌≡◌, Option, Some, Result, Ok, Err}

-- a refusal is the expected one, unless memory ran out
abbrev pub Fails : {A : Type 0} → Result A Cause → Cause → Type 0
Fails said Cause.Memory = Unit {0}
Fails said e = said ≡ Err e

-- a call answers as expected, and leaves the expected value
abbrev pub Accepts : {A U : Type 0} → Result A Cause → Result U Cause → A → Type 0
Accepts said (Ok u) new = said ≡ Ok new
Accepts said (Err e) new = Fails said e

-- a call returns the expected value, seen in another form
abbrev pub GivesAs : {A B : Type 0} → (A → B) → Result B Cause → Result A Cause → Type 0
GivesAs view said (Ok value) = said ≡ Ok (view value)
GivesAs view said (Err e) = Fails said e

-- a call leaves the expected begun book
abbrev pub AnswersBegun : {U : Type 0} → Result Begun Cause → Result U Cause → Option Begun → Type 0
AnswersBegun said (Ok u) new = (b : Begun) × (said ≡ Ok b) × (new ≡ Some b)
AnswersBegun said (Err e) new = Fails said e
