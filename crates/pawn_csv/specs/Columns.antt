-- How a column is spelled: numbers are decimal, days are like `2024-01-31`, secrets are hyphenated and in lower case.
use Rattle.pawn_csv.specs.Common.{Fixed, Issue, Kind, Running}
use Rattle.pawn_csv.specs.Types.{ClosingWord, Version}
use Rattle.std.specs.Prelude.{ℕ, Bool, true, false, List, [], Option, Some, None, codes}

-- the version of the text's form
abbrev pub form_text : Version → List ℕ
form_text Version.One = codes "1"
form_text Version.Two = codes "2"

-- a flag
abbrev pub yes_text : Bool → List ℕ
yes_text true = codes "yes"
yes_text false = codes "no"

-- the kind of a pledge
abbrev pub kind_text : Kind → List ℕ
kind_text (Fixed sum) = codes "fixed"
kind_text (Running limit) = codes "running"

-- whether a pledge is open, redeemed or sold
abbrev pub closing_text : ClosingWord → List ℕ
closing_text ClosingWord.Open = codes "open"
closing_text ClosingWord.Redeemed = codes "redeemed"
closing_text ClosingWord.Sold = codes "sold"

-- why a secret was issued
abbrev pub issue_text : Issue → List ℕ
issue_text Issue.Opening = codes "opening"
issue_text Issue.Sworn = codes "sworn"
issue_text Issue.Written = codes "written"

-- a column that is empty if there is no value
abbrev pub text_if_any : (ℕ → List ℕ) → Option ℕ → List ℕ
text_if_any text None = []
text_if_any text (Some n) = text n

-- every value is allowed: each has its word in the column
abbrev pub IsAny : {A : Type 0} → A → Type 0
IsAny value = Unit {0}
