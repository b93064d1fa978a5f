-- A receipt is written as its number, a hyphen and its secret.
use Rattle.pawn_pledge.specs.Number.{IsNumber}
use Rattle.pawn_pledge.specs.Secret.{secret_text, secret_of_text}
use Rattle.pawn_pledge.specs.declared.receipt.Receipt.{Receipt}
use Rattle.std.specs.Prelude.{◌≡◌, ℕ, List, ◌∷◌, ◌++◌, Some, decimal}

-- the text of a receipt, such as `1-da41597c-5157-488d-7724-e03fb8d84a37`
abbrev pub receipt_text : Receipt → List ℕ
receipt_text r = decimal r.number ++ 45 ∷ secret_text r.secret

-- a text of a receipt: its number without a leading zero, a hyphen, and any text of its secret
abbrev pub IsReceiptText : List ℕ → Receipt → Type 0
IsReceiptText text r =
    IsNumber r.number × ((rest : List ℕ) × (text ≡ decimal r.number ++ 45 ∷ rest) × (secret_of_text rest ≡ Some r.secret))
