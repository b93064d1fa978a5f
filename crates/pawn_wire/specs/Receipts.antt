-- Receipts that fields present.
use Rattle.pawn_wire.specs.Chain.{and_then, or_fault}
use Rattle.pawn_wire.specs.Common.{MOST_RECEIPTS, Receipt, after_first, before_first, first_of, secret_of_text}
use Rattle.pawn_wire.specs.Fields.{Pair, values_of}
use Rattle.pawn_wire.specs.Named.{number_said}
use Rattle.pawn_wire.specs.Types.{BadReceipt, NoReceipt, TooManyReceipts, WireFault}
use Rattle.std.specs.Prelude.{ℕ, ◌==◌, Bool, List, [], ◌∷◌, length, nat_lt, slice_get, codes, Option, Some, option_map}
use Rattle.std.specs.Prelude.{Result}

-- the byte `-`
abbrev pub is_hyphen : ℕ → Bool
is_hyphen byte = byte == 45

-- the receipt that a text writes: a number, a hyphen and a secret
abbrev pub receipt_said : List ℕ → Option Receipt
receipt_said text =
    and_then (number_said (before_first is_hyphen text))
    (λ number. option_map (λ secret. record { number = number; secret = secret }) (secret_of_text (after_first is_hyphen text)))

-- the receipts that these values write, if each of them writes one
abbrev pub all_said : List (List ℕ) → Option (List Receipt)
all_said [] = Some []
all_said (value ∷ values) =
    and_then (receipt_said value)
    (λ receipt. option_map (λ receipts. receipt ∷ receipts) (all_said values))

-- the values of the fields that present receipts
abbrev pub receipt_values : List Pair → List (List ℕ)
receipt_values fields = values_of (codes "pledge-receipt") fields

-- no receipt is presented, or more than allowed
abbrev pub receipt_faults : ℕ → List (List ℕ) → List (Bool × WireFault)
receipt_faults most values =
    (length values == 0, NoReceipt)
    ∷ (nat_lt most (length values), TooManyReceipts)
    ∷ []

-- 1 to 32 receipts
abbrev pub receipts_said : List (List ℕ) → Result (List Receipt) WireFault
receipts_said values = first_of (receipt_faults MOST_RECEIPTS values) (or_fault BadReceipt (all_said values))

-- exactly one receipt
abbrev pub one_said : List (List ℕ) → Result Receipt WireFault
one_said values = first_of (receipt_faults 1 values) (or_fault BadReceipt (and_then (slice_get values 0) receipt_said))
