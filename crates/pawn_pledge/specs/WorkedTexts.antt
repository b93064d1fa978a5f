-- Worked examples of texts of secrets and receipts.
use Rattle.pawn_pledge.specs.Receipt.{receipt_text, IsReceiptText}
use Rattle.pawn_pledge.specs.Secret.{secret_text, secret_of_text}
use Rattle.pawn_pledge.specs.declared.receipt.Receipt.{Receipt}
use Rattle.std.specs.Prelude.{◌≡◌, ℕ, Some, None, codes}

-- a secret whose sixteen bytes differ
abbrev pub some_secret : ℕ
some_secret = 290111017360837105818128351973701339703

-- a secret is written in one form, and read in four
abbrev pub WorkedSecrets : Type 0
WorkedSecrets =
    (secret_text 3 ≡ codes "00000000-0000-0000-0000-000000000003")
    × (secret_text some_secret ≡ codes "da41597c-5157-488d-7724-e03fb8d84a37")
    × (secret_of_text (codes "da41597c-5157-488d-7724-e03fb8d84a37") ≡ Some some_secret)
    × (secret_of_text (codes "DA41597C5157488D7724E03FB8D84A37") ≡ Some some_secret)
    × (secret_of_text (codes "{da41597c-5157-488d-7724-e03fb8d84a37}") ≡ Some some_secret)
    × (secret_of_text (codes "urn:uuid:da41597c-5157-488d-7724-e03fb8d84a37") ≡ Some some_secret)
    × (secret_of_text (codes "da41597c-5157-488d-7724-e03fb8d84a3") ≡ None)
    × (secret_of_text (codes "da41597c-5157-488d-7724-e03fb8d84a3g") ≡ None)

-- the receipt with that secret and a number
abbrev pub receipt_of : ℕ → Receipt
receipt_of number = record { number = number; secret = some_secret }

-- a receipt is its number, a hyphen, and a text of its secret
abbrev pub WorkedReceiptTexts : Type 0
WorkedReceiptTexts =
    (receipt_text (receipt_of 1) ≡ codes "1-da41597c-5157-488d-7724-e03fb8d84a37")
    × (receipt_text (receipt_of 999999999) ≡ codes "999999999-da41597c-5157-488d-7724-e03fb8d84a37")
    × IsReceiptText (codes "1-da41597c-5157-488d-7724-e03fb8d84a37") (receipt_of 1)
    × IsReceiptText (codes "20-DA41597C5157488D7724E03FB8D84A37") (receipt_of 20)
