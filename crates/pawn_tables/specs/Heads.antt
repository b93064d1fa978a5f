-- The row of a book.
use Rattle.pawn_tables.specs.Common.{Row, IsText, BookValue, IsCapacity, most_name_bytes, IsWord}
use Rattle.pawn_tables.specs.Rows.{number}
use Rattle.std.specs.Prelude.{ℕ, [], ◌∷◌, IfSome}
use Rattle.std.specs.Str.{IsUtf8}

-- the keys of the book are 128-bit words
pub record HasKeys (k : BookValue) : Type 0 where
  pub key : IsWord k.key
  pub imported : IfSome k.imported (λ i. IsWord i.key)

-- the row of the book can be decoded: its name and its capacity are within their limits
pub record IsHeadDecodable (k : BookValue) : Type 0 where
  pub name : IsText most_name_bytes k.name × IsUtf8 k.name
  pub capacity : IsCapacity k.capacity

-- a number alone
abbrev pub number_cells : ℕ → Row
number_cells n = number n ∷ []

-- the largest number that SQL counts to: 2^63 - 1
abbrev pub most_counted : ℕ
most_counted = 9223372036854775807
