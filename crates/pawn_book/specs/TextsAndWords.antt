-- The limits that the types of a record's texts, secrets and days keep.
use Rattle.pawn_book.specs.Common.{Each, IsUtf8, Issued, PledgeValue}
use Rattle.pawn_terms.specs.Calendar.{IsDayNumber}
use Rattle.std.specs.Prelude.{ℕ, ◌^◌, ◌<◌, List}

-- a key or a secret: a word of 128 bits
abbrev pub IsWord : ℕ → Type 0
IsWord n = n < 2 ^ 128

-- all of these secrets are words of 128 bits
abbrev pub AreWords : List Issued → Type 0
AreWords issued = Each (λ i. IsWord i.secret) issued

-- the texts of a pledge are UTF-8, its secrets are words, and the day on which it was taken is in range
pub record HasTextsAndWords (p : PledgeValue) : Type 0 where
  pub reference : IsUtf8 p.agreement.opening.reference
  pub article : IsUtf8 p.agreement.opening.article
  pub secrets : AreWords p.secrets
  pub taken : IsDayNumber p.agreement.taken
