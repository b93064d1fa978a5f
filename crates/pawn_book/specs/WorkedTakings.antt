-- Worked examples of the next pledge of a book: its number, and the refusals in their order.
use Rattle.pawn_book.specs.BookStep.{next_pledge}
use Rattle.pawn_book.specs.Common.{Fixed, PledgeValue, Rates, free}
use Rattle.pawn_book.specs.WorkedSlots.{at}
use Rattle.pawn_book.specs.declared.refusal.Refusal.{Refusal}
use Rattle.pawn_book.specs.declared.refusal.Refusal.TheVariants.{NoTerms, Pledge, PledgesFull}
use Rattle.pawn_debt.specs.declared.fault.DebtFault.TheVariants.{BadAmount}
use Rattle.pawn_pledge.specs.declared.refusal.Refusal.TheVariants.{Debt}
use Rattle.std.specs.Prelude.{◌≡◌, ℕ, Option, Some, None, Result, Ok, Err, false, codes}

-- the number of a pledge that was taken, or the refusal
abbrev pub number_or_refusal : Result PledgeValue Refusal → Result ℕ Refusal
number_or_refusal (Ok p) = Ok p.agreement.number
number_or_refusal (Err why) = Err why

-- the number of the ring for this sum, in a book with this many pledges and these newest terms, or the refusal
abbrev pub taking : ℕ → ℕ → Option Rates → Result ℕ Refusal
taking pledges pence newest = number_or_refusal (next_pledge
    (record { key = 5; name = codes "High Street"; capacity = 1; terms = 1; pledges = pledges; imported = None })
    (record { reference = codes "A1"; article = codes "Gold ring"; kind = Fixed pence; agreed = None; five_days = false })
    (at 1) newest)

-- pledges are numbered from 1, without gaps, up to the greatest number
pub record WorkedTakings : Type 0 where
  pub first : taking 0 10000 (Some free) ≡ Ok 1
  pub last : taking 999999 10000 (Some free) ≡ Ok 1000000
  pub full : taking 1000000 10000 (Some free) ≡ Err PledgesFull
  -- a book without terms is refused first, then a bad sum, then a full book
  pub terms_when_full : taking 1000000 0 None ≡ Err NoTerms
  pub amount_when_full : taking 1000000 0 (Some free) ≡ Err (Pledge (Debt BadAmount))
