-- Worked examples of debts.
use Rattle.pawn_debt.specs.Answers.{draw_answer, repay_answer, start_answer, with_entry}
use Rattle.pawn_debt.specs.Due.{Due, DebtValue, due, after_days}
use Rattle.pawn_debt.specs.Kept.{totals_of}
use Rattle.pawn_debt.specs.Owing.{owing_of}
use Rattle.pawn_debt.specs.declared.entry.Kind.{Kind}
use Rattle.pawn_debt.specs.declared.entry.Kind.TheVariants.{Fixed, Running}
use Rattle.pawn_debt.specs.declared.entry.Sort.TheVariants.{Draw, Repay}
use Rattle.pawn_debt.specs.declared.fault.DebtFault.TheVariants.{BadAmount, FixedSum, OverLimit, OverOwing, EarlierDay}
use Rattle.pawn_debt.specs.declared.fault.DebtFault.TheVariants.{EntriesFull}
use Rattle.pawn_debt.specs.declared.owing.Owing.{Owing}
use Rattle.pawn_terms.specs.Calendar.{six_months}
use Rattle.pawn_terms.specs.Terms.{rates_of}
use Rattle.pawn_terms.specs.Worked.{date}
use Rattle.pawn_terms.specs.declared.terms.Rates.{Rates}
use Rattle.std.specs.List.{repeat}
use Rattle.std.specs.Prelude.{◌≡◌, ℕ, ◌-◌, [], ◌∷◌, Ok, Err}

-- terms without any charge
abbrev pub free : Rates
free = rates_of 0 0 0

-- a new debt for six months, without entries
abbrev pub six_month_debt : Kind → Rates → ℕ → DebtValue
six_month_debt kind terms taken = record { kind = kind; terms = terms; taken = taken; ends = six_months taken; entries = [] }

-- pence and millionths of a penny
abbrev pub pence_and_millionths : ℕ → ℕ → Due
pence_and_millionths principal charges = record { principal = principal; millionths = charges }

-- the sum owed in whole pence, as replies show it
abbrev pub owed : ℕ → ℕ → ℕ → Owing
owed principal charges total = record { principal = principal; charges = charges; total = total }

-- 100 pounds at 2,667 millionths a day
abbrev pub at_interest : DebtValue
at_interest = six_month_debt (Fixed 10000) (rates_of 2667 0 0) (date 2024 1 1)

-- interest runs from the day after the day taken, and is rounded down to whole pence only when it is shown
abbrev pub WorkedInterest : Type 0
WorkedInterest =
    (due at_interest (date 2024 1 1) ≡ pence_and_millionths 10000 0)
    × (due at_interest (date 2024 1 2) ≡ pence_and_millionths 10000 26670000)
    × (due at_interest (date 2024 1 31) ≡ pence_and_millionths 10000 800100000)
    × (owing_of (due at_interest (date 2024 1 2)) ≡ owed 10000 26 10026)
    × (owing_of (due at_interest (date 2024 1 31)) ≡ owed 10000 800 10800)

-- the same after a repayment of ten pounds
abbrev pub part_repayment : DebtValue
part_repayment = with_entry at_interest (date 2024 1 31) Repay 1000

-- a repayment pays whole pence of charges first, and the fraction of a penny stays
abbrev pub WorkedRepayments : Type 0
WorkedRepayments =
    (repay_answer at_interest (date 2024 1 31) 1000 ≡ Ok part_repayment)
    × (due part_repayment (date 2024 1 31) ≡ pence_and_millionths 9800 100000)
    × (owing_of (due part_repayment (date 2024 3 1)) ≡ owed 9800 784 10584)
    × (due (with_entry at_interest (date 2024 1 31) Repay 10800) (date 2024 2 29) ≡ pence_and_millionths 0 100000)
    × (repay_answer at_interest (date 2024 1 31) 10801 ≡ Err (OverOwing 10800))
    × (repay_answer at_interest (date 2024 1 31) 0 ≡ Err BadAmount)
    × (repay_answer at_interest (date 2024 1 31) 100000001 ≡ Err BadAmount)
    × (repay_answer part_repayment (date 2024 1 30) 0 ≡ Err EarlierDay)

-- the totals that are stored on the day of the last entry, and carried forward from there
abbrev pub WorkedTotals : Type 0
WorkedTotals =
    (totals_of at_interest ≡ record { day = date 2024 1 1; principal = 10000; millionths = 0 })
    × (totals_of part_repayment ≡ record { day = date 2024 1 31; principal = 9800; millionths = 100000 })
    × (owing_of
    (after_days (rates_of 2667 0 0) (date 2024 7 1) (date 2024 1 31) (date 2024 3 1 - date 2024 1 31) (pence_and_millionths 9800 100000)) ≡ owed 9800 784 10584)

-- a debt with safe keeping at a penny a day up to the end, and half a penny after it
abbrev pub in_safe_keeping : DebtValue
in_safe_keeping = six_month_debt (Fixed 10000) (rates_of 0 1000000 500000) (date 2024 1 31)

-- the same with the period extended to 2024-09-30
abbrev pub longer_keeping : DebtValue
longer_keeping = record in_safe_keeping { ends = date 2024 9 30 }

-- the charge for safe keeping changes after the end of the period
abbrev pub WorkedSafeKeeping : Type 0
WorkedSafeKeeping =
    (owing_of (due in_safe_keeping (date 2024 7 31)) ≡ owed 10000 182 10182)
    × (owing_of (due in_safe_keeping (date 2024 8 10)) ≡ owed 10000 187 10187)
    × (repay_answer in_safe_keeping (date 2024 8 10) 10188 ≡ Err (OverOwing 10187))
    × (owing_of (due longer_keeping (date 2024 8 10)) ≡ owed 10000 192 10192)

-- a running account with a limit of 50 pounds
abbrev pub account : DebtValue
account = six_month_debt (Running 5000) free (date 2024 1 31)

-- the account after a drawing of 30 pounds
abbrev pub drawn_in_part : DebtValue
drawn_in_part = with_entry account (date 2024 1 31) Draw 3000

-- the account with the most entries that a debt may have
abbrev pub full_account : DebtValue
full_account = record account { entries = repeat 9999 (record { seq = 1; day = date 2024 1 31; sort = Draw; pence = 1 } ∷ []) }

-- a full account accepts neither a drawing nor a repayment
abbrev pub WorkedFullness : Type 0
WorkedFullness =
    (draw_answer full_account (date 2024 1 31) 1 ≡ Err EntriesFull)
    × (repay_answer full_account (date 2024 1 31) 1 ≡ Err EntriesFull)

-- drawings are accepted up to the limit, and only on a running account
abbrev pub WorkedDrawings : Type 0
WorkedDrawings =
    (draw_answer account (date 2024 1 31) 3000 ≡ Ok drawn_in_part)
    × (draw_answer drawn_in_part (date 2024 1 31) 2001 ≡ Err OverLimit)
    × (draw_answer drawn_in_part (date 2024 1 31) 2000 ≡ Ok (with_entry drawn_in_part (date 2024 1 31) Draw 2000))
    × (due (with_entry drawn_in_part (date 2024 1 31) Draw 2000) (date 2024 1 31) ≡ pence_and_millionths 5000 0)
    × (draw_answer account (date 2024 1 31) 0 ≡ Err BadAmount)
    × (draw_answer in_safe_keeping (date 2024 1 31) 0 ≡ Err FixedSum)
    × (draw_answer in_safe_keeping (date 2024 1 30) 0 ≡ Err EarlierDay)

-- a sum or a limit is at least a penny, and at most a million pounds
abbrev pub WorkedStarts : Type 0
WorkedStarts =
    (start_answer (Fixed 0) free (date 2024 1 31) (date 2024 7 31) ≡ Err BadAmount)
    × (start_answer (Running 100000001) free (date 2024 1 31) (date 2024 7 31) ≡ Err BadAmount)
    × (start_answer (Fixed 100000000) free (date 2024 1 31) (date 2024 7 31) ≡ Ok (six_month_debt (Fixed 100000000) free (date 2024 1 31)))
