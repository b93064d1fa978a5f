-- Entries that the rules accept in turn.
use Rattle.pawn_debt.specs.Answers.{draw_answer, repay_answer}
use Rattle.pawn_debt.specs.Due.{DebtValue, credit_of}
use Rattle.pawn_debt.specs.Limits.{most_pence}
use Rattle.pawn_debt.specs.declared.entry.Entry.{Entry}
use Rattle.pawn_debt.specs.declared.entry.Sort.{Sort}
use Rattle.pawn_debt.specs.declared.entry.Sort.TheVariants.{Draw, Repay}
use Rattle.pawn_debt.specs.declared.fault.DebtFault.{DebtFault}
use Rattle.std.specs.Prelude.{◌≡◌, ℕ, ◌+◌, ◌≤◌, List, [], ◌∷◌, ◌++◌, length, Result, IsOk}

-- the answer of the rules to a drawing or a repayment
abbrev pub sort_answer : Sort → DebtValue → ℕ → ℕ → Result DebtValue DebtFault
sort_answer Draw p day pence = draw_answer p day pence
sort_answer Repay p day pence = repay_answer p day pence

-- the rules accept an entry: it has the next number and is not refused
abbrev pub IsEntryAccepted : DebtValue → Entry → Type 0
IsEntryAccepted p e = (e.seq ≡ length p.entries + 1) × IsOk (sort_answer e.sort p e.day e.pence)

-- the rules accept each entry in turn, after those before it
abbrev pub AreEntriesAccepted : DebtValue → List Entry → List Entry → Type 0
AreEntriesAccepted debt prior [] = Unit {0}
AreEntriesAccepted debt prior (e ∷ es) =
    IsEntryAccepted (record debt { entries = prior }) e × AreEntriesAccepted debt (prior ++ e ∷ []) es

-- a reachable debt: its sum or limit is in range, and the rules accept its entries in turn
abbrev pub IsReachableDebt : DebtValue → Type 0
IsReachableDebt p = (1 ≤ credit_of p.kind) × (credit_of p.kind ≤ most_pence) × AreEntriesAccepted p [] p.entries
