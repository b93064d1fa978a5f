-- The reasons why a call on a debt is refused.
use Rattle.pawn_debt.specs.declared.fault.DebtFault.{DebtFault}
use Rattle.pawn_debt.specs.declared.fault.DebtFault.TheVariants.{BadAmount, FixedSum, OverLimit, OverOwing, EarlierDay}
use Rattle.pawn_debt.specs.declared.fault.DebtFault.TheVariants.{EntriesFull, Memory}
use Rattle.std.specs.Prelude.{ℕ, List, Option, Some, None, codes}

-- the code of the fault in replies
abbrev pub debt_fault_code : DebtFault → ℕ
debt_fault_code BadAmount = 201
debt_fault_code FixedSum = 202
debt_fault_code OverLimit = 203
debt_fault_code (OverOwing total) = 204
debt_fault_code EarlierDay = 205
debt_fault_code EntriesFull = 206
debt_fault_code Memory = 491

-- the name of the fault in replies
abbrev pub debt_fault_name : DebtFault → List ℕ
debt_fault_name BadAmount = codes "BadAmount"
debt_fault_name FixedSum = codes "FixedSum"
debt_fault_name OverLimit = codes "OverLimit"
debt_fault_name (OverOwing total) = codes "OverOwing"
debt_fault_name EarlierDay = codes "EarlierDay"
debt_fault_name EntriesFull = codes "EntriesFull"
debt_fault_name Memory = codes "Memory"

-- the sum owed, if the fault is a repayment above it
abbrev pub fault_total : DebtFault → Option ℕ
fault_total (OverOwing total) = Some total
fault_total other = None
