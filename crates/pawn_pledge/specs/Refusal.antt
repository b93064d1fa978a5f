-- The reasons why a command on a pledge is refused.
use Rattle.pawn_pledge.specs.Common.{DebtFault}
use Rattle.pawn_pledge.specs.declared.refusal.Refusal.{Refusal}
use Rattle.pawn_pledge.specs.declared.refusal.Refusal.TheVariants.{Debt, SeqTaken, SeqAhead, Held, Passed, Closed}
use Rattle.pawn_pledge.specs.declared.refusal.Refusal.TheVariants.{NotRealisable, NotSmall, SecretUsed}
use Rattle.pawn_pledge.specs.declared.refusal.Refusal.TheVariants.{DeclarationsFull, WrongAmount, NoBooking, BookingDay}
use Rattle.pawn_pledge.specs.declared.refusal.Refusal.TheVariants.{BadWindow, PeriodOver, NotLater, ExtensionsFull}
use Rattle.std.specs.Prelude.{List, None, Option, Some, codes, ℕ}
use Rattle.pawn_debt.specs.DebtFault as debt

-- the code of the refusal in replies
abbrev pub pledge_refusal_code : Refusal → ℕ
pledge_refusal_code (Debt fault) = debt.debt_fault_code fault
pledge_refusal_code SeqTaken = 301
pledge_refusal_code SeqAhead = 302
pledge_refusal_code Held = 303
pledge_refusal_code Passed = 304
pledge_refusal_code Closed = 305
pledge_refusal_code NotRealisable = 306
pledge_refusal_code NotSmall = 307
pledge_refusal_code SecretUsed = 308
pledge_refusal_code DeclarationsFull = 309
pledge_refusal_code (WrongAmount total) = 310
pledge_refusal_code NoBooking = 311
pledge_refusal_code BookingDay = 312
pledge_refusal_code BadWindow = 313
pledge_refusal_code PeriodOver = 314
pledge_refusal_code NotLater = 315
pledge_refusal_code ExtensionsFull = 316
pledge_refusal_code Refusal.Memory = 491

-- the name of the refusal in replies
abbrev pub pledge_refusal_name : Refusal → List ℕ
pledge_refusal_name (Debt fault) = debt.debt_fault_name fault
pledge_refusal_name SeqTaken = codes "SeqTaken"
pledge_refusal_name SeqAhead = codes "SeqAhead"
pledge_refusal_name Held = codes "Held"
pledge_refusal_name Passed = codes "Passed"
pledge_refusal_name Closed = codes "Closed"
pledge_refusal_name NotRealisable = codes "NotRealisable"
pledge_refusal_name NotSmall = codes "NotSmall"
pledge_refusal_name SecretUsed = codes "SecretUsed"
pledge_refusal_name DeclarationsFull = codes "DeclarationsFull"
pledge_refusal_name (WrongAmount total) = codes "WrongAmount"
pledge_refusal_name NoBooking = codes "NoBooking"
pledge_refusal_name BookingDay = codes "BookingDay"
pledge_refusal_name BadWindow = codes "BadWindow"
pledge_refusal_name PeriodOver = codes "PeriodOver"
pledge_refusal_name NotLater = codes "NotLater"
pledge_refusal_name ExtensionsFull = codes "ExtensionsFull"
pledge_refusal_name Refusal.Memory = codes "Memory"

-- the sum owed, if the refusal reports it
abbrev pub refusal_total : Refusal → Option ℕ
refusal_total (Debt fault) = debt.fault_total fault
refusal_total (WrongAmount total) = Some total
refusal_total other = None

-- the pledge's refusal for a refusal of its debt; out of memory is one refusal for both
abbrev pub refusal_of : DebtFault → Refusal
refusal_of DebtFault.Memory = Refusal.Memory
refusal_of fault = Debt fault
