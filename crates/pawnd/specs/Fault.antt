-- How the program prints why it did not do what it was asked.
use Rattle.pawn_check.specs.declared.fault.CheckFault.{CheckFault}
use Rattle.pawn_move.specs.declared.fault.MoveFault.{MoveFault}
use Rattle.pawn_opening.specs.declared.fault.OpenFault.{OpenFault}
use Rattle.pawn_program.specs.declared.fault.SettingsFault.{SettingsFault}
use Rattle.pawnd.specs.declared.fault.Fault.{Fault}
use Rattle.pawnd.specs.declared.fault.Fault.TheVariants.{Settings, Memory, Opening, Checking, Moving}
use Rattle.std.specs.Prelude.{ℕ, List, codes}
use Rattle.pawn_opening.specs.declared.fault.OpenFault.TheVariants as Open
use Rattle.pawn_check.specs.declared.fault.CheckFault.TheVariants as Check
use Rattle.pawn_move.specs.declared.fault.MoveFault.TheVariants as Move
use Rattle.pawn_program.specs.declared.fault.SettingsFault.TheVariants as Said

-- the code and name of a fault in a word of the command line
abbrev pub settings_line : SettingsFault → List ℕ
settings_line Said.BadDay = codes "101 BadDay"
settings_line Said.Memory = codes "491 Memory"
settings_line Said.BadSeed = codes "801 BadSeed"
settings_line Said.BadPort = codes "802 BadPort"
settings_line Said.BadKey = codes "803 BadKey"

-- the code and name of the reason why a database is not opened
abbrev pub opening_line : OpenFault → List ℕ
opening_line (Open.OldSchema schema) = codes "501 OldSchema"
opening_line Open.NotOurs = codes "502 NotOurs"
opening_line Open.Store = codes "503 Store"
opening_line Open.Memory = codes "504 Memory"

-- the code and name of the reason why a check does not end with counts
abbrev pub checking_line : CheckFault → List ℕ
checking_line Check.Memory = codes "491 Memory"
checking_line Check.Store = codes "492 Store"
checking_line Check.Damaged = codes "513 Damaged"

-- the code and name of the reason why a database is not migrated to the program's schema
abbrev pub moving_line : MoveFault → List ℕ
moving_line Move.NewerSchema = codes "511 NewerSchema"
moving_line Move.NotOurs = codes "512 NotOurs"
moving_line Move.Damaged = codes "513 Damaged"
moving_line Move.Store = codes "514 Store"
moving_line Move.Memory = codes "515 Memory"

-- a fault's code and name
abbrev pub fault_line : Fault → List ℕ
fault_line (Settings why) = settings_line why
fault_line Memory = codes "491 Memory"
fault_line (Opening why) = opening_line why
fault_line (Checking why) = checking_line why
fault_line (Moving why) = moving_line why
