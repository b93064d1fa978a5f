-- The codes and names of the faults of bytes that are not a valid request.
use Rattle.pawn_csv.specs.Fault.{cause_row}
use Rattle.pawn_reply.specs.Common.{Cause, CsvFault}
use Rattle.pawn_reply.specs.Types.{Detail, HeadFault, Row, WireFault}
use Rattle.pawn_reply.specs.declared.fault.WireFault.TheVariants.{BadHead, Transfer, BadLength, BodyTooLong, NoRoute}
use Rattle.pawn_reply.specs.declared.fault.WireFault.TheVariants.{WrongMethod, BadBody, BadKey, BadReceipt}
use Rattle.pawn_reply.specs.declared.fault.WireFault.TheVariants.{TooManyReceipts, NoReceipt, Csv, Memory}
use Rattle.std.specs.Prelude.{List, None, Option, Some, codes, ℕ}

-- a fault's code and its name
abbrev pub wire_fault_row : WireFault → ℕ × List ℕ
wire_fault_row BadHead = (701, codes "BadHead")
wire_fault_row Transfer = (703, codes "Transfer")
wire_fault_row BadLength = (704, codes "BadLength")
wire_fault_row BodyTooLong = (705, codes "BodyTooLong")
wire_fault_row NoRoute = (706, codes "NoRoute")
wire_fault_row WrongMethod = (707, codes "WrongMethod")
wire_fault_row BadBody = (708, codes "BadBody")
wire_fault_row BadKey = (709, codes "BadKey")
wire_fault_row BadReceipt = (710, codes "BadReceipt")
wire_fault_row TooManyReceipts = (711, codes "TooManyReceipts")
wire_fault_row NoReceipt = (712, codes "NoReceipt")
wire_fault_row (Csv fault) = cause_row fault.cause
wire_fault_row Memory = (491, codes "Memory")

abbrev pub wire_fault_code : WireFault → ℕ
wire_fault_code fault = (wire_fault_row fault).0

abbrev pub wire_fault_name : WireFault → List ℕ
wire_fault_name fault = (wire_fault_row fault).1

-- what a reply states besides the fault's code and name: the row, for a fault of a text
abbrev pub detail_of : WireFault → Option Detail
detail_of (Csv fault) = Some (Row fault.row)
detail_of other = None

-- a head's fault as a fault of a request
abbrev pub wire_fault : HeadFault → WireFault
wire_fault HeadFault.BadHead = BadHead
wire_fault HeadFault.Transfer = Transfer
wire_fault HeadFault.BadLength = BadLength
wire_fault HeadFault.BodyTooLong = BodyTooLong

-- a text's fault as a fault of a request; bytes in memory can always be read, so `Read` counts as memory that ran out
abbrev pub fault_by : Cause → CsvFault → WireFault
fault_by Cause.Memory fault = Memory
fault_by Cause.Read fault = Memory
fault_by cause fault = Csv fault

-- a text's fault as a fault of a request
abbrev pub text_fault : CsvFault → WireFault
text_fault fault = fault_by fault.cause fault
