-- The codes and names of the faults of a text that is not a book.
use Rattle.pawn_csv.specs.Types.{Cause}
use Rattle.std.specs.Prelude.{ℕ, List, codes}

-- a fault's code and its name
abbrev pub cause_row : Cause → ℕ × List ℕ
cause_row Cause.Csv = (601, codes "Csv")
cause_row Cause.Columns = (602, codes "Columns")
cause_row Cause.BadField = (603, codes "BadField")
cause_row Cause.Order = (604, codes "Order")
cause_row Cause.NotReplayable = (605, codes "NotReplayable")
cause_row Cause.TooMany = (606, codes "TooMany")
cause_row Cause.Read = (607, codes "Read")
cause_row Cause.Memory = (491, codes "Memory")

abbrev pub cause_code : Cause → ℕ
cause_code cause = (cause_row cause).0

abbrev pub cause_name : Cause → List ℕ
cause_name cause = (cause_row cause).1
