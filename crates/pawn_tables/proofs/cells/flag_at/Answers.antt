use Rattle.pawn_tables.specs.Rows.{flag_number}
use Rattle.std.proofs.Common.{rules}
use Rattle.pawn_tables.proofs.cells.flag_at.Goals as goal

pub returns-in_err-number_at : goal.returns-in_err-number_at
returns-in_err-number_at c = record { read = λ b within is. let e = c.in_err-number_at.ensures.read (flag_number b) within is in search rules }
