use Rattle.pawn_csv.proofs.Basics.{◌≡◌, ◌-◌, ◌++◌, take}
use Rattle.pawn_csv.specs.Rows.{empty_columns}
use Rattle.pawn_csv.specs.Spelling.{texts_of}
use Rattle.pawn_csv.specs.Types.{COLUMNS}
use Rattle.pawn_csv.proofs.row_writing.put_padded.Given as goal

abbrev pub invariant-loop-place : goal.invariant-loop-place
invariant-loop-place g l = record { row : texts_of l.row ≡ take l.place (texts_of l.columns) ++ empty_columns (COLUMNS - l.place) }
