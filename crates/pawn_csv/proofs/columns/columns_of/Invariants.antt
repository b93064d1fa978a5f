use Rattle.pawn_csv.proofs.Basics.{◌≡◌, ◌-◌, ◌++◌, take}
use Rattle.pawn_csv.specs.Common.{fields_of}
use Rattle.pawn_csv.specs.Rows.{empty_columns}
use Rattle.pawn_csv.specs.Spelling.{texts_of}
use Rattle.pawn_csv.specs.Types.{COLUMNS}
use Rattle.pawn_csv.proofs.columns.columns_of.Given as goal

abbrev pub invariant-loop-place : goal.invariant-loop-place
invariant-loop-place l = record { columns : texts_of l.columns ≡ take l.place (fields_of l.fields) ++ empty_columns (COLUMNS - l.place) }
