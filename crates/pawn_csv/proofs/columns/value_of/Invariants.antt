use Rattle.pawn_csv.proofs.Basics.{◌≢◌, take}
use Rattle.pawn_csv.specs.Common.{Each}
use Rattle.pawn_csv.proofs.columns.value_of.Given as goal

abbrev pub invariant-loop-value : goal.invariant-loop-value
invariant-loop-value g l = record { others : Each (λ value. l.field ≢ g.A.ColumnWord.text value) (take l.value-index l.values) }
