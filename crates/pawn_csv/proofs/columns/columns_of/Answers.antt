use Rattle.pawn_csv.proofs.Basics.{arith, nat_tests}
use Rattle.pawn_csv.proofs.PadLemmas.{next_padded}
use Rattle.pawn_csv.specs.Common.{fields_of}
use Rattle.pawn_csv.specs.Types.{COLUMNS}
use Rattle.pawn_csv.proofs.columns.columns_of.Goals as goal

pub loop-place-preserved : goal.loop-place-preserved
loop-place-preserved c =
    let test = c.loop-place-test.true in
    let wide = c.requires.wide in
    record {
      columns = next_padded c.loop-place.columns (fields_of c.args.fields.now) c.loop-place.place COLUMNS _
          (grind (arith, nat_tests, test, wide)) (omega (arith, wide)) c.column.ensures.value c.loop-place.invariant.columns;
    }
