use Rattle.pawn_csv.proofs.Basics.{arith, nat_tests, sym}
use Rattle.pawn_csv.proofs.PadLemmas.{next_padded}
use Rattle.pawn_csv.proofs.RowLemmas.{named}
use Rattle.pawn_csv.specs.Spelling.{texts_of}
use Rattle.pawn_csv.specs.Types.{COLUMNS}
use Rattle.std.proofs.lemmas.List.{length-map}
use Rattle.std.specs.Borrow.{Bor}
use Rattle.pawn_csv.proofs.row_writing.put_padded.Goals as goal

pub loop-place-preserved : goal.loop-place-preserved
loop-place-preserved g c =
    let test = c.loop-place-test.true in
    let size = length-map c.args.columns.now (λ (column : Bor _). column.now) in
    record {
      row = next_padded c.loop-place.row (texts_of c.args.columns.now) c.loop-place.place COLUMNS _
          (grind (arith, nat_tests, test, size)) (omega (arith, size, c.requires.few)) (sym (named c.args.columns.now c.loop-place.place))
          c.loop-place.invariant.row;
    }
