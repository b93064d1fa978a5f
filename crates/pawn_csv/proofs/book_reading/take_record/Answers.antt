use Rattle.pawn_csv.proofs.ReadLemmas.{placed_is}
use Rattle.pawn_csv.specs.Common.{fields_of}
use Rattle.pawn_csv.specs.Order.{begun_of}
use Rattle.pawn_csv.proofs.book_reading.take_record.Goals as goal

pub returns-in-Some : goal.returns-in-Some
returns-in-Some c = record {
  taking = placed_is c.args.first (fields_of c.args.columns.now) (begun_of c.args.raw.now)
      (begun_of c.accept.new.self) c.in-Some.row c.accept.result c.if-first.false (rw c.in-Some.is at c.in-Ok.ensures.value) c.accept.ensures.answer;
}
