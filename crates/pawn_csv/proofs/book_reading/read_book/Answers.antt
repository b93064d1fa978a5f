use Rattle.pawn_csv.proofs.BookLemmas.{text_is}
use Rattle.pawn_csv.proofs.ReadLemmas.{bom_passed, end_fault}
use Rattle.pawn_csv.specs.Order.{begun_of}
use Rattle.pawn_csv.specs.Reading.{IsFaultOf}
use Rattle.std.proofs.Common.{◌≡◌, Err, rules}
use Rattle.pawn_csv.proofs.book_reading.read_book.Goals as goal

pub returns-in_err-row-clause-fault : goal.returns-in_err-row-clause-fault
returns-in_err-row-clause-fault g c =
    let f = c.in_err-row.field-0.0 in
    let said : c.from_residual.result ≡ Err f = search rules in
    rw said (bom_passed (g.R.Read.remaining c.args.reader) (λ text. IsFaultOf text f.cause f.row)
    (rw c.from_reader-csv_reader.ensures.source at c.in_err-row.ensures.fault))

pub returns : goal.returns
returns g c =
    let o = g.R.Read.remaining c.args.reader in
    let ends = rw c.from_reader-csv_reader.ensures.source at c.in_ok-row.ensures.taken in
    record {
      found = text_is o (begun_of c.take_records.new.raw) c.in_ok-row.row c.finish_text.result ends c.finish_text.ensures.found;
      fault = end_fault o (begun_of c.take_records.new.raw) c.in_ok-row.row c.finish_text.result ends c.finish_text.ensures.fault;
    }
