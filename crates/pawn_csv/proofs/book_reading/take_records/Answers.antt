use Rattle.pawn_csv.proofs.Basics.{◌≡◌, ◌∙◌, ◌+◌, [], refl, sym, subst, arith}
use Rattle.pawn_csv.proofs.ReadLemmas.{so_far_before, so_far_more, so_far_end, so_far_refused, EndsAt, where_told}
use Rattle.pawn_csv.proofs.ReadLemmas.{reader_fault}
use Rattle.pawn_csv.specs.Common.{Reached, fields_of, source_of}
use Rattle.pawn_csv.specs.Order.{begun_of}
use Rattle.pawn_csv.specs.Reading.{AreTakenBefore, IsFaultOf}
use Rattle.pawn_csv.specs.Types.{Cause}
use Rattle.pawn_csv.proofs.book_reading.take_records.Goals as goal

pub loop-index-init : goal.loop-index-init
unfolding Reached
loop-index-init g c = record {
  trim = c.requires.trim;
  ready = c.requires.ready;
  config = c.requires.config;
  flexible = c.requires.flexible;
  so_far = λ text told. record {
    rest = text;
    source = told;
    records = [];
    rows = [];
    reached = (sym c.requires.state, refl);
    taken = (refl, c.requires.begun);
    count = refl;
  };
}

pub loop-index-preserved : goal.loop-index-preserved
loop-index-preserved g c =
    let inv = c.loop-index.invariant in
    let on = (rw c.in-Ok-true.is at c.read_byte_record.ensures.reads_on) c.in-Ok-true.field-0-test in
    let reads = rw c.in-Ok-true.field-0-test at ((rw c.in-Ok-true.is at c.read_byte_record.ensures.reads) inv.trim inv.ready) in
    record {
      trim = on.1 ∙ inv.trim;
      ready = (on.4 inv.ready).0;
      config = on.0 ∙ inv.config;
      flexible = on.2 ∙ inv.flexible;
      so_far = λ text told. so_far_more tt g.R.Read.remaining text c.loop-index.csv_reader c.read_byte_record.new.self c.loop-index.index
          (fields_of c.read_byte_record.new.row) (begun_of c.loop-index.raw) (begun_of c.take_record.new.raw) inv.config
          (inv.so_far text told) reads c.in-Ok.ensures.taking;
    }

pub returns-in-Ok-false-clause-taken : goal.returns-in-Ok-false-clause-taken
returns-in-Ok-false-clause-taken g c =
    let inv = c.loop-index.invariant in
    let reads = rw c.in-Ok-false.field-0-test at ((rw c.in-Ok-false.is at c.read_byte_record.ensures.reads) inv.trim inv.ready) in
    where_told (source_of g.R.Read.remaining c.args.csv_reader.now) (λ text. EndsAt text (begun_of c.loop-index.raw) (c.loop-index.index + 1))
    (λ text told. so_far_end g.R.Read.remaining text c.loop-index.csv_reader c.read_byte_record.new.self c.loop-index.index
    (fields_of c.read_byte_record.new.row) (begun_of c.loop-index.raw) inv.config (inv.so_far text told) reads)

pub returns-in-Err-take_record-clause-fault : goal.returns-in-Err-take_record-clause-fault
returns-in-Err-take_record-clause-fault g c =
    let inv = c.loop-index.invariant in
    let reads = rw c.in-Ok-true.field-0-test at ((rw c.in-Ok-true.is at c.read_byte_record.ensures.reads) inv.trim inv.ready) in
    let refused = rw c.in-Err-take_record.is at c.take_record.ensures.taking in
    where_told (source_of g.R.Read.remaining c.args.csv_reader.now) (λ text. IsFaultOf text c.in-Err-take_record.cause (c.loop-index.index + 1))
    (λ text told. so_far_refused g.R.Read.remaining text c.loop-index.csv_reader c.read_byte_record.new.self c.loop-index.index
    (fields_of c.read_byte_record.new.row) (begun_of c.loop-index.raw) (begun_of c.take_record.new.raw) c.in-Err-take_record.cause inv.config
    (inv.so_far text told) reads refused)

pub returns-in-Err-clause-fault : goal.returns-in-Err-clause-fault
returns-in-Err-clause-fault g c =
    let inv = c.loop-index.invariant in
    let why = (rw c.in-Err.is at c.read_byte_record.ensures.why) inv.ready in
    where_told (source_of g.R.Read.remaining c.args.csv_reader.now) (λ text. IsFaultOf text c.cause_of-cause.result (c.loop-index.index + 1))
    (λ text told. reader_fault g.R.Read.remaining text c.loop-index.csv_reader c.read_byte_record.new.self c.loop-index.index
    (begun_of c.loop-index.raw) c.in-Err.error.kind c.cause_of-cause.result inv.flexible (inv.so_far text told) why c.cause_of-cause.ensures.cause)

pub returns-clause-fault : goal.returns-clause-fault
returns-clause-fault g c =
    let inv = c.loop-index.invariant in
    let ended : c.loop-index.index + 1 ≡ 18446744073709551615 = omega arith in
    where_told (source_of g.R.Read.remaining c.args.csv_reader.now) (λ text. IsFaultOf text Cause.Memory 18446744073709551615)
    (λ text told. subst (AreTakenBefore text) ended
    (so_far_before g.R.Read.remaining text c.loop-index.csv_reader c.loop-index.index (begun_of c.loop-index.raw) (inv.so_far text told)))
