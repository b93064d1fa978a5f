use Rattle.pawn_wire.proofs.HeadLemmas.{whole_head}
use Rattle.pawn_wire.proofs.RequestLemmas.{is_read, said_by_spans, none_in_front, none_by_overflow}
use Rattle.pawn_wire.specs.Chain.{OrMemory}
use Rattle.pawn_wire.specs.Fields.{pairs_of}
use Rattle.pawn_wire.specs.Limits.{most_fields, most_head}
use Rattle.pawn_wire.specs.Request.{IsOutlined, outline_by}
use Rattle.std.proofs.Common.{arith, ◌≤◌, refl, inr, length, ◌-◌, take, drop}
use Rattle.pawn_wire.proofs.request.read_request.Goals as goal

pub returns-in-Ok-Complete : goal.returns-in-Ok-Complete
returns-in-Ok-Complete c =
    let x = rw c.in-Ok-Complete.field-0-is at c.in-Ok-Complete.ensures.complete in
    let y = rw c.in-Ok-Complete.field-0-is at c.in-Ok-Complete.ensures.within in
    let within : c.min.result ≤ most_head = omega (arith, c.min.ensures) in
    let few : c.in-Ok-Complete.head.headers ≤ most_fields = let k = y.section.count_fits in let l = c.parse_request.auto in omega arith in
    let body = take (length c.args.bytes.now - c.in-Ok-Complete.head.len) (drop c.in-Ok-Complete.head.len c.args.bytes.now) in
    let says : OrMemory (IsOutlined body (outline_by c.of.result.now c.of-in-Ok-Complete.result.now (pairs_of c.new-fields.result) body)) c.request_by.result =
    c.request_by.ensures.value in
    let m = c.of.ensures in
    let p = c.of-in-Ok-Complete.ensures in
    let pairs = c.new-fields.ensures.pairs in
    record {
      read = is_read c.args.bytes.now c.request_by.result x.0 _
          (whole_head c.args.bytes.now c.min.result c.parse_request.new.headers c.in-Ok-Complete.head x.0 x.1 within few) (said_by_spans c.args.bytes.now
          c.min.result c.parse_request.new.headers c.in-Ok-Complete.head x.0 c.request_by.result x.1 y.section.len_fits (rw (m, p, pairs) at says));
    }

pub returns-in-Ok-Partial : goal.returns-in-Ok-Partial
returns-in-Ok-Partial c =
    let e = rw c.in-Ok-Partial.field-0-is at c.in-Ok-Partial.ensures.partial in
    record { read = inr (inr (none_in_front c.args.bytes.now c.min.result c.min.ensures e, refl)) }

pub returns-in-Err : goal.returns-in-Err
returns-in-Err c = record { read = inr (inr (none_by_overflow c.args.bytes.now c.min.result c.in-Err.ensures.no_room, refl)) }
