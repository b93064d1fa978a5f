use Rattle.pawn_wire.proofs.HeadLemmas.{whole_head, told_by_fields, closed_by_fields, overflows_on, never_by_length}
use Rattle.pawn_wire.proofs.StreamLemmas.{head_within}
use Rattle.pawn_wire.specs.Head.{body_length, closes_by}
use Rattle.pawn_wire.specs.Limits.{most_fields, most_head}
use Rattle.std.proofs.Common.{arith, ◌≡◌, ◌≤◌, ◌∙◌, ap, refl, inl, inr}
use Rattle.pawn_wire.proofs.head.read_head.Goals as goal

pub returns-in-Ok-clause-head : goal.returns-in-Ok-clause-head
returns-in-Ok-clause-head c =
    let x = rw c.in-Ok-Complete.field-0-is at c.in-Ok-Complete.ensures.complete in
    let y = rw c.in-Ok-Complete.field-0-is at c.in-Ok-Complete.ensures.within in
    let within : c.min.result ≤ most_head = omega (arith, c.min.ensures) in
    let few : c.in-Ok-Complete.head.headers ≤ most_fields = let k = y.section.count_fits in let l = c.parse_request.auto in omega arith in (
      x.0,
      _,
      whole_head c.args.bytes.now c.min.result c.parse_request.new.headers c.in-Ok-Complete.head x.0 x.1 within few,
      record {
        len = x.1.len;
        body = told_by_fields c.args.bytes.now c.min.result c.parse_request.new.headers c.in-Ok-Complete.head x.0 _ x.1
            (c.in-Ok.ensures.value ∙ ap body_length c.new-fields.ensures.pairs);
        closes = closed_by_fields c.args.bytes.now c.min.result c.parse_request.new.headers c.in-Ok-Complete.head x.0 _ x.1
            (c.closes.ensures.value ∙ ap (closes_by c.in-Ok-Complete.head.version) c.new-fields.ensures.pairs);
      },
    )

pub returns-in-Ok-clause-within : goal.returns-in-Ok-clause-within
returns-in-Ok-clause-within c =
    let head = returns-in-Ok-clause-head c in
    head_within head.0 _ head.2.2 head.3

pub returns-in-Err-clause-head : goal.returns-in-Err-clause-head
returns-in-Err-clause-head c =
    let x = rw c.in-Ok-Complete.field-0-is at c.in-Ok-Complete.ensures.complete in
    let y = rw c.in-Ok-Complete.field-0-is at c.in-Ok-Complete.ensures.within in
    let within : c.min.result ≤ most_head = omega (arith, c.min.ensures) in
    let few : c.in-Ok-Complete.head.headers ≤ most_fields = let k = y.section.count_fits in let l = c.parse_request.auto in omega arith in
    inr (
      x.0,
      _,
      whole_head c.args.bytes.now c.min.result c.parse_request.new.headers c.in-Ok-Complete.head x.0 x.1 within few,
      told_by_fields c.args.bytes.now c.min.result c.parse_request.new.headers c.in-Ok-Complete.head x.0 _ x.1
          (c.in-Err.ensures.value ∙ ap body_length c.new-fields.ensures.pairs),
    )

pub returns-in_default-clause-head : goal.returns-in_default-clause-head
returns-in_default-clause-head c =
    let e = rw c.in-Ok-Partial.field-0-is at c.in-Ok-Partial.ensures.partial in
    let long = c.if-bytes-lt-MOST_HEAD.false in
    let full : c.min.result ≡ most_head = omega (arith, c.min.ensures) in
    inl (inr (long, never_by_length c.args.bytes.now long (rw full at e)), refl)

pub returns-in_default-2-clause-head : goal.returns-in_default-2-clause-head
returns-in_default-2-clause-head c =
    let e = rw c.in_default.is at c.parse_request.ensures.no_room in
    inl (inl (overflows_on c.args.bytes.now c.min.result e), refl)
