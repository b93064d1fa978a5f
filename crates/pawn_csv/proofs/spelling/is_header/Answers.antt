use Rattle.pawn_csv.proofs.Basics.{◌≡◌, [], arith, length, refl, ext_get_or, nat_tests}
use Rattle.pawn_csv.specs.Common.{fields_of}
use Rattle.pawn_csv.specs.Rows.{header}
use Rattle.pawn_csv.specs.Types.{COLUMNS}
use Rattle.pawn_csv.proofs.spelling.is_header.Goals as goal

pub returns : goal.returns
returns c =
    let count = c.len.ensures in
    let other = c.if-len-ne-COLUMNS.false in
    let wide : length (fields_of c.args.columns.now) ≡ COLUMNS = grind (arith, nat_tests, count, other) in
    let over = c.loop-place-test.false in
    record {
      answer = (
        λ t. ext_get_or [] (fields_of c.args.columns.now) header wide
            (λ place inside. c.loop-place.invariant.so_far place (grind (arith, nat_tests, over, inside, wide))),
        λ is. refl,
      );
    }
