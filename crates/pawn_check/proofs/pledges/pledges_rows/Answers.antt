use Rattle.pawn_book.proofs.Reading.{reads_as, reads_then}
use Rattle.pawn_check.proofs.Fronts.{front_all, front_next, handed_on}
use Rattle.std.proofs.Common.{rules, ◌≡◌, ◌≤◌, ◌<◌, Err, length, arith}
use Rattle.std.proofs.lemmas.Bool.Decides.{nat_tests}
use Rattle.pawn_check.proofs.pledges.pledges_rows.Goals as goal

pub returns-in_err-step-clause-reads : goal.returns-in_err-step-clause-reads
returns-in_err-step-clause-reads g c =
    let now : c.from_residual.result ≡ Err c.in_err-step.field-0.0 = search rules in
    reads_then c.loop-place.invariant.reads c.in_err-step.ensures.reads (λ h before said k is count_is.
    let within : c.in-Some.number ≤ length k.pledges = omega (arith, c.in-Some.ensures.some, c.loop-place-test.true, count_is) in
    handed_on h c.in_err-step.field-0.0 _ _ now (said k c.loop-place.place is c.in-Some.ensures.some within (before k is count_is).last))

pub loop-place-preserved : goal.loop-place-preserved
loop-place-preserved g c = record {
  reads = reads_then c.loop-place.invariant.reads c.in_ok-step.ensures.reads (λ h before said k is count_is.
      let within : c.in-Some.number ≤ length k.pledges = omega (arith, c.in-Some.ensures.some, c.loop-place-test.true, count_is) in
      let less : c.loop-place.place < length k.pledges = omega (arith, c.loop-place-test.true, count_is) in
      front_next k c.loop-place.place c.in-Some.number c.loop-place.version c.loop-place.rows c.in_ok-step.step.version c.in_ok-step.step.rows less
      c.in-Some.ensures.some (said k c.loop-place.place is c.in-Some.ensures.some within (before k is count_is).last) (before k is count_is));
  few = let more = c.in_ok-step.ensures.few in omega (arith, c.loop-place.invariant.few, more);
}

pub returns-clause-reads : goal.returns-clause-reads
returns-clause-reads g c =
    reads_as c.loop-place.invariant.reads (λ h before k is count_is.
    let all : c.loop-place.place ≡ length k.pledges = grind (arith, nat_tests, c.loop-place-test.false, c.loop-place.auto.place-end, count_is) in
    (c.loop-place.version, front_all k c.loop-place.place c.loop-place.version c.loop-place.rows all (before k is count_is)))
