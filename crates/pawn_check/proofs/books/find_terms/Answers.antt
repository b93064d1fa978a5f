use Rattle.pawn_book.proofs.Reading.{reads_as, reads_then}
use Rattle.pawn_check.proofs.Fronts.{all_checked, next_checked}
use Rattle.std.proofs.Common.{◌≡◌, length, arith}
use Rattle.std.proofs.lemmas.Bool.Decides.{nat_tests}
use Rattle.pawn_check.proofs.books.find_terms.Goals as goal

pub loop-version-preserved : goal.loop-version-preserved
loop-version-preserved g c = record {
  reads = reads_then c.loop-version.invariant.reads c.in_ok-rates_under.ensures.reads (λ h before said k is.
      next_checked h c.args.book c.loop-version.version k c.in-Some.field-0 is (rw c.in-Some.is at said)
      (rw c.in-Some.is at c.in_ok-rates_under.ensures.checked) (before k is));
}

pub returns-clause-reads : goal.returns-clause-reads
returns-clause-reads g c =
    reads_as c.loop-version.invariant.reads (λ h before k is count_is.
    let all : c.loop-version.version ≡ length k.terms = grind (arith, nat_tests, c.loop-version-test.false, c.loop-version.auto.version-end, count_is) in
    all_checked k c.loop-version.version all (before k is))
