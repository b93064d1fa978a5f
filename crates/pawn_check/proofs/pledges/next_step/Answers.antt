use Rattle.pawn_book.proofs.Reading.{reads_as, reads_both, reads_then}
use Rattle.pawn_book.specs.Sound.{HasUnsoundBook}
use Rattle.pawn_check.proofs.Fronts.{both_ways, falls_below, handed_on, unfit_at}
use Rattle.pawn_check.proofs.pledges.next_step.Goals.{then-not-under-via-then-not-under}
use Rattle.pawn_check.proofs.pledges.next_step.Goals.{then-not-under-via-else-not-under+then-not-first}
use Rattle.pawn_check.proofs.pledges.next_step.Goals.{then-ne-via-then-ne, then-ne-via-else-ne+then-next-version}
use Rattle.pawn_pledge.specs.declared.record.Agreement.{Agreement}
use Rattle.std.proofs.Common.{rules, ◌≡◌, ◌≤◌, ℕ, Err, ap, arith}
use Rattle.std.proofs.lemmas.Bool.Decides.{nat_tests}
use Rattle.pawn_check.proofs.pledges.next_step.Goals as goal

pub returns-then-ne-clause-reads : goal.returns-then-ne-clause-reads
returns-then-ne-clause-reads g c =
    reads_as c.in_ok-pledge.ensures.reads (λ h said k place is next within last.
    let at = said k is within in
    let n : ℕ = c.args.number in
    elim c.then-ne.branch as (λ _. HasUnsoundBook h) [
      | then-ne-via-then-ne w ↦
          unfit_at h c.args.book n k c.in_ok-pledge.pledge is at
          (λ fits. let other = rw (c.agreement-agreement.ensures.value) at w.if-ne.ensures in grind (arith, nat_tests, fits.number, other))
      | then-ne-via-else-ne+then-next-version w ↦ falls_below h c.args.book place n c.args.version k c.in_ok-pledge.pledge is next at last
          (rw (c.agreement-agreement.ensures.value) at w.if-next-version.true)
    ])

pub returns-in_err-under-clause-reads : goal.returns-in_err-under-clause-reads
returns-in_err-under-clause-reads g c =
    let now : c.from_residual-in_err-under.result ≡ Err c.in_err-under.field-0.0 = search rules in
    reads_then c.in_ok-pledge.ensures.reads c.in_err-under.ensures.reads
    (λ h before said k place is next within last. handed_on h c.in_err-under.field-0.0 _ _ now (said k is))

pub returns-in_err-first-clause-reads : goal.returns-in_err-first-clause-reads
returns-in_err-first-clause-reads g c =
    let now : c.from_residual-in_err-first.result ≡ Err c.in_err-first.field-0.0 = search rules in
    reads_then (reads_both c.in_ok-pledge.ensures.reads c.in_ok-under.ensures.reads) c.in_err-first.ensures.reads
    (λ h before said k place is next within last. handed_on h c.in_err-first.field-0.0 _ _ now (said k is))

pub returns-then-not-under-clause-reads : goal.returns-then-not-under-clause-reads
returns-then-not-under-clause-reads g c =
    reads_then (reads_both c.in_ok-pledge.ensures.reads c.in_ok-under.ensures.reads) c.in_ok-first.ensures.reads (λ h both said k place is next within last.
    let at = both.0 k is within in
    let n : ℕ = c.args.number in
    elim c.then-not-under.branch as (λ _. HasUnsoundBook h) [
      | then-not-under-via-then-not-under w ↦ unfit_at h c.args.book n k c.in_ok-pledge.pledge is at
          (λ fits. let holds = (both.1 k is).1 fits.under in let not' = w.if-not-under.true in both_ways _ holds not')
      | then-not-under-via-else-not-under+then-not-first w ↦ unfit_at h c.args.book n k c.in_ok-pledge.pledge is at
          (λ fits. let holds = (rw (c.agreement-agreement.ensures.value) at (said k is)).1 fits.reference in let not' = w.if-not-first.true in
          both_ways _ holds not')
    ])

pub returns-clause-reads : goal.returns-clause-reads
returns-clause-reads g c =
    reads_then (reads_both c.in_ok-pledge.ensures.reads c.in_ok-under.ensures.reads) c.in_ok-first.ensures.reads (λ h both said k place is next within last.
    let agreed = c.agreement-agreement.ensures.value in
    let low : c.args.version ≤ c.agreement-agreement.result.now.version = let less = c.if-next-version.false in omega (arith, less) in (
      c.in_ok-pledge.pledge,
      both.0 k is within,
      record {
        number = let same = rw (c.agreement-agreement.ensures.value) at c.if-ne.ensures in grind (arith, nat_tests, same);
        reachable = c.in_ok-pledge.ensures.reachable;
        under = (both.1 k is).0 c.if-not-under.false;
        reference = (rw (c.agreement-agreement.ensures.value) at (said k is)).0 c.if-not-first.false;
        texts_and_words = c.know_texts_and_words.ensures.texts_and_words;
      },
      low,
      ap (λ (a : Agreement). a.version) agreed,
      c.row_count-rows.ensures.value,
    ))

pub row_count-rows-requires : goal.row_count-rows-requires
row_count-rows-requires g c = search rules
